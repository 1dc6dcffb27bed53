-- Defines the item of one tree that is printed whole at a path, a rule of this project: an alias at the path's end is
-- printed itself, and a path through an alias leads nowhere.
use Rattle.std.specs.Prelude.{ℕ, List, [], length, nat_lt, if◌then◌else◌, Option, Some, None, Result, Ok, Err}
use Rattle.rb_tree.specs.Resource.{Resource, alias}
use Rattle.rb_tree.specs.Path.{is_path, segments}
use Rattle.rb_tree.specs.Walk.{Walked, ends, links, walk}
use Rattle.rb_json.specs.Printed.{is_within, laid_out}
use Rattle.rb_json.specs.Value.{value_of}
use Rattle.rb_json.specs.declared.layout.Layout.{Layout}
use Rattle.rb_convert.specs.declared.value.ValueError.{ValueError}
use Rattle.rb_convert.specs.declared.value.ValueError.TheVariants.{BadPath, PathTooLong, Missing, TooLarge}
use Rattle.rb_fallback.specs.Limits.{path_limit}

abbrev pub reached : Walked → Option Resource
reached (ends t) = Some t
reached (links us walked []) = Some (alias us)
reached other = None

-- an item that is within the limits of a bundle's tree
abbrev pub light : Option Resource → Result Resource ValueError
light (Some t) = if is_within t then Ok t else Err TooLarge
light None = Err Missing

-- the item that is printed for a path, which has at most 1,024 bytes
abbrev pub shown : Resource → List ℕ → Result Resource ValueError
shown t path =
    if is_path path
    then (if nat_lt path_limit (length path) then Err PathTooLong else light (reached (walk t (segments path))))
    else Err BadPath

-- the item's JSON was written, and nothing else
abbrev pub Prints : (List ℕ → Type 0) → Layout → Result Resource ValueError → Type 0
Prints Takes layout (Ok t) = Takes (laid_out layout (value_of t))
Prints Takes layout (Err e) = ⊥
