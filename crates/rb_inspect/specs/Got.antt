-- Defines the item of one tree at a path, a rule of this project: the item as JSON; an alias on the way is given
-- itself, with the remaining path.
use Rattle.std.specs.Prelude.{ℕ, List, [], length, nat_lt, if◌then◌else◌, Result, Ok, Err}
use Rattle.std.specs.List.{join_with_byte}
use Rattle.serde_json.specs.Data.{Data}
use Rattle.rb_tree.specs.Resource.{Resource, alias}
use Rattle.rb_tree.specs.Path.{is_path, segments}
use Rattle.rb_tree.specs.Walk.{Walked, ends, links, gone, walk}
use Rattle.rb_json.specs.Item.{item_data}
use Rattle.rb_inspect.specs.declared.item.ItemError.{ItemError}
use Rattle.rb_inspect.specs.declared.item.ItemError.TheVariants.{BadPath, PathTooLong, Missing}
use Rattle.rb_fallback.specs.Limits.{path_limit}

abbrev pub shown : Walked → Result Data ItemError
shown (ends t) = Ok (item_data t [])
shown (links us walked rest) = Ok (item_data (alias us) (join_with_byte 47 rest))
shown gone = Err Missing

-- a path has at most 1,024 bytes
abbrev pub got : Resource → List ℕ → Result Data ItemError
got t path = if is_path path
    then (if nat_lt path_limit (length path) then Err PathTooLong else shown (walk t (segments path))) else Err BadPath
