-- Defines how proofs see what the program returns.
use Rattle.std.specs.Prelude.{ℕ, List, drop, option_map, Result, Ok, Err}
use Rattle.std.specs.List.{slice_split}
use Rattle.rb_tree.specs.Path.{is_slash}
use Rattle.rb_tree.specs.Resource.{Resource}
use Rattle.rb_fallback.specs.Alias.{Aim, aims, no_text, no_package}
use Rattle.rb_fallback.specs.Search.{Hit}
use Rattle.rb_fallback.specs.declared.alias.Target.{Target}
use Rattle.rb_fallback.specs.declared.fault.AliasFault.{AliasFault}
use Rattle.rb_fallback.specs.declared.fault.AliasFault.TheVariants as fault
use Rattle.rb_fallback.specs.declared.fault.BoundedError.{BoundedError}
use Rattle.rb_fallback.specs.declared.fault.LookError.{LookError}
use Rattle.rb_fallback.specs.declared.found.Found.{Found}

-- a target of the alias with these units; its path is the text from an index on
abbrev pub aim_of : List ℕ → Result Target AliasFault → Aim
aim_of us (Ok t) = aims t.icudata t.name (option_map (λ i. slice_split is_slash (drop i us)) t.path_at)
aim_of us (Err fault.AliasText) = no_text
aim_of us (Err fault.AliasPackage) = no_package

-- what was found, with the tree of its node
abbrev pub hit_of : {N : Type 0} → (N → Resource) → Found N → Hit
hit_of tree f = record { tree = tree f.node; actual = f.actual }

-- the same at another node
abbrev pub with_node : {N M : Type 0} → Found N → M → Found M
with_node f node = record { node = node; actual = f.actual; valid = f.valid }

abbrev pub answer_of : {N : Type 0} → (N → Resource) → Result (Found N) LookError → Result Hit LookError
answer_of tree (Ok f) = Ok (hit_of tree f)
answer_of tree (Err e) = Err e

abbrev pub bounded_answer_of : {N : Type 0} → (N → Resource) → Result (Found N) BoundedError → Result Hit BoundedError
bounded_answer_of tree (Ok f) = Ok (hit_of tree f)
bounded_answer_of tree (Err e) = Err e
