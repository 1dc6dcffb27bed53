-- Defines the changes of an application's files that are made together, a rule of this project.
use Rattle.std.specs.Prelude.{◌≡◌, ℕ, Bool, List, [], ◌∷◌, Option, Some, None, Result, Ok, Err, map, length}
use Rattle.std.specs.Prelude.{nat_le, is_some, not, ◌&&◌, if◌then◌else◌}
use Rattle.std.specs.Map.{lookup, remove_entry}
use Rattle.std.specs.Str.{bytes_eq}
use Rattle.indexmap.specs.IndexMap.{insert_entry}
use Rattle.rb_packages.specs.Limits.{bundle_limit}
use Rattle.rb_packages.specs.Packages.{Files}
use Rattle.rb_packages.specs.declared.fault.DraftFault.{DraftFault}
use Rattle.rb_packages.specs.declared.fault.DraftFault.TheVariants.{Absent, Full, Memory}

-- a name, and its new file or none
abbrev pub Edits : Type 0
Edits = List (List ℕ × Option (List ℕ))

-- a file in place of the one with the name, or else at the end; or no file with the name
abbrev pub edited_at : List ℕ → Option (List ℕ) → Files → Files
edited_at name (Some file) files = insert_entry bytes_eq files name file
edited_at name None files = remove_entry (bytes_eq name) files

-- the files after these changes, one after another
abbrev pub edited : Edits → Files → Files
edited [] files = files
edited (e ∷ es) files = edited es (edited_at e.0 e.1 files)

-- names, and the lengths of the files that are stored under them
abbrev pub Sizes : Type 0
Sizes = List (List ℕ × ℕ)

abbrev pub sizes_of : Files → Sizes
sizes_of files = map (λ e. (e.0, length e.1)) files

-- changes of an application's files that are not made yet, and the sizes that there would be after them
pub record Drafted : Type 0 where
  pub app : List ℕ
  pub edits : Edits
  pub sizes : Sizes

-- the sizes are those of an application's files after the changes
abbrev pub IsDraftOf : Files → Drafted → Type 0
IsDraftOf files draft = draft.sizes ≡ sizes_of (edited draft.edits files)

abbrev pub has_all_edits : Drafted → Bool
has_all_edits draft = nat_le bundle_limit (length draft.edits)

abbrev pub has_size : List ℕ → Drafted → Bool
has_size name draft = is_some (lookup (bytes_eq name) draft.sizes)

-- the reason why a draft takes no other bundle under a name
abbrev pub put_fault : (name : List ℕ) → Drafted → Option DraftFault
put_fault name draft =
    if has_all_edits draft then Some Full
    else if not (has_size name draft) && nat_le bundle_limit (length draft.sizes) then Some Full
    else None

-- the reason why a draft doesn't take the removal of a bundle
abbrev pub removal_fault : (name : List ℕ) → Drafted → Option DraftFault
removal_fault name draft =
    if has_all_edits draft then Some Full else if has_size name draft then None else Some Absent

-- the fault if there is one, else success or `Memory`
abbrev pub IsDraftJudged : Option DraftFault → Result (Unit {0}) DraftFault → Type 0
IsDraftJudged fault (Ok done) = fault ≡ None
IsDraftJudged None (Err e) = e ≡ Memory
IsDraftJudged (Some fault) (Err e) = e ≡ fault
