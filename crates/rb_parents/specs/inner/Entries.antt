-- Defines the reading of explicit parents entry by entry and child by child, like the program, for proofs only.
use Rattle.std.specs.Prelude.{ℕ, List, [], ◌∷◌, Option, Some, None, Result, Ok, Err, codes, is_some, if◌then◌else◌}
use Rattle.std.specs.Prelude.{nat_eq}
use Rattle.std.specs.Cmp.Lexicographic.{pointwise}
use Rattle.std.specs.Map.{update}
use Rattle.rb_tree.specs.Resource.{Resource}
use Rattle.rb_tree.specs.Parts.{child_of}
use Rattle.rb_locales.specs.Locale.{name}
use Rattle.rb_parents.specs.Trail.{ParentsOf}
use Rattle.rb_parents.specs.ParentMap.{Entries, texts_in, entries_in}
use Rattle.rb_parents.specs.declared.fault.ParentsFault.{ParentsFault}
use Rattle.rb_parents.specs.declared.fault.ParentsFault.TheVariants as fault

-- a map from children to parents, or the first error
abbrev pub Read : Type 0
Read = Result ParentsOf ParentsFault

abbrev pub and_then : (ParentsOf → Read) → Read → Read
and_then go (Ok known) = go known
and_then go (Err e) = Err e

-- each element of a list in order, up to the first error
abbrev pub put_each : {A : Type 0} → (A → ParentsOf → Read) → List A → ParentsOf → Read
put_each put [] known = Ok known
put_each put (x ∷ xs) known = and_then (λ more. put_each put xs more) (put x known)

-- adds a child, which must be a name without a parent
abbrev pub put_child : List ℕ → Option (List ℕ) → ParentsOf → Read
put_child parent None known = Err fault.BadLocale
put_child parent (Some child) known =
    if is_some (known child) then Err fault.TwoParents else Ok (update (pointwise nat_eq) known child (Some parent))

abbrev pub put_children : List ℕ → List (List ℕ) → ParentsOf → Read
put_children parent uss known = put_each (λ us k. put_child parent (name us) k) uss known

-- adds an entry: its key is read first, then the shape of its value, then its children
abbrev pub put_value : List ℕ → Option (List (List ℕ)) → ParentsOf → Read
put_value parent None known = Err fault.Shape
put_value parent (Some uss) known = put_children parent uss known

abbrev pub put_entry : Option (List ℕ) → Resource → ParentsOf → Read
put_entry None value known = Err fault.BadLocale
put_entry (Some parent) value known = put_value parent (texts_in value) known

abbrev pub put_entries : Entries → ParentsOf → Read
put_entries es known = put_each (λ e k. put_entry (name e.0) e.1 k) es known

abbrev pub no_parents : ParentsOf
no_parents n = None

abbrev pub read_entries : Option Entries → Read
read_entries None = Err fault.Shape
read_entries (Some es) = put_entries es no_parents

abbrev pub read_tree : Resource → Read
read_tree t = read_entries (entries_in (child_of (codes "parentLocales") t))
