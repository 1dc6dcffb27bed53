-- Proves what a child is that was found by its kind.
use Rattle.std.proofs.Common.{◌≡◌, Option, Some, None, Err, IfSome, IfNone, option_map, option_and_then, refl, sym, ap}
use Rattle.rb_tree.specs.Resource.{Resource, table}
use Rattle.rb_tree.specs.Parts.{kind_of, units_of}
use Rattle.rb_tree.specs.declared.kind.Kind.TheVariants as Kinds
use Rattle.rb_parents.specs.Trail.{text_of}
use Rattle.rb_parents.specs.inner.Entries.{read_entries}
use Rattle.rb_parents.specs.ParentMap.{entries_in}
use Rattle.rb_parents.specs.declared.fault.ParentsFault.TheVariants as fault
use Rattle.rb_parents.proofs.Explicits.{text_some, text_none}

pub text_found : {M : Type 0} (tree : M → Resource) (r : Option M) (o : Option Resource) → IfSome r (λ m. o ≡ Some (tree m))
    → IfSome r (λ m. kind_of (tree m) ≡ Kinds.String) → IfNone r ((t : Resource) → o ≡ Some t → kind_of t ≡ Kinds.String → ⊥)
    → option_map (λ m. units_of (tree m)) r ≡ option_and_then text_of o
text_found tree (Some m) o h k n = rw h (sym (text_some (tree m) k))
text_found tree None None h k n = refl
text_found tree None (Some t) h k n = sym (text_none t (n t refl))

no_table : (t : Resource) → (kind_of t ≡ Kinds.Table → ⊥) → entries_in (Some t) ≡ None
no_table (table es) n = absurd (n refl)
no_table t n = refl

pub table_missing : {M : Type 0} (r : Option M) (o : Option Resource)
    → IfNone r ((t : Resource) → o ≡ Some t → kind_of t ≡ Kinds.Table → ⊥) → IfNone r (read_entries (entries_in o) ≡ Err fault.Shape)
table_missing (Some m) o n = n
table_missing None None n = refl
table_missing None (Some t) n = ap read_entries (no_table t (n t refl))
