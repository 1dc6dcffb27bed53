use Rattle.std.proofs.Common.{◌≡◌, ◌<◌, ℕ, get_or}
use Rattle.rb_tree.specs.Resource.{Resource}
use Rattle.rb_tree.specs.Parts.{children_of, kind_of}
use Rattle.rb_tree.specs.View.{view_of}
use Rattle.rb_tree.specs.declared.kind.Kind.TheVariants as Kinds
use Rattle.rb_parents.proofs.parents.are_strings.Given as goal

abbrev pub invariant-loop-i : goal.invariant-loop-i
invariant-loop-i l = (k : ℕ) (d : Resource) → k < l.i → kind_of (get_or (children_of (view_of l.value)) k d) ≡ Kinds.String
