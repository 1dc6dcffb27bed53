use Rattle.std.proofs.Common.{◌≡◌, drop}
use Rattle.rb_tree.specs.Parts.{pairs_of}
use Rattle.rb_tree.specs.View.{view_of}
use Rattle.rb_parents.specs.inner.Entries.{read_tree, put_entries}
use Rattle.rb_parents.specs.Family.{parent_of}
use Rattle.rb_parents.proofs.parents.Parents.read.Given as goal

abbrev pub invariant-loop-i : goal.invariant-loop-i
invariant-loop-i l = put_entries (drop l.i (pairs_of (view_of l.table))) (parent_of l.parents) ≡ read_tree (view_of l.tree)
