use Rattle.std.proofs.Common.{take}
use Rattle.serde_json.specs.Data.{number, unsigned}
use Rattle.rb_tree.specs.Parts.{units_of}
use Rattle.rb_json.specs.inner.Lines.{item_at}
use Rattle.rb_json.specs.inner.Listed.{listed}
use Rattle.rb_json.proofs.list.put_unit_items.Given as goal

abbrev pub invariant-loop-i : goal.invariant-loop-i
invariant-loop-i g l =
    g.O.Outlet.takes l.fn.out l.out (listed (λ u. item_at l.layout l.depth (number (unsigned u))) (take l.i (units_of (g.N.Node.tree l.node))))
