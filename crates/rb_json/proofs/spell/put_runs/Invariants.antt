use Rattle.std.proofs.Common.{◌-◌}
use Rattle.rb_json.specs.inner.Spelled.{Spells}
use Rattle.rb_tree.specs.Parts.{units_of}
use Rattle.rb_json.proofs.spell.put_runs.Given as goal

abbrev pub invariant-loop-at : goal.invariant-loop-at
invariant-loop-at g l = Spells (g.O.Outlet.takes l.fn.out l.out) (units_of (g.N.Node.tree l.node)) 0 l.at

abbrev pub decreases-loop-at : goal.decreases-loop-at
decreases-loop-at g l = l.len - l.at
