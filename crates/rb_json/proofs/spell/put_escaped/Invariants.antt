use Rattle.std.proofs.Common.{length, ◌-◌, take}
use Rattle.json.specs.Print.{escape}
use Rattle.rb_json.proofs.spell.put_escaped.Given as goal

abbrev pub invariant-loop-at : goal.invariant-loop-at
invariant-loop-at g l = g.O.Outlet.takes l.fn.out l.out (escape (take l.at l.bytes))

abbrev pub decreases-loop-at : goal.decreases-loop-at
decreases-loop-at g l = length l.bytes - l.at
