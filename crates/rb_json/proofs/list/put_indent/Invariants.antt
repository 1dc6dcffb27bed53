use Rattle.std.proofs.Common.{◌*◌, replicate}
use Rattle.rb_json.proofs.list.put_indent.Given as goal

abbrev pub invariant-loop-step : goal.invariant-loop-step
invariant-loop-step g l = g.O.Outlet.takes l.fn.out l.out (replicate (2 * l._step) 32)
