use Rattle.std.proofs.Common.{encode_utf8_all, take}
use Rattle.json.specs.Print.{quoted}
use Rattle.rb_json.specs.inner.Listed.{listed}
use Rattle.rb_replies.proofs.reply.put_name_items.Given as goal

abbrev pub invariant-loop-i : goal.invariant-loop-i
invariant-loop-i g l = g.O.Outlet.takes l.fn.out l.out (listed (λ k. quoted (encode_utf8_all k)) (take l.i l.names))
