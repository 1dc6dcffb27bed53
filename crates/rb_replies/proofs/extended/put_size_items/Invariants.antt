use Rattle.std.proofs.Common.{take}
use Rattle.serde_json.specs.Written.{compact_text}
use Rattle.rb_json.specs.inner.Listed.{listed}
use Rattle.rb_replies.specs.Extended.{size_data}
use Rattle.rb_replies.proofs.extended.put_size_items.Given as goal

abbrev pub invariant-loop-i : goal.invariant-loop-i
invariant-loop-i g l = g.O.Outlet.takes l.fn.out l.out (listed (λ s. compact_text (size_data s)) (take l.i l.sizes))
