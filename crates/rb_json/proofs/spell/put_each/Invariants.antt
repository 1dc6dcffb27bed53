use Rattle.std.proofs.Common.{take, encode_utf8_all}
use Rattle.json.specs.Print.{escape}
use Rattle.rb_json.proofs.spell.put_each.Given as goal

abbrev pub invariant-loop-byte : goal.invariant-loop-byte
invariant-loop-byte g l = g.O.Outlet.takes l.fn.out l.out (escape (encode_utf8_all (take l.byte-index l.bytes)))
