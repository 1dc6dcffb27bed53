use Rattle.std.proofs.Common.{◌≡◌, take, encode_utf8_all}
use Rattle.json.specs.Print.{escape}
use Rattle.rb_json.proofs.spell.are_plain.Given as goal

abbrev pub invariant-loop-i : goal.invariant-loop-i
invariant-loop-i l = escape (encode_utf8_all (take l.i l.bytes)) ≡ take l.i l.bytes
