use Rattle.std.proofs.Common.{subst, sym, arith}
use Rattle.rb_json.proofs.Spelling.{by_letter, by_code, by_itself}
use Rattle.rb_json.proofs.spell.put_escape.Goals as goal

pub returns-in-Some : goal.returns-in-Some
returns-in-Some g c =
    let is = c.in-Some.ensures in
    subst (g.O.Outlet.takes c.args.out.now c.put.new.self) (sym (by_letter c.args.byte c.in-Some.letter is.0 is.1)) c.put.ensures

pub returns-then-byte-lt32 : goal.returns-then-byte-lt32
returns-then-byte-lt32 g c = rw (by_code c.args.byte c.in-None.ensures (omega arith)) (rw (c.hex_digit.ensures, c.hex_digit-then-byte-lt32.ensures) at c.put-then-byte-lt32.ensures)

pub returns-else-byte-lt32 : goal.returns-else-byte-lt32
returns-else-byte-lt32 g c =
    subst (g.O.Outlet.takes c.args.out.now c.put-else-byte-lt32.new.self) (sym (by_itself c.args.byte c.in-None.ensures (omega arith))) c.put-else-byte-lt32.ensures
