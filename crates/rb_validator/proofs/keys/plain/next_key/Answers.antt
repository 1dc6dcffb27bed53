use Rattle.std.proofs.Common.{sym, arith}
use Rattle.rb_validator.proofs.Comparing.{key_low}
use Rattle.rb_validator.proofs.keys.plain.next_key.Goals as goal

pub is_below-requires : goal.is_below-requires
is_below-requires c =
    let l = key_low c.args.body.layout.now c.args.body.bytes.now c.in-Some.key.now c.args.offset (sym c.in-Some.ensures) in
    record { room = omega arith }

pub returns-in-Some-clause-most : goal.returns-in-Some-clause-most
returns-in-Some-clause-most c =
    let l = key_low c.args.body.layout.now c.args.body.bytes.now c.in-Some.key.now c.args.offset (sym c.in-Some.ensures) in
    omega arith

pub returns-in-Some-2-clause-most : goal.returns-in-Some-2-clause-most
returns-in-Some-2-clause-most c =
    let l = key_low c.args.body.layout.now c.args.body.bytes.now c.in-Some.key.now c.args.offset (sym c.in-Some.ensures) in
    omega arith
