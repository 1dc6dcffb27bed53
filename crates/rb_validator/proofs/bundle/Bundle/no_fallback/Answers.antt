use Rattle.std.proofs.Common.{◌≤◌, length, arith}
use Rattle.rb_validator.proofs.Cases.{root_is}
use Rattle.rb_validator.proofs.bundle.Bundle.no_fallback.Goals as goal

pub bounds-bytes-17 : goal.bounds-bytes-17
bounds-bytes-17 c =
    let long : 24 ≤ length c.bytes-bytes.result.now = rw c.bytes-bytes.ensures.bytes (root_is c.args.self.now c.bytes-bytes.ensures.denoted).long in
    omega (arith, long)

pub body-requires-clause-long : goal.body-requires-clause-long
body-requires-clause-long c = rw c.bytes-bytes.ensures.bytes (root_is c.args.self.now c.bytes-bytes.ensures.denoted).long

pub body-requires-clause-inside : goal.body-requires-clause-inside
body-requires-clause-inside c = rw c.bytes-bytes.ensures.bytes (root_is c.args.self.now c.bytes-bytes.ensures.denoted).inside

pub of-requires : goal.of-requires
of-requires c = rw (c.body.ensures, c.bytes-bytes.ensures.bytes) (root_is c.args.self.now c.bytes-bytes.ensures.denoted).laid

pub returns : goal.returns
returns c = rw (c.no_fallback.ensures, c.of.ensures, c.body.ensures, c.bytes-bytes.ensures.bytes) (root_is c.args.self.now c.bytes-bytes.ensures.denoted).flag
