use Rattle.std.proofs.Common.{length, ap, arith}
use Rattle.rb_packages.specs.Usage.{bytes_of}
use Rattle.rb_packages.proofs.Sums.{bytes-set}
use Rattle.rb_packages.proofs.package.Package.replace.Goals as goal

pub invariant_of-self : goal.invariant_of-self
invariant_of-self c =
    let old = c.self.inside.bundles.entries in
    let other = bytes-set old c.args.name.now c.args.bundle c.in-Ok.old c.in-Ok.ensures.found in
    let set = ap bytes_of c.in-Ok.ensures.replaced in
    let come = ap length c.bytes.ensures.bytes in
    let gone = ap length c.bytes-in-Ok.ensures.bytes in
    c.bytes_after-self-inside.ensures (bytes_of old) c.self.invariant (omega (arith, other, set, come, gone))
