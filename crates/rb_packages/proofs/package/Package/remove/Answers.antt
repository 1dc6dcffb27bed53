use Rattle.std.proofs.Common.{length, sym, ap, arith}
use Rattle.rb_packages.specs.Usage.{bytes_of}
use Rattle.rb_packages.proofs.Sums.{bytes-remove}
use Rattle.rb_packages.proofs.package.Package.remove.Goals as goal

pub invariant_of-self : goal.invariant_of-self
invariant_of-self c =
    let old = c.self.inside.bundles.entries in
    let less = bytes-remove old c.args.name.now c.in-Some.bundle (sym c.in-Some.ensures.found) in
    let left = ap bytes_of c.in-Some.ensures.left in
    let len = ap length c.bytes.ensures.bytes in
    c.bytes_after-self-inside.ensures (bytes_of old) c.self.invariant (omega (arith, less, left, len))
