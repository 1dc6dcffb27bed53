use Rattle.std.proofs.Common.{◌≡◌, true, false, is_some, refl, arith}
use Rattle.std.specs.Map.{lookup}
use Rattle.std.specs.Str.{bytes_eq}
use Rattle.rb_packages.proofs.Lists.{there, full, room, judged_add}
use Rattle.rb_packages.proofs.bundles.install.Goals as goal

pub returns-then-contains_key-clause-judged : goal.returns-then-contains_key-clause-judged
returns-then-contains_key-clause-judged c =
    let h : is_some (lookup (bytes_eq c.args.name) c.args.bundles.now.entries) ≡ true = cc in
    rw (there c.args.name c.args.bundles.now.entries h) refl

pub returns-then-len-ge-BUNDLE_LIMIT-clause-judged : goal.returns-then-len-ge-BUNDLE_LIMIT-clause-judged
returns-then-len-ge-BUNDLE_LIMIT-clause-judged c =
    let h : is_some (lookup (bytes_eq c.args.name) c.args.bundles.now.entries) ≡ false = cc in
    rw (full c.args.name c.args.bundles.now.entries h (omega (arith, c.len.ensures.len))) refl

pub returns-clause-judged : goal.returns-clause-judged
returns-clause-judged c =
    let h : is_some (lookup (bytes_eq c.args.name) c.args.bundles.now.entries) ≡ false = cc in
    judged_add c.add.result c.args.bundle _ (room c.args.name c.args.bundles.now.entries h (omega (arith, c.len.ensures.len))) c.add.ensures.error
