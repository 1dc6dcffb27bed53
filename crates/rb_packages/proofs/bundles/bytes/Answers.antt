use Rattle.std.proofs.Common.{◌≡◌, ◌∙◌, ◌+◌, map, length, min, rules}
use Rattle.std.specs.List.{fold}
use Rattle.std.specs.Map.{values_of}
use Rattle.rb_packages.proofs.Sums.{bytes_to}
use Rattle.rb_packages.proofs.bundles.bytes.Goals as goal

pub returns : goal.returns
returns c =
    let files = c.args.bundles.now.entries in
    let summed : c.fold.result ≡ fold (λ s x. min (s + x) 18446744073709551615) 0 (map length (values_of files)) = search rules fits 4000 in
    summed ∙ bytes_to 18446744073709551615 files
