use Rattle.std.proofs.Common.{◌≡◌, Some, ap, sym, ◌∙◌}
use Rattle.std.proofs.lemmas.Map.Made.{lookup_key_same}
use Rattle.std.proofs.lemmas.Slice.Eq.{bytes_eq-Decides}
use Rattle.rb_packages.proofs.shelf.index_in.Goals as goal

pub returns-in-Some-clause-found : goal.returns-in-Some-clause-found
returns-in-Some-clause-found c =
    let name = c.args.name.now in
    let k = c.in-Some.field-0-1.now in
    let file = c.in-Some.field-0-2.now in
    let same : name ≡ k = lookup_key_same bytes_eq-Decides name c.args.bundles.now.entries k (sym c.in-Some.ensures.key) in
    (file, c.in-Some.ensures.entry ∙ ap (λ n. Some (n, file)) (sym same), sym c.in-Some.ensures.value)
