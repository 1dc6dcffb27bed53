use Rattle.std.proofs.Common.{◌≡◌, Some, ap, sym, ◌∙◌, option_map}
use Rattle.std.proofs.lemmas.Map.Made.{lookup_key_same}
use Rattle.std.proofs.lemmas.Option.{slice_get-map}
use Rattle.std.proofs.lemmas.Slice.Eq.{bytes_eq-Decides}
use Rattle.rb_packages.specs.Index.{entries_of}
use Rattle.rb_packages.proofs.owned.index_of.Goals as goal

pub returns-clause-found : goal.returns-clause-found
returns-clause-found c =
    let app = c.args.app.now in
    let rows = c.args.owned.now.entries in
    let k = c.in-Some.field-0-1.now in
    let bundles = c.in-Some.field-0-2.now in
    let same : app ≡ k = lookup_key_same bytes_eq-Decides app rows k (sym c.in-Some.ensures.key) in
    slice_get-map _ rows c.in-Some.index
    ∙ ap (option_map (λ e. (e.0, e.1.entries))) c.in-Some.ensures.entry
    ∙ ap (λ n. Some (n, bundles.entries)) (sym same)
    ∙ ap (λ o. Some (app, entries_of o)) c.in-Some.ensures.value
