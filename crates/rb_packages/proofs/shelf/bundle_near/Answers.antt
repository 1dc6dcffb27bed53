use Rattle.std.proofs.Common.{◌≡◌, Some, sym, ap, subst, ◌∙◌, option_map}
use Rattle.std.proofs.lemmas.Slice.Eq.{bytes_eq-Decides}
use Rattle.std.specs.Map.{lookup}
use Rattle.std.specs.Str.{bytes_eq}
use Rattle.rb_format.specs.File.{source_tree_of}
use Rattle.rb_packages.proofs.Lists.{bundle_at-shelf_of}
use Rattle.rb_packages.proofs.shelf.bundle_near.Goals as goal

pub returns-then-eq-clause-value : goal.returns-then-eq-clause-value
returns-then-eq-clause-value c =
    let name = c.args.name.now in
    let files = c.args.bundles.now.entries in
    let same : c.in-Some.other.now ≡ name =
    sym c.as_bytes.ensures.bytes ∙ (bytes_eq-Decides _ _).0 (sym c.eq.ensures ∙ c.if-eq.true) ∙ c.as_bytes-in-Some.ensures.bytes in
    let there : lookup (bytes_eq name) files ≡ Some c.in-Some.stored.now = subst (λ n. lookup (bytes_eq n) files ≡ Some c.in-Some.stored.now) same c.in-Some.ensures.value in
    (λ i. Some (record { tree = c.root_ahead.ensures.tree i; no_fallback = c.no_fallback.ensures i }))
    ∙ sym (bundle_at-shelf_of files name ∙ ap (option_map source_tree_of) there)
