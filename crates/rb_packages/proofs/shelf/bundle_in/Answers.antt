use Rattle.std.proofs.Common.{◌≡◌, Some, None, sym, ap, ◌∙◌, option_map}
use Rattle.std.specs.Map.{lookup}
use Rattle.std.specs.Option.{option_copied}
use Rattle.std.specs.Str.{bytes_eq}
use Rattle.rb_format.specs.File.{source_tree_of}
use Rattle.rb_packages.proofs.Lists.{bundle_at-shelf_of}
use Rattle.rb_packages.proofs.shelf.bundle_in.Goals as goal

pub returns-in-Some-clause-value : goal.returns-in-Some-clause-value
returns-in-Some-clause-value c =
    let name = c.args.name.now in
    let files = c.args.bundles.now.entries in
    let there : lookup (bytes_eq name) files ≡ Some c.in-Some.stored.now = sym c.get.ensures.value ∙ ap option_copied c.in-Some.is in
    (λ i. Some (record { tree = c.root_ahead.ensures.tree i; no_fallback = c.no_fallback.ensures i }))
    ∙ sym (bundle_at-shelf_of files name ∙ ap (option_map source_tree_of) there)

pub returns-in-None-clause-value : goal.returns-in-None-clause-value
returns-in-None-clause-value c =
    let name = c.args.name.now in
    let files = c.args.bundles.now.entries in
    let there : lookup (bytes_eq name) files ≡ None = sym c.get.ensures.value ∙ ap option_copied c.in-None.is in
    sym (bundle_at-shelf_of files name ∙ ap (option_map source_tree_of) there)

pub returns-in-Some-clause-place : goal.returns-in-Some-clause-place
returns-in-Some-clause-place c =
    let there : lookup (bytes_eq c.args.name.now) c.args.bundles.now.entries ≡ Some c.in-Some.stored.now =
    sym c.get.ensures.value ∙ ap option_copied c.in-Some.is in
    (c.in-Some.stored.now, there, c.root_ahead.ensures.data, c.root_ahead.ensures.word)
