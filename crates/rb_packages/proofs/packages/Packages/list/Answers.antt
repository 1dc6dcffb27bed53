use Rattle.std.proofs.Common.{◌≡◌, Some, None, sym, ap, ◌∙◌, []}
use Rattle.std.proofs.lemmas.Result.{IfOk-weaker}
use Rattle.std.specs.Map.{lookup}
use Rattle.std.specs.Option.{option_copied}
use Rattle.std.specs.Str.{bytes_eq}
use Rattle.rb_packages.specs.Index.{entries_of}
use Rattle.rb_packages.proofs.Lists.{names_seen}
use Rattle.rb_packages.proofs.packages.Packages.list.Goals as goal

pub returns-in-Some : goal.returns-in-Some
returns-in-Some c =
    let rows = c.self.inside.owned.entries in
    let app = c.args.app.now in
    let there : lookup (bytes_eq app) rows ≡ Some c.in-Some.bundles.now = sym c.bundles_of.ensures ∙ ap option_copied c.in-Some.is in
    let names = names_seen rows c.self.view_is app c.in-Some.bundles.now.entries (ap entries_of there) in
    IfOk-weaker c.names.result _ _ (λ listed h. h ∙ sym names) c.names.ensures

pub returns-in-None : goal.returns-in-None
returns-in-None c =
    let rows = c.self.inside.owned.entries in
    let app = c.args.app.now in
    let there : lookup (bytes_eq app) rows ≡ None = sym c.bundles_of.ensures ∙ ap option_copied c.in-None.is in
    c.new.ensures.items ∙ sym (names_seen rows c.self.view_is app [] (ap entries_of there))
