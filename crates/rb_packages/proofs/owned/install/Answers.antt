use Rattle.std.proofs.Common.{◌≡◌, Some, sym, ap, ◌∙◌, arith}
use Rattle.std.specs.Map.{lookup}
use Rattle.std.specs.Option.{option_copied_mut}
use Rattle.std.specs.Str.{bytes_eq}
use Rattle.std.proofs.lemmas.Result.{on_ok_weaker, on_err_weaker}
use Rattle.rb_packages.specs.Index.{files_by_app}
use Rattle.rb_packages.proofs.Lists.{files_by_app-set_value}
use Rattle.rb_packages.proofs.owned.install.Goals as goal

pub returns-in-Some-clause-stays : goal.returns-in-Some-clause-stays
returns-in-Some-clause-stays c =
    let app = c.args.app.now in
    let rows = c.args.owned.now.entries in
    let old = c.in-Some.bundles.now in
    let new = c.install.new.self in
    let there : lookup (bytes_eq app) rows ≡ Some old = sym c.get_mut.ensures.value ∙ ap option_copied_mut c.in-Some.is in
    let written = c.get_mut.follows.holds new in
    on_err_weaker c.install.result (λ same. ap files_by_app written.0 ∙ files_by_app-set_value app rows old new there same) c.install.ensures.stays

pub returns-in-Some-clause-count : goal.returns-in-Some-clause-count
returns-in-Some-clause-count c =
    let app = c.args.app.now in
    let rows = c.args.owned.now.entries in
    let there : lookup (bytes_eq app) rows ≡ Some c.in-Some.bundles.now = sym c.get_mut.ensures.value ∙ ap option_copied_mut c.in-Some.is in
    let written = c.get_mut.follows.holds c.install.new.self in
    on_ok_weaker c.install.result (λ _. rw there (omega (arith, written.2))) c.install.ensures.added
