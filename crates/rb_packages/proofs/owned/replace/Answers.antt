use Rattle.std.proofs.Common.{◌≡◌, Some, sym, ap, ◌∙◌}
use Rattle.std.specs.Map.{lookup}
use Rattle.std.specs.Option.{option_copied_mut}
use Rattle.std.specs.Str.{bytes_eq}
use Rattle.std.proofs.lemmas.Result.{on_err_weaker}
use Rattle.rb_packages.specs.Index.{files_by_app}
use Rattle.rb_packages.proofs.Lists.{files_by_app-set_value}
use Rattle.rb_packages.proofs.owned.replace.Goals as goal

pub returns-in-Some-clause-stays : goal.returns-in-Some-clause-stays
returns-in-Some-clause-stays c =
    let app = c.args.app.now in
    let rows = c.args.owned.now.entries in
    let old = c.in-Some.bundles.now in
    let new = c.replace.new.self in
    let there : lookup (bytes_eq app) rows ≡ Some old = sym c.get_mut.ensures.value ∙ ap option_copied_mut c.in-Some.is in
    let written = c.get_mut.follows.holds new in
    on_err_weaker c.replace.result (λ same. ap files_by_app written.0 ∙ files_by_app-set_value app rows old new there same) c.replace.ensures.stays

pub returns-in-Some-clause-count : goal.returns-in-Some-clause-count
returns-in-Some-clause-count c = let written = c.get_mut.follows.holds c.replace.new.self in written.2
