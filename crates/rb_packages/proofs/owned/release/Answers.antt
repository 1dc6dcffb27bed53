use Rattle.std.proofs.Common.{◌≡◌, Some, is_some, sym, ap, ◌∙◌, arith}
use Rattle.std.specs.Map.{lookup}
use Rattle.std.specs.Option.{option_copied_mut}
use Rattle.std.specs.Str.{bytes_eq}
use Rattle.rb_packages.specs.Index.{files_by_app}
use Rattle.rb_packages.proofs.Lists.{files_by_app-set_value}
use Rattle.rb_packages.proofs.owned.release.Goals as goal

pub returns-in-Err-clause-stays : goal.returns-in-Err-clause-stays
returns-in-Err-clause-stays c =
    let app = c.args.app.now in
    let rows = c.args.owned.now.entries in
    let old = c.in-Some.bundles.now in
    let new = c.edit_all.new.self in
    let there : lookup (bytes_eq app) rows ≡ Some old = sym c.get_mut.ensures.value ∙ ap option_copied_mut c.in-Some.is in
    let written = c.get_mut.follows.holds new in
    ap files_by_app written.0 ∙ files_by_app-set_value app rows old new there c.in-Err.ensures.stays

pub returns-clause-count : goal.returns-clause-count
returns-clause-count c =
    let app = c.args.app.now in
    let rows = c.args.owned.now.entries in
    let there : lookup (bytes_eq app) rows ≡ Some c.in-Some.bundles.now = sym c.get_mut.ensures.value ∙ ap option_copied_mut c.in-Some.is in
    let written = c.get_mut.follows.holds c.edit_all.new.self in
    let left = c.remove_if_empty.ensures.count (ap is_some (written.3 (ap is_some there)).1) in
    rw (there, c.remove_if_empty.ensures.own) (omega (arith, left, written.2))
