use Rattle.std.proofs.lemmas.Result.{on_ok_weaker}
use Rattle.rb_packages.specs.Release.{edited}
use Rattle.rb_packages.proofs.Lists.{apps_changed, others_seen, files_changed}
use Rattle.rb_packages.proofs.Filled.{all_after_remove, filled_at}
use Rattle.rb_packages.proofs.packages.Packages.release.Goals as goal

pub returns-clause-files : goal.returns-clause-files
returns-clause-files c =
    let change = files_changed c.self.inside.owned.entries c.self.view_is c.app.result.now c.release.new.owned.entries in
    rw (← c.app.ensures, ← c.into_edits.ensures) (on_ok_weaker c.release.result (change (edited c.into_edits.result.items)) c.release.ensures.own)

pub returns-clause-others : goal.returns-clause-others
returns-clause-others c =
    rw (← c.app.ensures)
    (others_seen c.self.inside.owned.entries c.self.view_is c.app.result.now c.release.new.owned.entries c.release.ensures.others)

pub returns-clause-apps : goal.returns-clause-apps
returns-clause-apps c =
    let rows = c.self.inside.owned.entries in
    let app = c.app.result.now in
    rw (← c.app.ensures)
    (on_ok_weaker c.release.result (apps_changed rows c.self.view_is app c.release.new.owned.entries (filled_at app rows c.self.invariant))
    c.release.ensures.count)

pub invariant_of-self : goal.invariant_of-self
invariant_of-self c =
    all_after_remove c.app.result.now c.self.inside.owned.entries c.release.new.owned.entries c.self.invariant c.release.ensures.others
    c.release.result c.release.ensures.filled c.release.ensures.stays
