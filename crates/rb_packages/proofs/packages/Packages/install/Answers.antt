use Rattle.std.proofs.Common.{◌++◌, ◌∷◌, []}
use Rattle.std.proofs.lemmas.Result.{on_ok_weaker}
use Rattle.rb_packages.proofs.Lists.{files_changed, fault_seen, pushed_seen, others_seen, apps_added}
use Rattle.rb_packages.proofs.Filled.{filled_at, all_after_install}
use Rattle.rb_packages.proofs.packages.Packages.install.Goals as goal

pub returns-clause-judged : goal.returns-clause-judged
returns-clause-judged c = fault_seen c.self.inside.owned.entries c.self.view_is c.args.app.now c.args.name c.install.result c.install.ensures.judged

pub returns-clause-files : goal.returns-clause-files
returns-clause-files c =
    let change = files_changed c.self.inside.owned.entries c.self.view_is c.args.app.now c.install.new.owned.entries in
    on_ok_weaker c.install.result (change (λ files. files ++ (c.args.name, c.args.bundle) ∷ [])) c.install.ensures.own

pub returns-clause-installed : goal.returns-clause-installed
returns-clause-installed c =
    let push = pushed_seen c.self.inside.owned.entries c.self.view_is c.args.app.now c.install.new.owned.entries in
    on_ok_weaker c.install.result (push c.args.name c.args.bundle) c.install.ensures.own

pub returns-clause-others : goal.returns-clause-others
returns-clause-others c =
    others_seen c.self.inside.owned.entries c.self.view_is c.args.app.now c.install.new.owned.entries c.install.ensures.others

pub returns-clause-apps : goal.returns-clause-apps
returns-clause-apps c =
    let rows = c.self.inside.owned.entries in
    let app = c.args.app.now in
    on_ok_weaker c.install.result (apps_added rows c.self.view_is app c.install.new.owned.entries (filled_at app rows c.self.invariant))
    c.install.ensures.count

pub invariant_of-self : goal.invariant_of-self
invariant_of-self c =
    all_after_install c.args.app.now c.self.inside.owned.entries c.install.new.owned.entries c.self.invariant c.install.ensures.others
    c.install.result (c.args.name, c.args.bundle) c.install.ensures.own c.install.ensures.stays
