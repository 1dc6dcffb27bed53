use Rattle.std.proofs.lemmas.Result.{IfOk-weaker, on_ok_weaker, on_err_weaker}
use Rattle.std.specs.Map.{set_value}
use Rattle.std.specs.Str.{bytes_eq}
use Rattle.rb_packages.proofs.Lists.{files_changed, file_seen, found_seen, absent_seen, replaced_seen, others_seen, apps_kept}
use Rattle.rb_packages.proofs.Filled.{all_after_replace}
use Rattle.rb_packages.proofs.packages.Packages.replace.Goals as goal

pub returns-clause-file : goal.returns-clause-file
returns-clause-file c =
    IfOk-weaker c.replace.result _ _ (file_seen c.self.inside.owned.entries c.self.view_is c.args.app.now c.args.name.now) c.replace.ensures.found

pub returns-clause-old : goal.returns-clause-old
returns-clause-old c =
    IfOk-weaker c.replace.result _ _ (found_seen c.self.inside.owned.entries c.self.view_is c.args.app.now c.args.name.now) c.replace.ensures.found

pub returns-clause-absent : goal.returns-clause-absent
returns-clause-absent c =
    on_err_weaker c.replace.result (absent_seen c.self.inside.owned.entries c.self.view_is c.args.app.now c.args.name.now) c.replace.ensures.absent

pub returns-clause-files : goal.returns-clause-files
returns-clause-files c =
    let change = files_changed c.self.inside.owned.entries c.self.view_is c.args.app.now c.replace.new.owned.entries in
    on_ok_weaker c.replace.result (change (λ files. set_value (bytes_eq c.args.name.now) files c.args.bundle)) c.replace.ensures.own

pub returns-clause-replaced : goal.returns-clause-replaced
returns-clause-replaced c =
    let replacement = replaced_seen c.self.inside.owned.entries c.self.view_is c.args.app.now c.replace.new.owned.entries in
    on_ok_weaker c.replace.result (replacement c.args.name.now c.args.bundle) c.replace.ensures.own

pub returns-clause-others : goal.returns-clause-others
returns-clause-others c =
    others_seen c.self.inside.owned.entries c.self.view_is c.args.app.now c.replace.new.owned.entries c.replace.ensures.others

pub returns-clause-apps : goal.returns-clause-apps
returns-clause-apps c =
    apps_kept c.self.inside.owned.entries c.self.view_is c.args.app.now c.replace.new.owned.entries c.replace.ensures.count

pub invariant_of-self : goal.invariant_of-self
invariant_of-self c =
    all_after_replace c.args.app.now c.self.inside.owned.entries c.replace.new.owned.entries c.self.invariant c.replace.ensures.others
    c.replace.result c.args.name.now c.args.bundle c.replace.ensures.found c.replace.ensures.own c.replace.ensures.stays
