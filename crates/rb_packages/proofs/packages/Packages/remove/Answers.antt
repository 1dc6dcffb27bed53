use Rattle.std.proofs.lemmas.Result.{IfOk-weaker, on_ok_weaker, on_err_weaker}
use Rattle.std.specs.Map.{remove_entry}
use Rattle.std.specs.Str.{bytes_eq}
use Rattle.rb_packages.proofs.Lists.{files_changed, file_seen, found_seen, absent_seen, removed_seen, others_seen, apps_left}
use Rattle.rb_packages.proofs.Filled.{all_after_remove}
use Rattle.rb_packages.proofs.packages.Packages.remove.Goals as goal

pub returns-clause-file : goal.returns-clause-file
returns-clause-file c =
    IfOk-weaker c.remove.result _ _ (file_seen c.self.inside.owned.entries c.self.view_is c.args.app.now c.args.name.now) c.remove.ensures.found

pub returns-clause-old : goal.returns-clause-old
returns-clause-old c =
    IfOk-weaker c.remove.result _ _ (found_seen c.self.inside.owned.entries c.self.view_is c.args.app.now c.args.name.now) c.remove.ensures.found

pub returns-clause-absent : goal.returns-clause-absent
returns-clause-absent c =
    on_err_weaker c.remove.result (absent_seen c.self.inside.owned.entries c.self.view_is c.args.app.now c.args.name.now) c.remove.ensures.absent

pub returns-clause-files : goal.returns-clause-files
returns-clause-files c =
    let change = files_changed c.self.inside.owned.entries c.self.view_is c.args.app.now c.remove.new.owned.entries in
    on_ok_weaker c.remove.result (change (λ files. remove_entry (bytes_eq c.args.name.now) files)) c.remove.ensures.own

pub returns-clause-removed : goal.returns-clause-removed
returns-clause-removed c =
    let removal = removed_seen c.self.inside.owned.entries c.self.view_is c.args.app.now c.remove.new.owned.entries in
    on_ok_weaker c.remove.result (removal c.args.name.now) c.remove.ensures.own

pub returns-clause-others : goal.returns-clause-others
returns-clause-others c =
    others_seen c.self.inside.owned.entries c.self.view_is c.args.app.now c.remove.new.owned.entries c.remove.ensures.others

pub returns-clause-apps : goal.returns-clause-apps
returns-clause-apps c =
    on_ok_weaker c.remove.result (apps_left c.self.inside.owned.entries c.self.view_is c.args.app.now c.remove.new.owned.entries)
    c.remove.ensures.count

pub invariant_of-self : goal.invariant_of-self
invariant_of-self c =
    all_after_remove c.args.app.now c.self.inside.owned.entries c.remove.new.owned.entries c.self.invariant c.remove.ensures.others
    c.remove.result c.remove.ensures.filled c.remove.ensures.stays
