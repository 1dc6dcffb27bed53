use Rattle.std.proofs.Common.{◌≡◌, Some, ap, sym, ◌∙◌}
use Rattle.std.specs.List.{slice_get}
use Rattle.rb_packages.proofs.Lists.{files_seen, if_none, if_some}
use Rattle.rb_packages.proofs.packages.Packages.app_index.Goals as goal

pub returns-clause-found : goal.returns-clause-found
returns-clause-found c =
    let app = c.args.app.now in
    let rows = c.self.inside.owned.entries in
    if_some c.index_of.result
    (λ i h. ap (λ s. slice_get s.owned i) (sym c.self.view_is) ∙ h ∙ ap (λ files. Some (app, files)) (sym (files_seen rows c.self.view_is app)))
    c.index_of.ensures.found

pub returns-clause-none : goal.returns-clause-none
returns-clause-none c =
    if_none c.index_of.result (λ h. files_seen c.self.inside.owned.entries c.self.view_is c.args.app.now ∙ h) c.index_of.ensures.none
