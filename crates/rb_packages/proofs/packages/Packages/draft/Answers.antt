use Rattle.std.proofs.Common.{◌≡◌, IfOk, sym, ap, subst, ◌∙◌}
use Rattle.rb_packages.specs.Index.{entries_of}
use Rattle.rb_packages.specs.Packages.{Files}
use Rattle.rb_packages.specs.Release.{sizes_of}
use Rattle.rb_packages.proofs.Lists.{lent_files, files_seen}
use Rattle.rb_packages.proofs.packages.Packages.draft.Goals as goal

pub returns-clause-sizes : goal.returns-clause-sizes
returns-clause-sizes c =
    let same = lent_files c.bundles_of.result ∙ ap entries_of c.bundles_of.ensures ∙ sym (files_seen c.self.inside.owned.entries c.self.view_is c.args.app.now) in
    subst (λ (files : Files). IfOk c.of.result (λ draft. draft.sizes ≡ sizes_of files)) same c.of.ensures.sizes
