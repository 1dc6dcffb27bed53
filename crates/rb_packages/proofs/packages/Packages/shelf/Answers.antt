use Rattle.std.proofs.Common.{sym, ap, ◌∙◌}
use Rattle.rb_packages.specs.Shelf.{bundle_at}
use Rattle.rb_packages.specs.Packages.{shelf_of}
use Rattle.rb_packages.specs.Index.{entries_of}
use Rattle.rb_packages.proofs.Lists.{files_seen, lent_files}
use Rattle.rb_packages.proofs.packages.Packages.shelf.Goals as goal

pub returns-clause-files : goal.returns-clause-files
returns-clause-files c =
    lent_files c.bundles_of.result ∙ ap entries_of c.bundles_of.ensures ∙ sym (files_seen c.self.inside.owned.entries c.self.view_is c.args.app.now)

pub returns-clause-bundles : goal.returns-clause-bundles
returns-clause-bundles c =
    ap (λ files. bundle_at (shelf_of files))
    (lent_files c.bundles_of.result ∙ ap entries_of c.bundles_of.ensures ∙ sym (files_seen c.self.inside.owned.entries c.self.view_is c.args.app.now))
