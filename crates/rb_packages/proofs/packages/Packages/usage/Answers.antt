use Rattle.rb_packages.proofs.Lists.{files_seen}
use Rattle.rb_packages.proofs.packages.Packages.usage.Goals as goal

pub returns-clause-bytes : goal.returns-clause-bytes
returns-clause-bytes c = rw (files_seen c.self.inside.owned.entries c.self.view_is c.args.app.now) c.usage.ensures.bytes

pub returns-clause-bundles : goal.returns-clause-bundles
returns-clause-bundles c = rw (files_seen c.self.inside.owned.entries c.self.view_is c.args.app.now) c.usage.ensures.count
