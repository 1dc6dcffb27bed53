use Rattle.rb_packages.proofs.Lists.{files_seen}
use Rattle.rb_packages.proofs.packages.Packages.bundle.Goals as goal

pub returns : goal.returns
returns c = rw (files_seen c.self.inside.owned.entries c.self.view_is c.args.app.now) c.bundle.ensures
