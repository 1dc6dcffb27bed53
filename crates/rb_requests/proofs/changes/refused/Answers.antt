use Rattle.rb_packages.specs.Packages.{files_of}
use Rattle.rb_packages.specs.Usage.{apps_of}
use Rattle.rb_requests.proofs.Judging.{keeps_nothing}
use Rattle.rb_requests.proofs.changes.refused.Goals as goal

pub returns-then-keeps_all : goal.returns-then-keeps_all
returns-then-keeps_all c =
    let none = c.keeps_all.ensures c.if-keeps_all.true in
    keeps_nothing c.args.limits.now c.args.change c.args.incoming.now.0.name (files_of c.args.incoming.now.0.app c.args.engine.now.packages)
    (apps_of c.args.engine.now.packages) c.args.incoming.now.1 none.0 none.1 none.2
