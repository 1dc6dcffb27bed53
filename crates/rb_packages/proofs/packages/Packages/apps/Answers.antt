use Rattle.std.proofs.Common.{sym, ◌∙◌}
use Rattle.rb_packages.proofs.Lists.{apps_seen}
use Rattle.rb_packages.proofs.Filled.{are_there_once}
use Rattle.rb_packages.proofs.packages.Packages.apps.Goals as goal

pub returns-clause-count : goal.returns-clause-count
returns-clause-count c = c.len.ensures.len ∙ sym (apps_seen c.self.inside.owned.entries c.self.view_is)

pub returns-clause-once : goal.returns-clause-once
returns-clause-once c = are_there_once c.self.inside.owned.entries c.self.view_is c.len.ensures.unique c.self.invariant
