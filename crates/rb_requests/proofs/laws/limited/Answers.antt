use Rattle.rb_requests.proofs.Histories.{isolated}
use Rattle.rb_requests.proofs.Quota.{within_quota}
use Rattle.rb_requests.proofs.laws.limited.Goals as goal

pub returns-clause-isolated : goal.returns-clause-isolated
returns-clause-isolated c = isolated c.isolated.ensures.one

pub returns-clause-quota : goal.returns-clause-quota
returns-clause-quota c = within_quota
