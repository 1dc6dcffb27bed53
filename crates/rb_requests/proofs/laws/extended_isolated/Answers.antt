use Rattle.rb_requests.proofs.ExtendedIsolation.{extended_isolated, leaves_alone, replies_alike}
use Rattle.rb_requests.proofs.laws.extended_isolated.Goals as goal

pub returns-clause-alike : goal.returns-clause-alike
returns-clause-alike c = replies_alike

pub returns-clause-alone : goal.returns-clause-alone
returns-clause-alone c = leaves_alone

pub returns-clause-lines : goal.returns-clause-lines
returns-clause-lines c = extended_isolated
