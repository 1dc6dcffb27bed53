use Rattle.rb_engine.proofs.StayingOpen.{stays_counted}
use Rattle.rb_engine.proofs.laws.a_locale_stays_open_until_a_change.Goals as goal

pub returns-clause-names : goal.returns-clause-names
returns-clause-names c = stays_counted
