use Rattle.rb_engine.proofs.Histories.{asks_one, answers_own, is_isolated}
use Rattle.rb_engine.proofs.laws.isolated.Goals as goal

pub returns-clause-one : goal.returns-clause-one
returns-clause-one c = asks_one c.one_source.ensures

pub returns-clause-own : goal.returns-clause-own
returns-clause-own c = answers_own

pub returns-clause-alone : goal.returns-clause-alone
returns-clause-alone c = is_isolated (asks_one c.one_source.ensures)
