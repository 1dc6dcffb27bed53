use Rattle.rb_parser.proofs.Wholes.{good_apart, good_or}
use Rattle.rb_parser.proofs.laws.good_or_faulty.Goals as goal

pub returns : goal.returns
returns c = record { apart = good_apart; either = good_or }
