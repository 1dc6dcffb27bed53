use Rattle.rb_parser.proofs.Wholes.{good_one}
use Rattle.rb_parser.proofs.laws.one_source.Goals as goal

pub returns : goal.returns
returns c = good_one
