use Rattle.rb_json_reader.proofs.OneArrangement.{one_arranged}
use Rattle.rb_json_reader.proofs.laws.one_arrangement.Goals as goal

pub returns : goal.returns
returns c = one_arranged
