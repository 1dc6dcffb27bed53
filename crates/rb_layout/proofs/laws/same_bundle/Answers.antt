use Rattle.rb_layout.proofs.Marks.{same_spelling, other_way}
use Rattle.rb_layout.proofs.laws.same_bundle.Goals as goal

pub returns-clause-formatted : goal.returns-clause-formatted
returns-clause-formatted c = same_spelling

pub returns-clause-original : goal.returns-clause-original
returns-clause-original c = λ old new name source s. same_spelling new old name source (other_way old new s)
