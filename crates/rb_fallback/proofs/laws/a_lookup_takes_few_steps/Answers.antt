use Rattle.rb_fallback.proofs.FewSteps.{few_steps}
use Rattle.rb_fallback.proofs.laws.a_lookup_takes_few_steps.Goals as goal

pub returns : goal.returns
returns c = few_steps
