use Rattle.rb_parents.specs.Family.{parent_of}
use Rattle.rb_inspect.proofs.Causing.{then_is}
use Rattle.rb_inspect.proofs.trace_steps.next_after.Goals as goal

pub returns-clause-says : goal.returns-clause-says
returns-clause-says g c = λ is.
    then_is (parent_of c.args.parents.now) c.args.name.now _ _ _ c.decided_by-cause.ensures is
