use Rattle.rb_parents.specs.Family.{parent_in}
use Rattle.rb_engine.proofs.StepLemmas.{no_bundle}
use Rattle.rb_engine.proofs.engine.Engine.read_and_put.Goals as goal

pub returns-in-Err-clause-step : goal.returns-in-Err-clause-step
returns-in-Err-clause-step c =
    let engine = c.args.self.now in
    no_bundle c.args.change c.args.app.now c.args.locale.now c.args.payload c.in-Err.reply engine.packages c.in-Err.ensures.read (parent_in engine.parents)
