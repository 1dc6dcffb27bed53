use Rattle.std.proofs.Common.{ap, sym, ◌∙◌}
use Rattle.std.specs.Prelude.{is_ok}
use Rattle.rb_parents.specs.Family.{parent_in}
use Rattle.rb_engine.specs.Place.{place_of}
use Rattle.rb_engine.specs.Source.{payload_of}
use Rattle.rb_engine.proofs.StepLemmas.{no_bundle}
use Rattle.rb_requests.proofs.CallSteps.{too_long, not_read, read_short}
use Rattle.rb_requests.proofs.changes.read_and_put.Goals as goal

pub returns-then-is_too_long : goal.returns-then-is_too_long
returns-then-is_too_long c =
    too_long c.args.limits.now c.args.engine.now c.args.change c.args.app.now c.args.locale.now (payload_of c.args.source)
    (sym c.is_too_long.ensures ∙ c.if-is_too_long.true)

pub returns-in-Err : goal.returns-in-Err
returns-in-Err c =
    let k = c.args.engine.now in
    let reads = c.in-Err.ensures.read in
    let step = no_bundle c.args.change c.args.app.now c.args.locale.now (payload_of c.args.source) c.in-Err.reply k.packages reads (parent_in k.parents) in
    not_read c.args.limits.now k c.args.change c.args.app.now c.args.locale.now (payload_of c.args.source) c.in-Err.reply
    (sym c.is_too_long.ensures ∙ c.if-is_too_long.false) reads step

pub returns : goal.returns
returns c =
    let reads = c.in-Ok.ensures.read in
    c.put.ensures.step c.args.app.now c.args.locale.now (payload_of c.args.source) reads c.in-Ok.ensures.file
    (read_short c.args.limits.now (place_of c.args.app.now c.args.locale.now) (payload_of c.args.source) (ap is_ok reads.0)
    (sym c.is_too_long.ensures ∙ c.if-is_too_long.false))
