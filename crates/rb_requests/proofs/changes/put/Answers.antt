use Rattle.std.proofs.Common.{◌≡◌, sym, ◌∙◌}
use Rattle.rb_engine.specs.Place.{place_of}
use Rattle.rb_engine.specs.declared.request.Reply.TheVariants.{Memory}
use Rattle.rb_requests.proofs.CallSteps.{not_put, put, short_read, install_alone, is_reply}
use Rattle.rb_requests.proofs.changes.put.Goals as goal

pub returns-in-Some-clause-step : goal.returns-in-Some-clause-step
returns-in-Some-clause-step c app locale payload reads file read =
    let b = c.args.incoming in
    not_put c.args.limits.now c.args.engine.now c.args.change app locale payload b.0 b.1
    (short_read c.args.limits.now (place_of app locale) payload read) reads file c.in-Some.refusal (sym c.in-Some.is ∙ c.refused.ensures)

pub returns-in-None-clause-step : goal.returns-in-None-clause-step
returns-in-None-clause-step c app locale payload reads file read =
    let b = c.args.incoming in
    let p = c.put in
    put c.args.limits.now c.args.engine.now c.args.change app locale payload b.0 b.1
    (short_read c.args.limits.now (place_of app locale) payload read) reads file p.new.self p.result (sym c.in-None.is ∙ c.refused.ensures)
    (p.ensures.step app locale payload reads) p.ensures.files p.ensures.others p.ensures.parents p.ensures.unchanged

pub returns-in-None-clause-memory : goal.returns-in-None-clause-memory
returns-in-None-clause-memory c told =
    let out : c.put.result ≡ Memory = is_reply c.put.result Memory told in
    (install_alone c.args.change c.put.result c.put.ensures.memory out, sym (sym c.in-None.is ∙ c.refused.ensures))
