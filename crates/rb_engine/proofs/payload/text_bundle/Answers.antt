use Rattle.std.proofs.lemmas.Result.{err_from_is_err_and}
use Rattle.rb_engine.proofs.StepLemmas.{text_first, text_none}
use Rattle.rb_engine.proofs.payload.text_bundle.Goals as goal

pub returns-in_err-bundle-clause-bundle : goal.returns-in_err-bundle-clause-bundle
returns-in_err-bundle-clause-bundle c =
    let p = err_from_is_err_and c.from_residual.result c.from_residual.ensures.1 in
    rw p.1 (text_none c.args.text.now c.in_err-bundle.field-0.0 p.0 p.2 c.in_err-bundle.ensures.only)

pub returns-in_err-bundle-clause-first : goal.returns-in_err-bundle-clause-first
returns-in_err-bundle-clause-first c =
    let p = err_from_is_err_and c.from_residual.result c.from_residual.ensures.1 in
    rw p.1 (text_first c.args.text.now c.in_err-bundle.field-0.0 p.0 p.2 c.in_err-bundle.ensures.refused)
