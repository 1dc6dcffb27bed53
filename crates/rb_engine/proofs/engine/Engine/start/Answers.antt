use Rattle.std.proofs.lemmas.Result.{err_from_is_err_and}
use Rattle.rb_parents.specs.Family.{parent_of}
use Rattle.rb_engine.proofs.Starting.{refused_below}
use Rattle.rb_engine.proofs.LastChanges.{first_up_to}
use Rattle.rb_engine.proofs.engine.Engine.start.Goals as goal

pub returns-in_err-load_all-clause-index : goal.returns-in_err-load_all-clause-index
returns-in_err-load_all-clause-index c =
    let p = err_from_is_err_and c.from_residual.result c.from_residual.ensures.1 in
    rw (p.1, p.2) (refused_below c.args.icudata.items c.in_err-load_all.field-0.0 c.in_err-load_all.ensures.refused)

pub invariant_of-result : goal.invariant_of-result
invariant_of-result c =
    let packages = c.load_all.new.packages in
    let ps = parent_of c.args.parents in
    let x = c.first.result in
    (c.none.ensures packages ps x.groups x.latest, c.none-2.ensures packages ps x.groups x.latest, first_up_to x.groups x.latest c.first.ensures)
