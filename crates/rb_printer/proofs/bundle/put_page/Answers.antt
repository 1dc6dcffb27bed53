use Rattle.std.proofs.lemmas.Result.{err_from_is_err_and}
use Rattle.rb_printer.specs.Page.{members_of}
use Rattle.rb_printer.proofs.Pages.{page_put, page_exceeds, units_are}
use Rattle.rb_printer.proofs.bundle.put_page.Goals as goal

pub returns-clause-adds : goal.returns-clause-adds
returns-clause-adds g c =
    page_put _ _ _ _ _ c.args.name.now c.args.no_fallback (members_of (g.N.Node.tree c.args.root)) c.in_ok-put_name.ensures
    c.in_ok-begin_bundle.ensures c.in_ok-put_entries.ensures.adds c.in_ok-put_str.ensures

pub returns-clause-units : goal.returns-clause-units
returns-clause-units g c = units_are c.args.name.now (λ i. (c.type_inv.name i).fits)

pub returns-in_err-put_entries-clause-error : goal.returns-in_err-put_entries-clause-error
returns-in_err-put_entries-clause-error g c =
    let p = err_from_is_err_and c.from_residual-in_err-put_entries.result c.from_residual-in_err-put_entries.ensures.1 in
    rw (p.1, p.2)
    (page_exceeds _ _ _ c.args.name.now c.args.no_fallback (members_of (g.N.Node.tree c.args.root)) c.in_err-put_entries.field-0.0 c.in_ok-put_name.ensures
    c.in_ok-begin_bundle.ensures c.in_err-put_entries.ensures.error)
