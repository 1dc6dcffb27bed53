use Rattle.std.proofs.Common.{sym, ◌∙◌, arith}
use Rattle.rb_tree.specs.View.{view_of}
use Rattle.rb_locales.specs.Locale.{name}
use Rattle.rb_parents.specs.inner.Entries.{put_entry}
use Rattle.rb_parents.specs.Explicit.{RefusesParents, parent_entries}
use Rattle.rb_parents.specs.Family.{parent_of}
use Rattle.rb_parents.proofs.Explicits.{entries_on, entries_bad, entries_end, err_is, fault_on}
use Rattle.rb_parents.proofs.FirstErrors.{table_gives, table_refuses}
use Rattle.rb_parents.proofs.parents.Parents.read.Goals as goal

pub returns-in_err-put_entry-clause-fault : goal.returns-in_err-put_entry-clause-fault
returns-in_err-put_entry-clause-fault c =
    let here = c.in_err-put_entry.field-0.0 in
    let t = view_of c.args.tree.now in
    let u = view_of c.in-Some.table.now in
    let known = parent_of c.loop-i.parents in
    let entry = view_of c.at.result.now in
    let i = c.loop-i.i in
    let key = c.key_at.result.now in
    let bad = entries_bad u i key entry known here c.in-Some.ensures.kind (sym c.key_at.ensures) (sym c.at.ensures) in
    err_is c.from_residual.result here _ c.from_residual.ensures.1
    (fault_on here (put_entry (name key) entry known) (RefusesParents t here) (λ e. table_refuses (parent_entries t) here (sym c.loop-i.invariant ∙ bad e))
    c.in_err-put_entry.ensures.fault)

pub loop-i-preserved : goal.loop-i-preserved
loop-i-preserved c =
    let t = view_of c.in-Some.table.now in
    sym (entries_on t c.loop-i.i c.key_at.result.now (view_of c.at.result.now) (parent_of c.loop-i.parents) (parent_of c.put_entry.new.self)
    c.in-Some.ensures.kind (sym c.key_at.ensures) (sym c.at.ensures) c.in_ok-put_entry.ensures.ok) ∙ c.loop-i.invariant

pub returns-clause-parents : goal.returns-clause-parents
returns-clause-parents c =
    let known = parent_of c.loop-i.parents in
    let end = entries_end (view_of c.in-Some.table.now) c.loop-i.i known c.in-Some.ensures.kind (omega (arith, c.len-i-end.ensures, c.loop-i-test.false)) in
    table_gives (parent_entries (view_of c.args.tree.now)) known (sym c.loop-i.invariant ∙ end)
