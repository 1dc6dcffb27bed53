use Rattle.std.proofs.Common.{Ok, Err, Some, rules, sym, ap, ◌∙◌}
use Rattle.std.proofs.lemmas.Fn.{always_returns_same}
use Rattle.std.specs.Ordering.{nat_cmp}
use Rattle.std.specs.Cmp.Lexicographic.{slice_cmp}
use Rattle.rb_tree.specs.View.{view_of}
use Rattle.rb_tree.specs.declared.tree.Entry.{Entry}
use Rattle.rb_tree.proofs.Halving.{halved}
use Rattle.rb_tree.proofs.tree.Entries.get.Goals as goal

pub returns-in-Ok : goal.returns-in-Ok
returns-in-Ok c =
    let q = c.args.key.now in
    let es = c.self.inside.pairs.items in
    let facts = rw c.deref.ensures.value at c.in-Ok.ensures in
    let by_key = facts.position (λ e. slice_cmp nat_cmp e.key q) (always_returns_same _ _ _ (λ a r g called. search rules)) in
    let here = halved q es c.self.invariant (Ok c.in-Ok.i) facts.bound by_key c.index.result.now in
    rw (← c.self.view_is) (ap (λ (e : Entry). Some (view_of e.tree)) c.index.ensures ∙ sym here)

pub returns-in-Err : goal.returns-in-Err
returns-in-Err c =
    let q = c.args.key.now in
    let es = c.self.inside.pairs.items in
    let facts = rw c.deref.ensures.value at c.in-Err.ensures in
    let by_key = facts.position (λ e. slice_cmp nat_cmp e.key q) (always_returns_same _ _ _ (λ a r g called. search rules)) in
    rw (← c.self.view_is) (sym (halved q es c.self.invariant (Err c.in-Err.field-0) facts.bound by_key))
