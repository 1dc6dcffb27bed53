use Rattle.std.proofs.Common.{◌≡◌, ◌+◌, ◌<◌, suc, length, get_or, set, sym, ◌∙◌, arith}
use Rattle.std.proofs.lemmas.List.{length-set}
use Rattle.rb_validator.specs.inner.Marks.{cell, marked}
use Rattle.rb_validator.proofs.Marked.{marked_le, marked_more}
use Rattle.rb_validator.proofs.items.memo.Memo.enter.Goals as goal

pub overflow_add-self : goal.overflow_add-self
overflow_add-self c =
    let cells = c.self.inside.heights in
    let l = marked_le cells (length cells) in
    let e : c.self.inside.visits ≡ marked cells (length cells) = c.self.invariant.0 in
    let small = c.self.invariant.1 in
    omega (arith, small)

pub invariant_of-self : goal.invariant_of-self
invariant_of-self c =
    let cells = c.self.inside.heights in
    let p = cell c.args.kind c.args.offset in
    let e : c.self.inside.visits ≡ marked cells (length cells) = c.self.invariant.0 in
    let inside : p < length cells = rw c.self.view_is c.requires.inside in
    let fresh : get_or cells p 0 ≡ 0 = rw c.self.view_is c.requires.fresh in
    let more = marked_more cells p 65 (length cells) inside inside fresh (λ z. omega arith) in
    let up : c.self.inside.visits + 1 ≡ suc (marked cells (length cells)) = omega arith in
    let is : c.set.new.self ≡ set cells p 65 = c.set.ensures in
    (rw (is, length-set cells p 65) (up ∙ sym more), rw (is, length-set cells p 65) c.self.invariant.1)
