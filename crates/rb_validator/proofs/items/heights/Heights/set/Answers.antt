use Rattle.std.proofs.Common.{◌≡◌, ◌⊎◌, ℕ, ◌+◌, ◌*◌, ◌/◌, cond, eqb, List, length, set, replicate, ap, subst, ◌∙◌, arith}
use Rattle.rb_validator.specs.inner.Marks.{slot}
use Rattle.rb_validator.proofs.Cells.{slot_low}
use Rattle.rb_validator.proofs.Packing.{ready, inside_at, first_set, set_beside}
use Rattle.rb_validator.proofs.items.heights.Heights.set.Goals as goal

pub get-code-requires : goal.get-code-requires
get-code-requires c =
    let i = inside_at c.self.inside.first c.self.inside.rest.items c.args.self.now c.args.kind c.args.offset c.self.view_is c.requires.inside in
    omega arith

pub set-requires : goal.set-requires
set-requires c =
    let i = inside_at c.self.inside.first c.self.inside.rest.items c.args.self.now c.args.kind c.args.offset c.self.view_is c.requires.inside in
    omega arith

pub place_of-requires-clause-set : goal.place_of-requires-clause-set
place_of-requires-clause-set c =
    let first = c.self.inside.first in let o = c.args.offset in
    let i = inside_at first c.self.inside.rest.items c.args.self.now c.args.kind o c.self.view_is c.requires.inside in
    let code = c.get-code.ensures in
    let low = c.self.invariant.low o in
    omega arith

pub returns-then-is_for : goal.returns-then-is_for
returns-then-is_for c =
    let first = c.self.inside.first in let rest = c.self.inside.rest.items in let o = c.args.offset in
    let s = c.slot_of-slot.result in let v = c.args.number in
    let i = inside_at first rest c.args.self.now c.args.kind o c.self.view_is c.requires.inside in
    let code = c.get-code.ensures in
    let l = slot_low c.args.kind in
    let is : s ≡ slot c.args.kind = c.slot_of-slot.ensures in
    let yes = subst (λ (x : ℕ). (x ≡ 0) ⊎ (x / 66 ≡ s)) code (c.is_for.ensures.yes c.if-is_for.true) in
    rw c.set.ensures (first_set first rest c.self.inside.rest.cap o s v c.self.invariant (omega arith) i c.requires.full c.requires.low yes
    ∙ ap (λ (x : List ℕ). set x (3 * o + s) v) c.self.view_is ∙ ap (λ (x : ℕ). set c.args.self.now (3 * o + x) v) is)

pub index_mut-requires : goal.index_mut-requires
index_mut-requires c =
    let first = c.self.inside.first in let rest = c.self.inside.rest.items in let o = c.args.offset in let s = c.slot_of-slot.result in
    let later = c.fill.new.list.items in
    let i = inside_at first rest c.args.self.now c.args.kind o c.self.view_is c.requires.inside in
    let code = c.get-code.ensures in
    let l = slot_low c.args.kind in
    let is : s ≡ slot c.args.kind = c.slot_of-slot.ensures in
    let low = c.self.invariant.low o in
    let no = c.is_for.ensures.no c.if-is_for.false in
    let n : c.len.result ≡ length first = c.len.ensures in
    let e : later ≡ cond (eqb (length rest) 0) (replicate (2 * length first) 0) rest =
    c.fill.ensures ∙ ap (λ (x : ℕ). cond (eqb (length rest) 0) (replicate (2 * x) 0) rest) n in
    let r = ready first rest later c.self.inside.rest.cap 0 c.self.invariant e in
    let long : length later ≡ 2 * length first = r.long in
    let place = c.place_of.ensures in
    let whole = c.fill.new.list.ok.0 in
    let apart = no.1 in
    omega arith

pub invariant_of-self-else-is_for : goal.invariant_of-self-else-is_for
invariant_of-self-else-is_for c =
    let first = c.self.inside.first in let rest = c.self.inside.rest in let later = c.fill.new.list in
    let n : c.len.result ≡ length first = c.len.ensures in
    let set = set_beside first rest.items later.items c.args.self.now rest.cap later.cap c.args.offset c.slot_of-slot.result c.args.number
    c.place_of.result c.len.result c.get-code.result c.args.kind c.self.invariant c.self.view_is c.requires.inside c.slot_of-slot.ensures
    c.get-code.ensures (c.is_for.ensures.no c.if-is_for.false) n c.fill.ensures c.place_of.ensures in
    set.0

pub returns-else-is_for : goal.returns-else-is_for
returns-else-is_for c =
    let first = c.self.inside.first in let rest = c.self.inside.rest in let later = c.fill.new.list in
    let n : c.len.result ≡ length first = c.len.ensures in
    let set = set_beside first rest.items later.items c.args.self.now rest.cap later.cap c.args.offset c.slot_of-slot.result c.args.number
    c.place_of.result c.len.result c.get-code.result c.args.kind c.self.invariant c.self.view_is c.requires.inside c.slot_of-slot.ensures
    c.get-code.ensures (c.is_for.ensures.no c.if-is_for.false) n c.fill.ensures c.place_of.ensures in
    set.1
