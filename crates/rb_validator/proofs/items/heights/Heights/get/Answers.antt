use Rattle.std.proofs.Common.{◌≡◌, ◌≢◌, ℕ, ◌/◌, ◌%◌, get_or, refl, sym, ap, ◌∙◌, arith}
use Rattle.rb_validator.specs.inner.Marks.{slot}
use Rattle.rb_validator.specs.inner.Packed.{other}
use Rattle.rb_validator.proofs.Packing.{mark_none, mark_first, mark_other, read_at, inside_at}
use Rattle.rb_validator.proofs.items.heights.Heights.get.Goals as goal

pub get-code-requires : goal.get-code-requires
get-code-requires c =
    let i = inside_at c.self.inside.first c.self.inside.rest.items c.args.self.now c.args.kind c.args.offset c.self.view_is c.requires in
    omega arith

pub place_of-requires-clause-set : goal.place_of-requires-clause-set
place_of-requires-clause-set c =
    let first = c.self.inside.first in let o = c.args.offset in
    let i = inside_at first c.self.inside.rest.items c.args.self.now c.args.kind o c.self.view_is c.requires in
    let code = c.get-code.ensures in
    let low = c.self.invariant.low o in
    omega arith

pub returns-then-code-eq0 : goal.returns-then-code-eq0
returns-then-code-eq0 c =
    let first = c.self.inside.first in let rest = c.self.inside.rest.items in let o = c.args.offset in let s = slot c.args.kind in
    let i = inside_at first rest c.args.self.now c.args.kind o c.self.view_is c.requires in
    let code = c.get-code.ensures in
    sym (mark_none first rest o s (sym code ∙ c.if-code-eq0.true)) ∙ read_at first rest c.args.self.now c.args.kind o c.self.view_is c.requires

pub returns-then-code-slot : goal.returns-then-code-slot
returns-then-code-slot c =
    let first = c.self.inside.first in let rest = c.self.inside.rest.items in let o = c.args.offset in let s = slot c.args.kind in
    let i = inside_at first rest c.args.self.now c.args.kind o c.self.view_is c.requires in
    let code = c.get-code.ensures in
    let tag : get_or first o 0 / 66 ≡ s = ap (λ (x : ℕ). x / 66) (sym code) ∙ c.if-code-slot.true ∙ c.slot_of-slot.ensures in
    ap (λ (x : ℕ). x % 66) code ∙ sym (mark_first first rest o s (λ z. c.if-code-eq0.false (code ∙ z)) tag)
    ∙ read_at first rest c.args.self.now c.args.kind o c.self.view_is c.requires

pub returns-else-code-slot : goal.returns-else-code-slot
returns-else-code-slot c =
    let first = c.self.inside.first in let rest = c.self.inside.rest.items in let o = c.args.offset in let s = slot c.args.kind in
    let i = inside_at first rest c.args.self.now c.args.kind o c.self.view_is c.requires in
    let code = c.get-code.ensures in
    let apart : get_or first o 0 / 66 ≢ s = λ z. c.if-code-slot.false (ap (λ (x : ℕ). x / 66) code ∙ z ∙ sym c.slot_of-slot.ensures) in
    let place : c.place_of.result ≡ other o s (get_or first o 0 / 66) = rw (c.place_of.ensures, c.slot_of-slot.ensures, ← code) refl in
    let byte : c.byte_at.result ≡ get_or rest (other o s (get_or first o 0 / 66)) 0 = rw (c.byte_at.ensures, place, c.deref.ensures.value) refl in
    byte ∙ sym (mark_other first rest o s (λ z. c.if-code-eq0.false (code ∙ z)) apart)
    ∙ read_at first rest c.args.self.now c.args.kind o c.self.view_is c.requires
