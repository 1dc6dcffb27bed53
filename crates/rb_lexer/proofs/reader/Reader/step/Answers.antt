use Rattle.std.proofs.Common.{List, [], sym, subst, ℕ, arith}
use Rattle.std.proofs.lemmas.Result.{err_from_is_err_and}
use Rattle.std.specs.Str.{chars}
use Rattle.rb_lexer.specs.Atom.{Begins}
use Rattle.rb_lexer.specs.declared.scan.Scanned.TheVariants.{Punctuation}
use Rattle.rb_lexer.proofs.Pulls.{no_stop, flush_gives, follows_within, taken}
use Rattle.rb_lexer.proofs.reader.Reader.step.Goals as goal

pub returns-in_err-item-clause-same : goal.returns-in_err-item-clause-same
returns-in_err-item-clause-same c = λ ts g.
    let p = err_from_is_err_and c.from_residual-in_err-item.result c.from_residual-in_err-item.ensures.1 in
    rw (p.1, p.2) (no_stop g.atoms (chars c.args.self.now.rest.now) g.spelled g.good c.in_err-item.field-0.0 c.in_err-item.ensures.taken)

pub returns-in_default-2-clause-same : goal.returns-in_default-2-clause-same
returns-in_default-2-clause-same c = λ ts g.
    let none = rw c.in_default-2.is at c.in_ok-item.ensures.taken in
    let f = c.in_ok-flush.ensures.flushed in
    record { atoms = []; spelled = none; good = tt; tokens = flush_gives c.args.self.now ts g none c.flush.new.self f.0 f.1 }

pub returns-in-Some-clause-same : goal.returns-in-Some-clause-same
returns-in-Some-clause-same c = λ ts g.
    let a = c.span_to-at.ensures in
    let n = c.advance.ensures in
    let w = rw c.in-Some.is at c.first_mark.ensures.taken in
    taken c.args.self.now c.advance.new.self ts (Punctuation c.in-Some.mark) [] c.span_to-at.result c.requires (rw n.rest w)
    (rw n.same_builder (c.in_ok-add_mark.ensures.added [])) a.first a.line (rw n.rest a.past) n.first n.same_text g

pub span_to-at-requires-2-clause-within : goal.span_to-at-requires-2-clause-within
span_to-at-requires-2-clause-within c =
    let s = rw c.in-Some-2.is at c.in_ok-item.ensures.taken in
    follows_within (chars c.args.self.now.rest.now) (chars c.in-Some-2.after.now) s.0 c.in-Some-2.item s.2

pub advance-requires-2-clause-order : goal.advance-requires-2-clause-order
advance-requires-2-clause-order c =
    let s = rw c.in-Some-2.is at c.in_ok-item.ensures.taken in
    let f = follows_within (chars c.args.self.now.rest.now) (chars c.in-Some-2.after.now) s.0 c.in-Some-2.item s.2 in
    omega (arith, f, c.requires.at, c.span_to-at-2.ensures.past)

pub returns-clause-same : goal.returns-clause-same
returns-clause-same c = λ ts g.
    let a = c.span_to-at-2.ensures in
    let n = c.advance-2.ensures in
    let s = rw c.in-Some-2.is at c.in_ok-item.ensures.taken in
    let w = subst (λ (us : List ℕ). Begins (chars c.args.self.now.rest.now) c.in-Some-2.item us (chars c.in-Some-2.after.now)) (sym s.1) s.2 in
    taken c.args.self.now c.advance-2.new.self ts c.in-Some-2.item c.scan_first.new.units c.span_to-at-2.result c.requires (rw n.rest w)
    (rw n.same_builder c.in_ok-add.ensures.added) a.first a.line (rw n.rest a.past) n.first n.same_text g
