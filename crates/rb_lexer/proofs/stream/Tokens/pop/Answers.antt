use Rattle.std.proofs.Common.{drop, sym}
use Rattle.rb_lexer.specs.Coming.{left}
use Rattle.rb_lexer.specs.inner.Left.{Left}
use Rattle.rb_lexer.proofs.Pulls.{left_one, left_is, first_of, pop_gives, pop_leaves}
use Rattle.rb_lexer.proofs.stream.Tokens.pop.Goals as goal

pub memory_error-requires : goal.memory_error-requires
memory_error-requires c =
    let l = c.self.invariant in
    let r = c.self.inside.reader in
    let e = c.pop-token.ensures in
    c.in-Err.ensures.same (drop 1 (left r)) (record {
      atoms = l.gives.atoms;
      spelled = l.gives.spelled;
      good = l.gives.good;
      tokens = rw (e.rest, e.pending, e.same_open) (pop_gives r (left r) l);
    })

pub returns-in-Ok-clause-token : goal.returns-in-Ok-clause-token
returns-in-Ok-clause-token c =
    let l = c.self.invariant in
    let r = c.self.inside.reader in
    let e = c.pop-token.ensures in
    let then : Left c.fill.new.self (drop 1 (left r)) =
    c.in-Ok.ensures.same (drop 1 (left r)) (record {
      atoms = l.gives.atoms;
      spelled = l.gives.spelled;
      good = l.gives.good;
      tokens = rw (e.rest, e.pending, e.same_open) (pop_gives r (left r) l);
    }) in
    let h =
    pop_leaves c.fill.new.self (left r) c.pop-token.result then (first_of r (left r) l (λ t. t) c.pop-token.result (rw e.rest at e.token)) in
    rw c.self.view_is at h

pub returns-in-Ok-clause-left : goal.returns-in-Ok-clause-left
returns-in-Ok-clause-left c =
    let l = c.self.invariant in
    let r = c.self.inside.reader in
    let e = c.pop-token.ensures in
    let h =
    sym (left_one c.fill.new.self (drop 1 (left r)) (c.in-Ok.ensures.same (drop 1 (left r)) (record {
      atoms = l.gives.atoms;
      spelled = l.gives.spelled;
      good = l.gives.good;
      tokens = rw (e.rest, e.pending, e.same_open) (pop_gives r (left r) l);
    }))) in
    rw c.self.view_is at h

pub invariant_of-self : goal.invariant_of-self
invariant_of-self c =
    let l = c.self.invariant in
    let r = c.self.inside.reader in
    let e = c.pop-token.ensures in
    left_is c.fill.new.self (drop 1 (left r)) (c.in-Ok.ensures.same (drop 1 (left r)) (record {
      atoms = l.gives.atoms;
      spelled = l.gives.spelled;
      good = l.gives.good;
      tokens = rw (e.rest, e.pending, e.same_open) (pop_gives r (left r) l);
    }))
