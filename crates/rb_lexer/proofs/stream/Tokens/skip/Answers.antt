use Rattle.std.proofs.Common.{drop, sym}
use Rattle.rb_lexer.specs.Coming.{left}
use Rattle.rb_lexer.proofs.Pulls.{left_one, left_is, pop_gives}
use Rattle.rb_lexer.proofs.stream.Tokens.skip.Goals as goal

pub memory_error-requires : goal.memory_error-requires
memory_error-requires c =
    let l = c.self.invariant in
    let r = c.self.inside.reader in
    let e = c.pop.ensures in
    c.in-Err.ensures.same (drop 1 (left r)) (record {
      atoms = l.gives.atoms;
      spelled = l.gives.spelled;
      good = l.gives.good;
      tokens = rw (e.rest, e.pending, e.same_open) (pop_gives r (left r) l);
    })

pub returns-in-Ok : goal.returns-in-Ok
returns-in-Ok c =
    let l = c.self.invariant in
    let r = c.self.inside.reader in
    let e = c.pop.ensures in
    let h =
    sym (left_one c.fill.new.self (drop 1 (left r)) (c.in-Ok.ensures.same (drop 1 (left r)) (record {
      atoms = l.gives.atoms;
      spelled = l.gives.spelled;
      good = l.gives.good;
      tokens = rw (e.rest, e.pending, e.same_open) (pop_gives r (left r) l);
    }))) in
    rw c.self.view_is at h

pub invariant_of-self : goal.invariant_of-self
invariant_of-self c =
    let l = c.self.invariant in
    let r = c.self.inside.reader in
    let e = c.pop.ensures in
    left_is c.fill.new.self (drop 1 (left r)) (c.in-Ok.ensures.same (drop 1 (left r)) (record {
      atoms = l.gives.atoms;
      spelled = l.gives.spelled;
      good = l.gives.good;
      tokens = rw (e.rest, e.pending, e.same_open) (pop_gives r (left r) l);
    }))
