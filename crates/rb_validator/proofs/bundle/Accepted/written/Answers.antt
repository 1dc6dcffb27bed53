use Rattle.rb_validator.proofs.Cases.{root_is}
use Rattle.rb_validator.proofs.bundle.Accepted.written.Goals as goal

pub body-requires-clause-long : goal.body-requires-clause-long
body-requires-clause-long c = rw c.deref.ensures.value (root_is c.args.bytes.items c.requires.denotes).long

pub body-requires-clause-inside : goal.body-requires-clause-inside
body-requires-clause-inside c = rw c.deref.ensures.value (root_is c.args.bytes.items c.requires.denotes).inside

pub invariant_of-result : goal.invariant_of-result
invariant_of-result c = record {
  denoted = c.requires.denotes;
  counted = c.requires.visits;
  marked = rw c.in_ok-notes.ensures (rw (c.body.ensures, c.deref.ensures.value) at c.in_ok-blocks.ensures);
}
