use Rattle.std.proofs.Common.{rules, [], ◌-◌, ◌∙◌, arith, length, sym}
use Rattle.std.proofs.lemmas.Bool.{le-ltb}
use Rattle.rb_writer.proofs.Placing.{stored_at}
use Rattle.rb_writer.proofs.Once.{ends_at, no_end}
use Rattle.rb_writer.proofs.keys.is_last.Goals as goal

pub returns-then-len-gt0-clause-stored : goal.returns-then-len-gt0-clause-stored
returns-then-len-gt0-clause-stored c = λ t. stored_at c.args.known.now (length c.args.known.now - 1) c.args.key.now (record { ref_ptr = (0, 0); now = [] }, 0) (search rules)
    (search rules)

pub returns-then-len-gt0-clause-ends : goal.returns-then-len-gt0-clause-ends
returns-then-len-gt0-clause-ends c = c.eq.ensures
    ∙ sym (ends_at c.args.known.now c.args.key.now (record { ref_ptr = (0, 0); now = [] }, 0) c.if-len-gt0.true)

pub returns-else-len-gt0-clause-ends : goal.returns-else-len-gt0-clause-ends
returns-else-len-gt0-clause-ends c = le-ltb 0 (length c.args.known.now) c.if-len-gt0.false
    ∙ sym (no_end c.args.known.now c.args.key.now (let h = c.if-len-gt0.false in omega arith))
