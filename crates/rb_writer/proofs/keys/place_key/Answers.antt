use Rattle.std.proofs.Common.{rules, length, arith, sym, ◌∙◌}
use Rattle.rb_writer.proofs.Placing.{key_put, stays_stored, stored_push, stands_or}
use Rattle.rb_writer.proofs.Once.{placed_again, placed_first}
use Rattle.rb_writer.proofs.keys.place_key.Goals as goal

pub returns-clause-here : goal.returns-clause-here
returns-clause-here c = rw c.in_ok-push.ensures.items (stored_push c.args.known.now.items (c.args.key, c.len.result))

pub returns-clause-stay : goal.returns-clause-stay
returns-clause-stay c = λ q h. rw c.in_ok-push.ensures.items (stays_stored c.args.known.now.items (c.args.key, c.len.result) q h)

pub returns-clause-stand : goal.returns-clause-stand
returns-clause-stand c = λ q o e. stands_or c.args.known.now.items (c.args.key, c.len.result) (length c.args.out.now) c.append.new.self q o
    (key_put (length c.args.out.now) c.args.out.now c.put_bytes.new.out c.append.new.self c.args.key.now c.len.result c.in_ok-put_bytes.ensures
    c.in_ok-append.ensures (search rules) (omega arith) c.requires.key)
    (rw c.in_ok-push.ensures.items at e)

pub returns-clause-laid : goal.returns-clause-laid
returns-clause-laid c = placed_first c.args.out.now c.put_bytes.new.out c.append.new.self c.args.key c.args.known.now.items c.push.new.self.items
    c.len.result (rw c.deref.ensures.value at (sym c.is_last.ensures.ends ∙ c.if-is_last.false)) c.in_ok-put_bytes.ensures.joined c.in_ok-append.ensures
    (search rules) c.in_ok-push.ensures.items

pub returns-then-is_last-clause-laid : goal.returns-then-is_last-clause-laid
returns-then-is_last-clause-laid c = placed_again c.args.out.now c.args.key.now c.args.known.now.items
    (rw c.deref.ensures.value at (sym c.is_last.ensures.ends ∙ c.if-is_last.true))
