use Rattle.std.proofs.Common.{sym, ◌∙◌, arith}
use Rattle.rb_format.proofs.Fronts.{key_at_long}
use Rattle.rb_format.proofs.place.key_at.Goals as goal

pub returns : goal.returns
returns c = c.key_within.ensures ∙ rw (c.word_at.ensures, c.word_at-2.ensures) (sym (key_at_long c.args.body.now c.args.k (omega arith)))
