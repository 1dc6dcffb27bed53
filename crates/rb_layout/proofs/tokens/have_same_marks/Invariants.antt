use Rattle.std.proofs.Common.{◌≡◌, length}
use Rattle.rb_grammar.specs.Form.{marks}
use Rattle.rb_layout.proofs.tokens.have_same_marks.Given as goal

abbrev pub invariant-tokens : goal.invariant-tokens
invariant-tokens l = marks l.a ≡ marks l.b → marks l.initial.a ≡ marks l.initial.b

abbrev pub decreases-tokens : goal.decreases-tokens
decreases-tokens l = length l.a
