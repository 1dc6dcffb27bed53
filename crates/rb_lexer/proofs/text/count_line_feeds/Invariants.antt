use Rattle.std.proofs.Common.{◌≡◌, take}
use Rattle.std.specs.Prelude.{count_by, ◌==◌}
use Rattle.rb_lexer.proofs.text.count_line_feeds.Given as goal

abbrev pub invariant-loop-byte : goal.invariant-loop-byte
invariant-loop-byte l = l.feeds ≡ count_by (λ b. b == 0x0A) (take l.byte-index l.bytes)
