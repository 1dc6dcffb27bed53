use Rattle.std.proofs.Common.{◌≤◌, length}
use denote.Text.{Utf8}
use denote.Shadow.{shadow}
use Rattle.std.specs.Str.{chars}
use Rattle.rb_lexer.proofs.Passes.{Follows}
use Rattle.rb_lexer.proofs.check.skip_plain.Given as goal

abbrev pub invariant-plain : goal.invariant-plain
invariant-plain l =
    record { text : shadow (Utf8 l.rest); so_far : Follows (chars l.initial.rest) (chars l.rest); no_longer : length l.rest ≤ length l.initial.rest }

abbrev pub decreases-plain : goal.decreases-plain
decreases-plain l = length l.rest
