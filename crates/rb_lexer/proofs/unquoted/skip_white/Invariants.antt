use Rattle.std.proofs.Common.{◌≤◌, length}
use denote.Text.{Utf8}
use denote.Shadow.{shadow}
use Rattle.std.specs.Str.{chars}
use Rattle.rb_lexer.proofs.Blanks.{WhiteGoesOn}
use Rattle.rb_lexer.proofs.unquoted.skip_white.Given as goal

abbrev pub invariant-white : goal.invariant-white
invariant-white l =
    record { text : shadow (Utf8 l.rest); so_far : WhiteGoesOn (chars l.initial.rest) (chars l.rest); no_longer : length l.rest ≤ length l.initial.rest }

abbrev pub decreases-white : goal.decreases-white
decreases-white l = length l.rest
