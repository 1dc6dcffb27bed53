use Rattle.std.proofs.Common.{◌≤◌, length}
use denote.Text.{Utf8}
use denote.Shadow.{shadow}
use Rattle.std.specs.Str.{chars}
use Rattle.rb_lexer.proofs.Comments.{LineGoesOn}
use Rattle.rb_lexer.proofs.comment.skip_line_comment.Given as goal

abbrev pub invariant-line : goal.invariant-line
invariant-line l =
    record { text : shadow (Utf8 l.rest); so_far : LineGoesOn (chars l.initial.rest) (chars l.rest); no_longer : length l.rest ≤ length l.initial.rest }

abbrev pub decreases-line : goal.decreases-line
decreases-line l = length l.rest
