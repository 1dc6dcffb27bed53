use Rattle.std.proofs.Common.{◌≤◌, length}
use denote.Text.{Utf8}
use denote.Shadow.{shadow}
use Rattle.std.specs.Str.{chars}
use Rattle.rb_lexer.proofs.Comments.{BlockGoesOn}
use Rattle.rb_lexer.proofs.comment.skip_block_comment.Given as goal

abbrev pub invariant-block : goal.invariant-block
invariant-block l =
    record { text : shadow (Utf8 l.rest); so_far : BlockGoesOn (chars l.initial.rest) (chars l.rest); no_longer : length l.rest ≤ length l.initial.rest }

abbrev pub decreases-block : goal.decreases-block
decreases-block l = length l.rest
