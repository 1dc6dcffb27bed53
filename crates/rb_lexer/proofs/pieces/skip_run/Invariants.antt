use Rattle.std.proofs.Common.{◌≤◌, length}
use denote.Text.{Utf8}
use denote.Shadow.{shadow}
use Rattle.std.specs.Str.{chars}
use Rattle.rb_lexer.specs.Pieces.{ends_run}
use Rattle.rb_lexer.proofs.Passed.{PassesOn}
use Rattle.rb_lexer.proofs.pieces.skip_run.Given as goal

abbrev pub invariant-parts : goal.invariant-parts
invariant-parts l =
    record { text : shadow (Utf8 l.rest); so_far : PassesOn ends_run (chars l.initial.rest) (chars l.rest); no_longer : length l.rest ≤ length l.initial.rest }

abbrev pub decreases-parts : goal.decreases-parts
decreases-parts l = length l.rest
