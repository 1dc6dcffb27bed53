use Rattle.std.proofs.Common.{length}
use denote.Text.{Utf8}
use denote.Shadow.{shadow}
use Rattle.std.specs.Str.{chars}
use Rattle.rb_lexer.proofs.Passes.{Follows}
use Rattle.rb_lexer.proofs.check.check_text.Given as goal

abbrev pub invariant-items : goal.invariant-items
invariant-items l = record {
  text : shadow (Utf8 l.rest);
  so_far : Follows (chars l.initial.text) (chars l.rest);
}

abbrev pub decreases-items : goal.decreases-items
decreases-items l = length l.rest
