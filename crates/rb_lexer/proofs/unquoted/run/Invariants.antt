use Rattle.std.proofs.Common.{◌≤◌, ℕ, List, length}
use denote.Text.{Utf8}
use denote.Shadow.{shadow}
use Rattle.std.specs.Str.{chars}
use Rattle.rb_lexer.specs.Lexeme.{units_of}
use Rattle.rb_lexer.specs.Atom.{IsSingle}
use Rattle.rb_lexer.proofs.Parts.{GoesOn}
use Rattle.rb_lexer.proofs.unquoted.run.Given as goal

abbrev pub invariant-parts : goal.invariant-parts
invariant-parts g l =
    record {
      text : shadow (Utf8 l.rest);
      so_far : (us : List ℕ) × g.U.UnitSink.has l.units us × GoesOn IsSingle (units_of l.fn.first) (chars l.initial.rest) us (chars l.rest);
      no_longer : length l.rest ≤ length l.initial.rest;
    }

abbrev pub decreases-parts : goal.decreases-parts
decreases-parts g l = length l.rest
