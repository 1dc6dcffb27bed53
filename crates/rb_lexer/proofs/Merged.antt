-- Proves that the tokens made with a pending text are those of the groups of text pieces.
use Rattle.std.proofs.Common.{◌≡◌, ℕ, true, false, List, [], ◌∷◌, map, Option, Some, None, refl, sym, ap, ◌∙◌}
use Rattle.rb_lexer.specs.declared.token.Token.{Token}
use Rattle.rb_lexer.specs.declared.token.Mark.TheVariants.{Text}
use Rattle.rb_lexer.specs.declared.pending.PendingText.{PendingText}
use Rattle.rb_lexer.specs.Lexeme.{Lexeme, white, comment, punctuation, quoted, unquoted, parts_units}
use Rattle.rb_lexer.specs.Tokens.{TextPiece, Piece, text, punctuation_piece, past_lexeme, pieces_from, Group, run, alone, in_front, groups, joined_units}
use Rattle.rb_lexer.specs.Tokens.{past_last, token, tokens_of}
use Rattle.rb_lexer.specs.Merging.{joined, grown, text_token, flushed, piece, punctuation_token, tokens_from}

abbrev pending_of : List ℕ → TextPiece → PendingText
pending_of bytes p = piece bytes p.units p.is_quoted p.first p.past

-- the tokens of pieces, after a pending text
abbrev built : List ℕ → Option PendingText → List Piece → List Token
built bytes pending [] = flushed pending []
built bytes pending (text p ∷ ps) = built bytes (Some (grown pending (pending_of bytes p))) ps
built bytes pending (punctuation_piece m first past ∷ ps) = flushed pending (token bytes (alone m first past) ∷ built bytes None ps)

from_built : (bytes : List ℕ) (at : ℕ) (pending : Option PendingText) (ls : List Lexeme)
    → tokens_from bytes at pending ls ≡ built bytes pending (pieces_from at ls)
from_built bytes at pending [] = refl
from_built bytes at pending (white c ∷ ls) = from_built bytes (past_lexeme at (white c)) pending ls
from_built bytes at pending (comment c ∷ ls) = from_built bytes (past_lexeme at (comment c)) pending ls
from_built bytes at pending (punctuation c ∷ ls) =
    ap (λ (ts : List Token). flushed pending (punctuation_token bytes c at (past_lexeme at (punctuation c)) ∷ ts))
    (from_built bytes (past_lexeme at (punctuation c)) None ls)
from_built bytes at pending (quoted ps ∷ ls) =
    from_built bytes (past_lexeme at (quoted ps)) (Some (grown pending (piece bytes (parts_units ps) true at (past_lexeme at (quoted ps))))) ls
from_built bytes at pending (unquoted ps ∷ ls) =
    from_built bytes (past_lexeme at (unquoted ps)) (Some (grown pending (piece bytes (parts_units ps) false at (past_lexeme at (unquoted ps))))) ls

-- the text pieces of the run that the groups begin with, and the groups after it
abbrev front : List Group → List TextPiece
front [] = []
front (run p ps ∷ gs) = p ∷ ps
front (alone m first past ∷ gs) = []

abbrev after : List Group → List Group
after [] = []
after (run p ps ∷ gs) = gs
after (alone m first past ∷ gs) = alone m first past ∷ gs

split : (p : TextPiece) (gs : List Group) → in_front p gs ≡ run p (front gs) ∷ after gs
split p [] = refl
split p (run q qs ∷ gs) = refl
split p (alone m first past ∷ gs) = refl

-- a pending text joined with the pieces of a run
abbrev with_run : List ℕ → PendingText → List TextPiece → PendingText
with_run bytes a [] = a
with_run bytes a (p ∷ ps) = with_run bytes (joined a (pending_of bytes p)) ps

run_token : (bytes : List ℕ) (a : PendingText) (ps : List TextPiece) → text_token (with_run bytes a ps)
    ≡ record { what = Text (joined_units a.units a.is_quoted ps); first = a.first; past = past_last a.past ps; line = a.line }
run_token bytes a [] = refl
run_token bytes a (p ∷ ps) = run_token bytes (joined a (pending_of bytes p)) ps

-- After a pending text, and after none.
abbrev IsMerged : List ℕ → List Piece → Type 0
IsMerged bytes ps = ((a : PendingText) → built bytes (Some a) ps ≡ text_token (with_run bytes a (front (groups ps))) ∷ map (token bytes) (after (groups ps)))
    × (built bytes None ps ≡ map (token bytes) (groups ps))

is_merged : (bytes : List ℕ) (ps : List Piece) → IsMerged bytes ps
is_merged bytes [] = ((λ a. refl), refl)
is_merged bytes (text p ∷ ps) =
    let more = is_merged bytes ps in (
      (λ a. more.0 (joined a (pending_of bytes p))
          ∙ ap (λ (gs : List Group). text_token (with_run bytes a (front gs)) ∷ map (token bytes) (after gs)) (sym (split p (groups ps)))),
      more.0 (pending_of bytes p)
          ∙ ap (λ (t : Token). t ∷ map (token bytes) (after (groups ps))) (run_token bytes (pending_of bytes p) (front (groups ps)))
          ∙ ap (map (token bytes)) (sym (split p (groups ps))),
    )
is_merged bytes (punctuation_piece m first past ∷ ps) =
    let more = is_merged bytes ps in (
      (λ a. ap (λ (ts : List Token). text_token a ∷ token bytes (alone m first past) ∷ ts) more.1),
      ap (λ (ts : List Token). token bytes (alone m first past) ∷ ts) more.1,
    )

pub merged : (bytes : List ℕ) (ls : List Lexeme) → tokens_from bytes 0 None ls ≡ tokens_of bytes ls
merged bytes ls = from_built bytes 0 None ls ∙ (is_merged bytes (pieces_from 0 ls)).1
