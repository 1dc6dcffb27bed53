-- Defines the pieces of a text that may have any errors (rules of this project): a backslash that begins no escape
-- belongs to its piece, with the character after it, and what is never closed extends to the end of the text.
use Rattle.std.specs.Prelude.{◌≡◌, ◌≢◌, ℕ, Bool, true, false, ◌==◌, ◌||◌, ◌⊎◌, List, [], ◌∷◌, Option, Some, None, drop}
use Rattle.rb_lexer.specs.Lexeme.{is_white, is_punctuation, begins_comment, quote, backslash, slash, star, HasNoEnd}
use Rattle.rb_lexer.specs.Lexeme.{Escape, escape_chars, escape_value, IsEscape, Comment, line_comment, block_comment}
use Rattle.rb_lexer.specs.Lexeme.{comment_chars, IsComment}
use Rattle.rb_lexer.specs.Faults.{NoEscape}
use Rattle.rb_lexer.specs.Atom.{blanks, atoms_chars, AreAtoms}
use Rattle.rb_lexer.specs.declared.pieces.TextPart.{TextPart}
use Rattle.rb_lexer.specs.declared.pieces.TextPart.TheVariants.{Plain, Escape as EscapePart}
use Rattle.rb_lexer.specs.declared.pieces.PieceKind.{PieceKind}
use Rattle.rb_lexer.specs.declared.pieces.PieceKind.TheVariants as Kinds

-- The text begins with this part, and the rest follows.
abbrev pub IsFirstPart : TextPart → List ℕ → List ℕ → Type 0
IsFirstPart (Plain c) text rest = (text ≡ c ∷ rest) × (c ≢ backslash)
IsFirstPart (EscapePart (Some code)) text rest =
    (e : Escape) × (text ≡ backslash ∷ escape_chars e rest) × IsEscape e rest × (code ≡ escape_value e)
IsFirstPart (EscapePart None) text rest =
    (after : List ℕ) × (text ≡ backslash ∷ after) × NoEscape after × (rest ≡ drop 1 after)

-- the part closes a quoted piece, whatever follows it
abbrev pub closes : TextPart → List ℕ → Bool
closes (Plain c) after = c == quote
closes (EscapePart x) after = false

-- the part ends a run, given what follows it
abbrev pub ends_run : TextPart → List ℕ → Bool
ends_run (Plain c) after = is_white c || (c == quote) || is_punctuation c || begins_comment (c ∷ after)
ends_run (EscapePart x) after = false

-- The text begins with these parts, none of which ends the piece; then comes the rest.
abbrev pub PassesBy : (TextPart → List ℕ → Bool) → List TextPart → List ℕ → List ℕ → Type 0
PassesBy ends [] text rest = text ≡ rest
PassesBy ends (p ∷ ps) text rest =
    (after : List ℕ) × IsFirstPart p text after × (ends p after ≡ false) × PassesBy ends ps after rest

abbrev pub Passes : (TextPart → List ℕ → Bool) → List ℕ → List ℕ → Type 0
Passes ends text rest = (ps : List TextPart) × PassesBy ends ps text rest

-- The rest begins with a part that ends the piece, or the text ends.
abbrev pub IsAtEnd : (TextPart → List ℕ → Bool) → List ℕ → Type 0
IsAtEnd ends rest = (rest ≡ []) ⊎ ((p : TextPart) × (after : List ℕ) × IsFirstPart p rest after × (ends p after ≡ true))

abbrev pub IsUpTo : (TextPart → List ℕ → Bool) → List ℕ → List ℕ → Type 0
IsUpTo ends text rest = Passes ends text rest × IsAtEnd ends rest

-- The text begins with a piece of this kind, and the rest follows.
abbrev pub IsFirstPiece : PieceKind → List ℕ → List ℕ → Type 0
IsFirstPiece Kinds.White text rest =
    (c : ℕ) × (cs : List ℕ) × (text ≡ atoms_chars (blanks (c ∷ cs)) rest) × AreAtoms (blanks (c ∷ cs)) rest
IsFirstPiece Kinds.LineComment text rest = (cs : List ℕ) × (end : Option ℕ)
    × (text ≡ comment_chars (line_comment cs end) rest) × IsComment (line_comment cs end) rest
IsFirstPiece Kinds.BlockComment text rest =
    (cs : List ℕ) × (text ≡ comment_chars (block_comment cs) rest) × IsComment (block_comment cs) rest
IsFirstPiece Kinds.OpenComment text rest = (cs : List ℕ) × (text ≡ slash ∷ star ∷ cs) × HasNoEnd cs × (rest ≡ [])
IsFirstPiece Kinds.LeftBrace text rest = text ≡ 0x7B ∷ rest
IsFirstPiece Kinds.RightBrace text rest = text ≡ 0x7D ∷ rest
IsFirstPiece Kinds.Colon text rest = text ≡ 0x3A ∷ rest
IsFirstPiece Kinds.Comma text rest = text ≡ 0x2C ∷ rest
IsFirstPiece Kinds.Quoted text rest =
    (after : List ℕ) × (text ≡ quote ∷ after) × Passes closes after (quote ∷ rest)
IsFirstPiece Kinds.OpenQuote text rest =
    (after : List ℕ) × (text ≡ quote ∷ after) × Passes closes after [] × (rest ≡ [])
IsFirstPiece Kinds.Run text rest = (p : TextPart) × (after : List ℕ) × IsFirstPart p text after × (ends_run p after ≡ false)
    × IsUpTo ends_run after rest
