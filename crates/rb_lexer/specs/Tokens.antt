-- Defines the tokens of a source: its texts and punctuation in the syntax of ICU's genrb, each with its span and line.
-- That adjacent pieces form one text, and when a space separates them, are rules of this project.
use Rattle.std.specs.Prelude.{◌≡◌, ◌<◌, ◌≤◌, ℕ, suc, ◌+◌, ◌==◌, Bool, true, false, ◌&&◌, ◌||◌, if◌then◌else◌, List, []}
use Rattle.std.specs.Prelude.{◌∷◌, ◌++◌, length, map, take, count_by}
use Rattle.std.specs.Prelude.{encode_utf8_all, IsTrue}
use Rattle.std.specs.Str.{all_scalars}
use Rattle.rb_lexer.specs.Lexeme.{Lexeme, white, comment, punctuation, quoted, unquoted, lexeme_chars, chars_of}
use Rattle.rb_lexer.specs.Lexeme.{parts_units, AreLexemes}
use Rattle.rb_lexer.specs.declared.token.Mark.{Mark}
use Rattle.rb_lexer.specs.declared.token.Mark.TheVariants.{Text, LeftBrace, RightBrace, Colon, Comma}
use Rattle.rb_lexer.specs.declared.token.Token.{Token}
use Rattle.rb_lexer.specs.Limits.{source_limit}

-- the number of bytes of the characters
abbrev pub width : List ℕ → ℕ
width cs = length (encode_utf8_all cs)

-- the line of a byte: 1 and the line feeds before it
abbrev pub line_of : List ℕ → ℕ → ℕ
line_of bytes at = suc (count_by (λ b. b == 0x0A) (take at bytes))

abbrev pub punctuation_mark : ℕ → Mark
punctuation_mark c = if c == 0x7B then LeftBrace
    else (if c == 0x7D then RightBrace else (if c == 0x3A then Colon else Comma))

-- ---- pieces

-- A text piece: its units, whether it is quoted, its first byte and the byte after its last.
pub record TextPiece : Type 0 where
  pub units : List ℕ
  pub is_quoted : Bool
  pub first : ℕ
  pub past : ℕ

-- a text piece, or a punctuation mark with its first byte and the byte after it
pub data Piece : Type 0 where
  text : TextPiece → Piece
  punctuation_piece : Mark → ℕ → ℕ → Piece

-- the byte after a lexeme that begins at a byte
abbrev pub past_lexeme : ℕ → Lexeme → ℕ
past_lexeme at l = at + width (lexeme_chars l [])

-- The pieces of lexemes that begin at a byte; white space and comments are dropped.
abbrev pub pieces_from : ℕ → List Lexeme → List Piece
pieces_from at [] = []
pieces_from at (white c ∷ ls) = pieces_from (past_lexeme at (white c)) ls
pieces_from at (comment c ∷ ls) = pieces_from (past_lexeme at (comment c)) ls
pieces_from at (punctuation c ∷ ls) =
    punctuation_piece (punctuation_mark c) at (past_lexeme at (punctuation c))
    ∷ pieces_from (past_lexeme at (punctuation c)) ls
pieces_from at (quoted ps ∷ ls) =
    text (record { units = parts_units ps; is_quoted = true; first = at; past = past_lexeme at (quoted ps) })
    ∷ pieces_from (past_lexeme at (quoted ps)) ls
pieces_from at (unquoted ps ∷ ls) =
    text (record { units = parts_units ps; is_quoted = false; first = at; past = past_lexeme at (unquoted ps) })
    ∷ pieces_from (past_lexeme at (unquoted ps)) ls

-- ---- merging

-- one or more consecutive text pieces, as many as there are, or a punctuation mark
pub data Group : Type 0 where
  run : TextPiece → List TextPiece → Group
  alone : Mark → ℕ → ℕ → Group

-- puts a text piece in front: it joins the first group, if that one consists of text pieces
abbrev pub in_front : TextPiece → List Group → List Group
in_front p [] = run p [] ∷ []
in_front p (run q qs ∷ gs) = run p (q ∷ qs) ∷ gs
in_front p (alone m first past ∷ gs) = run p [] ∷ alone m first past ∷ gs

-- The pieces, split into groups of consecutive text pieces, and punctuation.
abbrev pub groups : List Piece → List Group
groups [] = []
groups (text p ∷ ps) = in_front p (groups ps)
groups (punctuation_piece m first past ∷ ps) = alone m first past ∷ groups ps

abbrev pub is_empty : List ℕ → Bool
is_empty [] = true
is_empty (u ∷ us) = false

-- the separator of two pieces: none between two quoted ones or before the first, else a space
abbrev pub separator : List ℕ → Bool → Bool → List ℕ
separator units is_quoted next_is_quoted = if (is_empty units || (is_quoted && next_is_quoted)) then [] else 0x20 ∷ []

-- The units of a group: those of its first pieces, the last of them quoted or not, joined with each further piece.
abbrev pub joined_units : List ℕ → Bool → List TextPiece → List ℕ
joined_units units is_quoted [] = units
joined_units units is_quoted (p ∷ ps) = joined_units
    ((units ++ separator units is_quoted p.is_quoted) ++ p.units) p.is_quoted ps

-- the byte after the last piece of a group
abbrev pub past_last : ℕ → List TextPiece → ℕ
past_last past [] = past
past_last past (p ∷ ps) = past_last p.past ps

abbrev pub token : List ℕ → Group → Token
token bytes (run p ps) = record {
  what = Text
      (joined_units p.units p.is_quoted ps);
  first = p.first;
  past = past_last p.past ps;
  line = line_of bytes p.first;
}
token bytes (alone m first past) = record { what = m; first = first; past = past; line = line_of bytes first }

-- The tokens of lexemes: one for each group of text pieces and one for each punctuation mark.
abbrev pub tokens_of : List ℕ → List Lexeme → List Token
tokens_of bytes ls = map (token bytes) (groups (pieces_from 0 ls))

-- The source is UTF-8 and has these tokens.
pub record HasTokens (bytes : List ℕ) (ts : List Token) : Type 0 where
  pub lexemes : List Lexeme
  pub spelled : bytes ≡ encode_utf8_all (chars_of lexemes [])
  pub scalars : IsTrue (all_scalars (chars_of lexemes []))
  pub good : AreLexemes lexemes []
  pub tokens : ts ≡ tokens_of bytes lexemes

-- The source is within the limit of 8,388,608 bytes and has these tokens.
abbrev pub LexesTo : List ℕ → List Token → Type 0
LexesTo bytes ts = (length bytes ≤ source_limit) × HasTokens bytes ts

-- From `at` on, each token has at least one byte and begins where the previous one ends or later; none extends past
-- `end`.
abbrev pub AreInOrder : ℕ → List Token → ℕ → Type 0
AreInOrder at [] end = at ≤ end
AreInOrder at (t ∷ ts) end = (at ≤ t.first) × (t.first < t.past) × AreInOrder t.past ts end
