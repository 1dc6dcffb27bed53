-- Defines the lexical errors of a source, and which one is reported. The syntax is that of ICU's genrb. What is an
-- error, and in which line, is a rule of this project: too many bytes come first, then bytes that are not UTF-8, then
-- the first in the text of a bad escape, a quoted piece that is never closed and a comment that is never closed.
use Rattle.std.specs.Prelude.{◌≡◌, ℕ, ◌+◌, ◌<◌, ◌≤◌, ◌⊎◌, List, [], ◌∷◌, length, encode_utf8_all, IsTrue}
use Rattle.std.specs.Str.{all_scalars, IsValidUpTo}
use Rattle.rb_lexer.specs.declared.fault.SourceKind.{SourceKind}
use Rattle.rb_lexer.specs.declared.fault.SourceKind.TheVariants.{TooLong, NotUtf8, BadEscape, OpenQuote, OpenComment}
use Rattle.rb_lexer.specs.declared.fault.SourceKind.TheVariants.{Memory}
use Rattle.rb_lexer.specs.declared.fault.SourceFault.{SourceFault}
use Rattle.rb_lexer.specs.Lexeme.{quote, backslash, slash, star, Escape, escape_chars, IsEscape, HasNoEnd, Part}
use Rattle.rb_lexer.specs.Lexeme.{parts_chars, AreParts, IsQuotedPart, Lexeme}
use Rattle.rb_lexer.specs.Lexeme.{chars_of, AreLexemes}
use Rattle.rb_lexer.specs.Tokens.{width, line_of}
use Rattle.rb_lexer.specs.Limits.{source_limit}

-- A quoted piece or a comment that is never closed, or a backslash, inside or outside a quoted piece, that begins no
-- escape.
pub data Broken : Type 0 where
  open_quote : List Part → Broken
  open_comment : List ℕ → Broken
  bad_escape : List ℕ → Broken
  bad_quoted : List Part → List ℕ → Broken

-- all the characters, up to the end of the source
abbrev pub broken_chars : Broken → List ℕ
broken_chars (open_quote ps) = quote ∷ parts_chars ps []
broken_chars (open_comment cs) = slash ∷ star ∷ cs
broken_chars (bad_escape rest) = backslash ∷ rest
broken_chars (bad_quoted ps rest) = quote ∷ parts_chars ps (backslash ∷ rest)

-- No escape follows the backslash.
abbrev pub NoEscape : List ℕ → Type 0
NoEscape cs = (e : Escape) (rest : List ℕ) → cs ≡ escape_chars e rest → IsEscape e rest → ⊥

abbrev pub IsBroken : Broken → Type 0
IsBroken (open_quote ps) = AreParts IsQuotedPart ps []
IsBroken (open_comment cs) = HasNoEnd cs
IsBroken (bad_escape rest) = NoEscape rest
IsBroken (bad_quoted ps rest) = AreParts IsQuotedPart ps (backslash ∷ rest) × NoEscape rest

abbrev pub broken_kind : Broken → SourceKind
broken_kind (open_quote ps) = OpenQuote
broken_kind (open_comment cs) = OpenComment
broken_kind (bad_escape rest) = BadEscape
broken_kind (bad_quoted ps rest) = BadEscape

-- the characters from the error on: none, or those from the backslash on
abbrev pub from_fault : Broken → List ℕ
from_fault (open_quote ps) = []
from_fault (open_comment cs) = []
from_fault (bad_escape rest) = backslash ∷ rest
from_fault (bad_quoted ps rest) = backslash ∷ rest

-- The source is UTF-8 and has this lexical error.
pub record HasFault (bytes : List ℕ) (kind : SourceKind) (line : ℕ) : Type 0 where
  pub front : List Lexeme
  pub broken : Broken
  pub at : ℕ
  pub spelled : bytes ≡ encode_utf8_all (chars_of front (broken_chars broken))
  pub scalars : IsTrue (all_scalars (chars_of front (broken_chars broken)))
  pub good : AreLexemes front (broken_chars broken)
  pub is_broken : IsBroken broken
  pub is_kind : kind ≡ broken_kind broken
  pub is_at : at + width (from_fault broken) ≡ length bytes
  pub is_line : line ≡ line_of bytes at

-- too many bytes
abbrev pub IsLong : List ℕ → ℕ → Type 0
IsLong bytes line = (source_limit < length bytes) × (line ≡ 1)

-- a first byte at which no character begins
abbrev pub IsGarbled : List ℕ → ℕ → Type 0
IsGarbled bytes line = (length bytes ≤ source_limit) × ((at : ℕ) × IsValidUpTo bytes at × (line ≡ line_of bytes at))

-- the reason why a source is no text
abbrev pub IsTextFault : List ℕ → SourceKind → ℕ → Type 0
IsTextFault bytes kind line = ((kind ≡ TooLong) × IsLong bytes line) ⊎ ((kind ≡ NotUtf8) × IsGarbled bytes line)

-- The source is no text, or it is a text with a lexical error.
abbrev pub IsSourceFault : List ℕ → SourceKind → ℕ → Type 0
IsSourceFault bytes kind line = IsTextFault bytes kind line ⊎ ((length bytes ≤ source_limit) × HasFault bytes kind line)

-- The reason why a source is rejected: out of memory, or an error in it.
abbrev pub IsRefusal : List ℕ → SourceFault → Type 0
IsRefusal bytes e = ((e.kind ≡ Memory) × (e.line ≡ 0)) ⊎ IsSourceFault bytes e.kind e.line
