-- Defines the signs that the printer writes, and their characters. Which keys and names need no quotes, and which units
-- a quoted text escapes, are rules of this project; ICU's genrb reads both.
use Rattle.std.specs.Prelude.{ℕ, zero, suc, ◌/◌, ◌%◌, ◌==◌, ◌&&◌, ◌||◌, Bool, true, false, not, cond, nat_lt, nat_le}
use Rattle.std.specs.Prelude.{List, [], ◌∷◌, ◌++◌, Option, Some, None}
use Rattle.std.specs.List.{list_all}
use Rattle.std.specs.Char.{digit_char}
use Rattle.std.specs.Char.Utf16.{is_high_surrogate, is_low_surrogate, surrogate_pair_char}
use Rattle.rb_lexer.specs.Lexeme.{is_white, is_punctuation, quote, backslash, slash}
use Rattle.rb_lexer.specs.Tokens.{is_empty}
use Rattle.rb_lexer.specs.declared.token.Mark.{Mark}
use Rattle.rb_lexer.specs.declared.token.Mark.TheVariants.{Text, LeftBrace, RightBrace, Colon, Comma}

-- A text is bare where it needs no quotes, if its units allow that. A text in quoted pieces has each piece after the
-- first in a new line of a level.
pub data Sign : Type 0 where
  feed : Sign
  space : Sign
  left : Sign
  right : Sign
  colon : Sign
  comma : Sign
  text : Bool → List ℕ → Sign
  pieces : ℕ → List ℕ → List (List ℕ) → Sign

-- ---- characters

-- a printable ASCII character that ends no word
abbrev pub is_word_unit : ℕ → Bool
is_word_unit c = not (is_white c || (c == quote) || (c == backslash) || is_punctuation c)
    && (not (c == slash) && (nat_lt 0x20 c && nat_lt c 0x7F))

abbrev pub is_word : List ℕ → Bool
is_word us = not (is_empty us) && list_all is_word_unit us

-- a letter, a digit, `_` or `-`
abbrev pub is_name_unit : ℕ → Bool
is_name_unit c = (nat_le 0x30 c && nat_le c 0x39) || (nat_le 0x41 c && nat_le c 0x5A) ||
    (nat_le 0x61 c && nat_le c 0x7A) || (c == 0x5F) || (c == 0x2D)

-- a key or a name that needs no quotes
abbrev pub is_name : List ℕ → Bool
is_name us = not (is_empty us) && list_all is_name_unit us

-- the control characters of ASCII and of Latin-1
abbrev pub is_control : ℕ → Bool
is_control u = nat_lt u 0x20 || (nat_le 0x7F u && nat_lt u 0xA0)

abbrev pub is_surrogate : ℕ → Bool
is_surrogate u = nat_le 0xD800 u && nat_lt u 0xE000

-- the separators of lines and of paragraphs, the controls of the writing direction, and the byte order mark
abbrev pub is_mark : ℕ → Bool
is_mark u = (nat_le 0x2028 u && nat_lt u 0x202F) || (nat_le 0x2066 u && nat_lt u 0x206A) || (u == 0xFEFF)

-- a quote or a backslash
abbrev pub is_cited : ℕ → Bool
is_cited u = (u == quote) || (u == backslash)

-- a unit that needs no escape between quotes
abbrev pub is_shown : ℕ → Bool
is_shown u = not (is_cited u) && not (is_control u || is_surrogate u || is_mark u)

-- the four hexadecimal digits of a unit
abbrev pub four_digits : ℕ → List ℕ
four_digits u = digit_char (u / 4096) ∷ digit_char (u / 256 % 16) ∷ digit_char (u / 16 % 16) ∷ digit_char (u % 16) ∷ []

-- a line feed, a tab, a quote or a backslash, whose escape has one character after its backslash
abbrev pub has_letter : ℕ → Bool
has_letter u = (u == 0x0A) || (u == 0x09) || is_cited u

-- that character, as ICU's `u_unescape` reads it: `n` for a line feed, `t` for a tab, and a quote and a backslash
-- themselves
abbrev pub letter_of : ℕ → ℕ
letter_of u = cond (u == 0x0A) 0x6E (cond (u == 0x09) 0x74 u)

-- a backslash, and that character or the digits of any other unit
abbrev pub escape_chars : ℕ → List ℕ
escape_chars u = backslash ∷ cond (has_letter u) (letter_of u ∷ []) (0x75 ∷ four_digits u)

-- the first unit, if there is one
abbrev pub first_unit : List ℕ → Option ℕ
first_unit [] = None
first_unit (u ∷ us) = Some u

abbrev pub is_low : Option ℕ → Bool
is_low None = false
is_low (Some u) = is_low_surrogate u

-- the character of a surrogate pair
abbrev pub pair_chars : ℕ → Option ℕ → List ℕ
pair_chars u None = []
pair_chars u (Some v) = surrogate_pair_char u v ∷ []

-- A unit between quotes, given whether a high surrogate precedes it, and the next unit. The first unit of a surrogate
-- pair is written as the pair's character, the second as nothing. A lone surrogate is escaped.
abbrev pub unit_chars : Bool → ℕ → Option ℕ → List ℕ
unit_chars after_high u next = cond (is_shown u) (u ∷ [])
    (cond (is_high_surrogate u && is_low next) (pair_chars u next)
    (cond (after_high && is_low_surrogate u) [] (escape_chars u)))

-- units between quotes, given whether a high surrogate precedes them
abbrev pub units_chars : List ℕ → Bool → List ℕ
units_chars [] after_high = []
units_chars (u ∷ us) after_high = unit_chars after_high u (first_unit us) ++ units_chars us (is_high_surrogate u)

-- a text without quotes, or with them
abbrev pub text_chars : Bool → List ℕ → List ℕ
text_chars true us = us
text_chars false us = quote ∷ (units_chars us false ++ quote ∷ [])

-- four spaces for each level
abbrev pub spaces : ℕ → List ℕ
spaces zero = []
spaces (suc n) = 0x20 ∷ 0x20 ∷ 0x20 ∷ 0x20 ∷ spaces n

-- pieces of a text, each in a new line of a level
abbrev pub lines_chars : List (List ℕ) → ℕ → List ℕ
lines_chars [] level = []
lines_chars (p ∷ ps) level = 0x0A ∷ (spaces level ++ (text_chars false p ++ lines_chars ps level))

abbrev pub sign_chars : Sign → List ℕ
sign_chars feed = 0x0A ∷ []
sign_chars space = 0x20 ∷ []
sign_chars left = 0x7B ∷ []
sign_chars right = 0x7D ∷ []
sign_chars colon = 0x3A ∷ []
sign_chars comma = 0x2C ∷ []
sign_chars (text bare us) = text_chars (bare && is_word us) us
sign_chars (pieces level p ps) = text_chars false p ++ lines_chars ps level

abbrev pub signs_chars : List Sign → List ℕ
signs_chars [] = []
signs_chars (s ∷ ss) = sign_chars s ++ signs_chars ss

-- ---- marks

-- pieces as one text
abbrev pub joined : List (List ℕ) → List ℕ
joined [] = []
joined (p ∷ ps) = p ++ joined ps

abbrev pub signs_marks : List Sign → List Mark
signs_marks [] = []
signs_marks (feed ∷ ss) = signs_marks ss
signs_marks (space ∷ ss) = signs_marks ss
signs_marks (left ∷ ss) = LeftBrace ∷ signs_marks ss
signs_marks (right ∷ ss) = RightBrace ∷ signs_marks ss
signs_marks (colon ∷ ss) = Colon ∷ signs_marks ss
signs_marks (comma ∷ ss) = Comma ∷ signs_marks ss
signs_marks (text bare us ∷ ss) = Text us ∷ signs_marks ss
signs_marks (pieces level p ps ∷ ss) = Text (p ++ joined ps) ∷ signs_marks ss

abbrev pub is_ascii : ℕ → Bool
is_ascii c = nat_lt c 128
