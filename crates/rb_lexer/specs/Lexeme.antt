-- Defines the lexemes of a bundle text, in the syntax of ICU's genrb, and the characters that spell them. Three rules
-- are this project's own: a line comment includes its line break, an unquoted piece may contain comments, and in an
-- unquoted piece a backslash before any other character stands for that character.
use Rattle.std.specs.Prelude.{◌≡◌, ℕ, ◌+◌, ◌-◌, ◌/◌, ◌%◌, ◌<◌, ◌≤◌, ◌==◌, ◌||◌, ◌&&◌, Bool, false, not, nat_lt}
use Rattle.std.specs.Prelude.{if◌then◌else◌, List, [], ◌∷◌, ◌++◌, length}
use Rattle.std.specs.Prelude.{IsTrue, Option, Some, None}
use Rattle.std.specs.List.{AllByRecursion}
use Rattle.std.specs.Char.{is_digit}
use Rattle.std.specs.Str.Parse.{digits_value}

abbrev pub is_white : ℕ → Bool
is_white c = (c == 0x09) || (c == 0x0A) || (c == 0x0D) || (c == 0x20) || (c == 0x2029) || (c == 0xFEFF)

abbrev pub quote : ℕ
quote = 0x22

abbrev pub backslash : ℕ
backslash = 0x5C

abbrev pub slash : ℕ
slash = 0x2F

abbrev pub star : ℕ
star = 0x2A

-- { } , :
abbrev pub is_punctuation : ℕ → Bool
is_punctuation c = (c == 0x7B) || (c == 0x7D) || (c == 0x2C) || (c == 0x3A)

-- the characters that end a line comment, and belong to it
abbrev pub ends_line : ℕ → Bool
ends_line c = (c == 0x0A) || (c == 0x0D) || (c == 0x2029)

-- The test is true of the first character, if there is one.
abbrev pub begins : (ℕ → Bool) → List ℕ → Bool
begins is [] = false
begins is (c ∷ cs) = is c

-- a comment begins here
abbrev pub begins_comment : List ℕ → Bool
begins_comment [] = false
begins_comment (c ∷ cs) = (c == slash) && begins (λ d. (d == slash) || (d == star)) cs

-- ---- escapes

-- the characters after a backslash
pub data Escape : Type 0 where
  four : List ℕ → Escape
  eight : List ℕ → Escape
  hex : List ℕ → Escape
  octal : List ℕ → Escape
  letter : ℕ → Escape

abbrev pub escape_chars : Escape → List ℕ → List ℕ
escape_chars (four ds) rest = 0x75 ∷ (ds ++ rest)
escape_chars (eight ds) rest = 0x55 ∷ (ds ++ rest)
escape_chars (hex ds) rest = 0x78 ∷ (ds ++ rest)
escape_chars (octal ds) rest = ds ++ rest
escape_chars (letter c) rest = c ∷ rest

-- between `least` and `most` digits, as many as there are
pub record IsRun (radix least most : ℕ) (ds rest : List ℕ) : Type 0 where
  pub digits : AllByRecursion (λ c. IsTrue (is_digit c radix)) ds
  pub least_len : least ≤ length ds
  pub most_len : length ds ≤ most
  pub all : length ds < most → IsTrue (not (begins (λ c. is_digit c radix) rest))

-- The escape is one of genrb's, with `rest` after it.
abbrev pub IsEscape : Escape → List ℕ → Type 0
IsEscape (four ds) rest = IsRun 16 4 4 ds rest
IsEscape (eight ds) rest = IsRun 16 8 8 ds rest × (digits_value 16 ds ≤ 0x10FFFF)
IsEscape (hex ds) rest = IsRun 16 1 2 ds rest
IsEscape (octal ds) rest = IsRun 8 1 3 ds rest
IsEscape (letter c) rest = IsTrue (not (is_digit c 8 || (c == 0x75) || (c == 0x55) || (c == 0x78) || (c == 0x63)))

abbrev pub letter_value : ℕ → ℕ
letter_value c =
    if c == 0x61 then 0x07 else (if c == 0x62 then 0x08 else (if c == 0x65 then 0x1B else (if c == 0x66 then 0x0C else
    (if c == 0x6E then 0x0A
    else (if c == 0x72 then 0x0D else (if c == 0x74 then 0x09 else (if c == 0x76 then 0x0B else c)))))))

abbrev pub escape_value : Escape → ℕ
escape_value (four ds) = digits_value 16 ds
escape_value (eight ds) = digits_value 16 ds
escape_value (hex ds) = digits_value 16 ds
escape_value (octal ds) = digits_value 8 ds
escape_value (letter c) = letter_value c

-- the units of a code point; a surrogate's number is one unit
abbrev pub units_of : ℕ → List ℕ
units_of c = if nat_lt c 0x10000 then c ∷ []
    else (0xD800 + (c - 0x10000) / 0x400) ∷ (0xDC00 + (c - 0x10000) % 0x400) ∷ []

-- ---- lexemes

pub data Comment : Type 0 where
  line_comment : List ℕ → Option ℕ → Comment
  block_comment : List ℕ → Comment

abbrev pub option_chars : Option ℕ → List ℕ → List ℕ
option_chars None rest = rest
option_chars (Some c) rest = c ∷ rest

abbrev pub comment_chars : Comment → List ℕ → List ℕ
comment_chars (line_comment cs end) rest = slash ∷ slash ∷ (cs ++ option_chars end rest)
comment_chars (block_comment cs) rest = slash ∷ star ∷ (cs ++ star ∷ slash ∷ rest)

-- no star and slash side by side, even if a star follows the last character
abbrev pub HasNoEnd : List ℕ → Type 0
HasNoEnd [] = Unit {0}
HasNoEnd (c ∷ cs) = (IsTrue (c == star) → IsTrue (not (begins (λ d. d == slash) cs))) × HasNoEnd cs

abbrev pub IsComment : Comment → List ℕ → Type 0
IsComment (line_comment cs None) rest = AllByRecursion (λ c. IsTrue (not (ends_line c))) cs × (rest ≡ [])
IsComment (line_comment cs (Some c)) rest = AllByRecursion (λ c. IsTrue (not (ends_line c))) cs × IsTrue (ends_line c)
IsComment (block_comment cs) rest = HasNoEnd cs

-- a part of a text: a character, an escape, or, in an unquoted one, a comment
pub data Part : Type 0 where
  plain : ℕ → Part
  escaped : Escape → Part
  dropped : Comment → Part

abbrev pub part_chars : Part → List ℕ → List ℕ
part_chars (plain c) rest = c ∷ rest
part_chars (escaped e) rest = backslash ∷ escape_chars e rest
part_chars (dropped c) rest = comment_chars c rest

abbrev pub parts_chars : List Part → List ℕ → List ℕ
parts_chars [] rest = rest
parts_chars (p ∷ ps) rest = part_chars p (parts_chars ps rest)

abbrev pub part_units : Part → List ℕ
part_units (plain c) = units_of c
part_units (escaped e) = units_of (escape_value e)
part_units (dropped c) = []

abbrev pub parts_units : List Part → List ℕ
parts_units [] = []
parts_units (p ∷ ps) = part_units p ++ parts_units ps

abbrev pub IsQuotedPart : Part → List ℕ → Type 0
IsQuotedPart (plain c) rest = IsTrue (not ((c == quote) || (c == backslash)))
IsQuotedPart (escaped e) rest = IsEscape e rest
IsQuotedPart (dropped c) rest = ⊥

abbrev pub IsUnquotedPart : Part → List ℕ → Type 0
IsUnquotedPart (plain c) rest = IsTrue (not (is_white c || (c == quote) || (c == backslash) || is_punctuation c))
    × IsTrue (not (begins_comment (c ∷ rest)))
IsUnquotedPart (escaped e) rest = IsEscape e rest
IsUnquotedPart (dropped c) rest = IsComment c rest

abbrev pub AreParts : (Part → List ℕ → Type 0) → List Part → List ℕ → Type 0
AreParts Is [] rest = Unit {0}
AreParts Is (p ∷ ps) rest = Is p (parts_chars ps rest) × AreParts Is ps rest

-- the part is no comment
abbrev pub Stays : Part → Type 0
Stays (plain c) = Unit {0}
Stays (escaped e) = Unit {0}
Stays (dropped c) = ⊥

abbrev pub LastStays : List Part → Type 0
LastStays [] = ⊥
LastStays (p ∷ []) = Stays p
LastStays (p ∷ q ∷ ps) = LastStays (q ∷ ps)

abbrev pub FirstStays : List Part → Type 0
FirstStays [] = ⊥
FirstStays (p ∷ ps) = Stays p

pub data Lexeme : Type 0 where
  white : ℕ → Lexeme
  comment : Comment → Lexeme
  punctuation : ℕ → Lexeme
  quoted : List Part → Lexeme
  unquoted : List Part → Lexeme

abbrev pub lexeme_chars : Lexeme → List ℕ → List ℕ
lexeme_chars (white c) rest = c ∷ rest
lexeme_chars (comment c) rest = comment_chars c rest
lexeme_chars (punctuation c) rest = c ∷ rest
lexeme_chars (quoted ps) rest = quote ∷ parts_chars ps (quote ∷ rest)
lexeme_chars (unquoted ps) rest = parts_chars ps rest

-- the characters of lexemes, followed by the rest
abbrev pub chars_of : List Lexeme → List ℕ → List ℕ
chars_of [] rest = rest
chars_of (l ∷ ls) rest = lexeme_chars l (chars_of ls rest)

-- After an unquoted piece and any comments comes white space, a quote or punctuation, or the lexemes end.
abbrev pub EndsUnquoted : List Lexeme → Type 0
EndsUnquoted [] = Unit {0}
EndsUnquoted (white c ∷ ls) = Unit {0}
EndsUnquoted (comment c ∷ ls) = EndsUnquoted ls
EndsUnquoted (punctuation c ∷ ls) = Unit {0}
EndsUnquoted (quoted ps ∷ ls) = Unit {0}
EndsUnquoted (unquoted ps ∷ ls) = ⊥

-- These are lexemes, with `rest` after them: nothing, or characters that begin no lexeme (specs.Faults).
abbrev pub AreLexemes : List Lexeme → List ℕ → Type 0
AreLexemes [] rest = Unit {0}
AreLexemes (white c ∷ ls) rest = IsTrue (is_white c) × AreLexemes ls rest
AreLexemes (comment c ∷ ls) rest = IsComment c (chars_of ls rest) × AreLexemes ls rest
AreLexemes (punctuation c ∷ ls) rest = IsTrue (is_punctuation c) × AreLexemes ls rest
AreLexemes (quoted ps ∷ ls) rest = AreParts IsQuotedPart ps (quote ∷ chars_of ls rest) × AreLexemes ls rest
AreLexemes (unquoted ps ∷ ls) rest = AreParts IsUnquotedPart ps (chars_of ls rest) × FirstStays ps × LastStays ps
    × EndsUnquoted ls × AreLexemes ls rest
