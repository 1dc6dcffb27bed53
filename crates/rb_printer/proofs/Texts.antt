-- The units and the characters of one text.
use Rattle.std.proofs.Common.{◌≡◌, ℕ, ◌+◌, ◌/◌, ◌%◌, ◌<◌, Bool, true, false, cond, ◌&&◌, ◌||◌, not, List, [], ◌∷◌, ◌++◌, map}
use Rattle.std.proofs.Common.{refl, sym, ap, subst, ◌∙◌, arith, append_assoc, ne_eqb, ◌⊎◌, inl, inr, Option, Some, None}
use Rattle.std.specs.Prelude.{nat_lt, nat_le, ◌==◌, ◌≤◌, ◌-◌, IsTrue}
use Rattle.std.specs.Char.Utf16.{is_high_surrogate, is_low_surrogate, surrogate_pair_char}
use Rattle.std.specs.List.{AllByRecursion, list_all}
use Rattle.std.specs.Char.{digit_char, is_digit}
use Rattle.std.specs.Str.Parse.{digits_value}
use Rattle.std.specs.Str.{all_scalars}
use Rattle.std.proofs.Math.Utf8.{low_scalar, scalar}
use Rattle.std.proofs.lemmas.Bool.{ltb-true, ltb-false, leb-true, leb-false, lt-ltb, le-ltb, lt-leb, le-leb, eqb-true}
use Rattle.std.proofs.lemmas.Str.{digit_value-digit_char}
use Rattle.rb_lexer.specs.Lexeme.{is_white, is_punctuation, begins_comment, quote, backslash, slash, four, letter, letter_value, escape_value, Part, plain, escaped, part_chars, parts_chars, part_units}
use Rattle.rb_lexer.specs.Lexeme.{parts_units, units_of, IsRun, IsEscape, IsQuotedPart, IsUnquotedPart, AreParts, FirstStays, LastStays}
use Rattle.rb_lexer.specs.Tokens.{is_empty}
use Rattle.rb_printer.specs.Sign.{is_word_unit, is_shown, is_cited, has_letter, letter_of, is_control, is_surrogate, is_mark, is_low, four_digits, escape_chars, pair_chars, first_unit, unit_chars, units_chars}
use Rattle.rb_printer.specs.inner.Lexed.{escape_of, pair_parts, unit_parts, units_parts}
use Rattle.rb_printer.proofs.Tests.{and_left, and_right, or_cases, or_left, or_right, not_true}

-- ---- units of a word

pub word_low : (c : ℕ) → is_word_unit c ≡ true → c < 0x7F
word_low c e =
    ltb-true c 0x7F (and_right (nat_lt 0x20 c) (nat_lt c 0x7F) (and_right (not (c == slash)) (nat_lt 0x20 c && nat_lt c 0x7F)
    (and_right (not (is_white c || (c == quote) || (c == backslash) || is_punctuation c)) (not (c == slash) && (nat_lt 0x20 c && nat_lt c 0x7F)) e)))

pub word_part : (c : ℕ) (rest : List ℕ) → is_word_unit c ≡ true → IsUnquotedPart (plain c) rest
word_part c rest e = (and_left _ _ e, no_comment (not_true (c == slash) (and_left _ _ (and_right _ _ e)))) where
  no_comment : (c == slash) ≡ false → IsTrue (not (begins_comment (c ∷ rest)))
  no_comment f = rw f refl

pub word_parts : (us rest : List ℕ) → list_all is_word_unit us ≡ true → AreParts IsUnquotedPart (map plain us) rest
word_parts [] rest e = tt
word_parts (u ∷ us) rest e = (word_part u (parts_chars (map plain us) rest) (and_left _ _ e), word_parts us rest (and_right _ _ e))

pub word_first : (us : List ℕ) → not (is_empty us) ≡ true → FirstStays (map plain us)
word_first [] e = cc
word_first (u ∷ us) e = tt

pub word_last : (us : List ℕ) → not (is_empty us) ≡ true → LastStays (map plain us)
word_last [] e = cc
word_last (u ∷ []) e = tt
word_last (u ∷ v ∷ us) e = word_last (v ∷ us) refl

pub plain_chars : (us rest : List ℕ) → parts_chars (map plain us) rest ≡ us ++ rest
plain_chars [] rest = refl
plain_chars (u ∷ us) rest = ap (λ (cs : List ℕ). u ∷ cs) (plain_chars us rest)

-- ---- units between quotes

pub shown_chars : (after : Bool) (u : ℕ) (next : Option ℕ) → is_shown u ≡ true → unit_chars after u next ≡ u ∷ []
shown_chars after u next e = rw e refl

parts_append : (ps qs : List Part) (rest : List ℕ) → parts_chars (ps ++ qs) rest ≡ parts_chars ps (parts_chars qs rest)
parts_append [] qs rest = refl
parts_append (p ∷ ps) qs rest = ap (part_chars p) (parts_append ps qs rest)

unit_parts_chars : (after : Bool) (u : ℕ) (next : Option ℕ) (rest : List ℕ) → parts_chars (unit_parts after u next) rest ≡ unit_chars after u next ++ rest
unit_parts_chars after u next rest = by (is_shown u) (is_high_surrogate u && is_low next) (after && is_low_surrogate u) (has_letter u) next where
  by : (a b c d : Bool) (next : Option ℕ)
      → parts_chars (cond a (plain u ∷ []) (cond b (pair_parts u next) (cond c [] (escaped (cond d (letter (letter_of u)) (four (four_digits u))) ∷ [])))) rest
      ≡ cond a (u ∷ []) (cond b (pair_chars u next) (cond c [] (backslash ∷ cond d (letter_of u ∷ []) (0x75 ∷ four_digits u)))) ++ rest
  by true b c d next = refl
  by false true c d None = refl
  by false true c d (Some v) = refl
  by false false true d next = refl
  by false false false true next = refl
  by false false false false next = refl

pub quoted_chars : (us rest : List ℕ) (after : Bool) → parts_chars (units_parts us after) rest ≡ units_chars us after ++ rest
quoted_chars [] rest after = refl
quoted_chars (u ∷ us) rest after =
    let high = is_high_surrogate u in
    parts_append (unit_parts after u (first_unit us)) (units_parts us high) rest
    ∙ unit_parts_chars after u (first_unit us) (parts_chars (units_parts us high) rest)
    ∙ ap (λ (cs : List ℕ). unit_chars after u (first_unit us) ++ cs) (quoted_chars us rest high)
    ∙ sym (append_assoc (unit_chars after u (first_unit us)) (units_chars us high) rest)

-- ---- the digits of an escape

hex_digit : (d : ℕ) → d < 16 → IsTrue (is_digit (digit_char d) 16)
hex_digit d h = rw (digit_value-digit_char d (omega arith)) (lt-ltb d 16 h)

pub four_value : (u : ℕ) → u < 65536 → digits_value 16 (four_digits u) ≡ u
four_value u h =
    let a : u / 4096 < 36 = omega arith in
    let b : u / 256 % 16 < 36 = omega arith in
    let c : u / 16 % 16 < 36 = omega arith in
    let d : u % 16 < 36 = omega arith in
    rw (
      digit_value-digit_char (u / 4096) a,
      digit_value-digit_char (u / 256 % 16) b,
      digit_value-digit_char (u / 16 % 16) c,
      digit_value-digit_char (u % 16) d,
    ) (omega arith)

pub four_run : (u : ℕ) (rest : List ℕ) → u < 65536 → IsRun 16 4 4 (four_digits u) rest
four_run u rest h = record {
  digits = (
    hex_digit (u / 4096) (omega arith),
    (hex_digit (u / 256 % 16) (omega arith), (hex_digit (u / 16 % 16) (omega arith), (hex_digit (u % 16) (omega arith), tt))),
  );
  least_len = omega arith;
  most_len = omega arith;
  all = λ (k : 4 < 4). absurd (omega arith);
}

-- a character outside of the basic plane
wide_part : (c : ℕ) (rest : List ℕ) → 0x10000 ≤ c → IsQuotedPart (plain c) rest
wide_part c rest h = rw (ne_eqb c 0x22 (λ e. omega arith), ne_eqb c 0x5C (λ e. omega arith)) refl

-- what holds of a line feed, a tab, a quote and a backslash holds of each unit whose escape has a letter
by_letter : (P : ℕ → Type 0) (u : ℕ) → P 0x0A → P 0x09 → P quote → P backslash → has_letter u ≡ true → P u
by_letter P u line_feed tab a_quote a_backslash e = elim (or_cases ((u == 0x0A) || (u == 0x09)) (is_cited u) e) [
  | inl f ↦ elim (or_cases (u == 0x0A) (u == 0x09) f) [
    | inl g ↦ subst P (sym (eqb-true u 0x0A g)) line_feed
    | inr g ↦ subst P (sym (eqb-true u 0x09 g)) tab
  ]
  | inr f ↦ elim (or_cases (u == quote) (u == backslash) f) [
    | inl g ↦ subst P (sym (eqb-true u quote g)) a_quote
    | inr g ↦ subst P (sym (eqb-true u backslash g)) a_backslash
  ]
]

letter_part : (u : ℕ) (rest : List ℕ) → has_letter u ≡ true → IsEscape (letter (letter_of u)) rest
letter_part u rest e = by_letter (λ (c : ℕ). IsEscape (letter (letter_of c)) rest) u refl refl refl refl e

unit_is : (after : Bool) (u : ℕ) (next : Option ℕ) (rest : List ℕ) → u < 65536 → AreParts IsQuotedPart (unit_parts after u next) rest
unit_is after u next rest h = by (is_shown u) (is_high_surrogate u && is_low next) (after && is_low_surrogate u) (has_letter u) next refl refl where
  by : (a b c d : Bool) (next : Option ℕ) → is_shown u ≡ a → has_letter u ≡ d
      → AreParts IsQuotedPart (cond a (plain u ∷ []) (cond b (pair_parts u next) (cond c [] (escaped (cond d (letter (letter_of u)) (four (four_digits u))) ∷ [])))) rest
  by true b c d next e f = (and_left _ _ e, tt)
  by false true c d None e f = tt
  by false true c d (Some v) e f = (wide_part (surrogate_pair_char u v) rest (omega arith), tt)
  by false false true d next e f = tt
  by false false false true next e f = (letter_part u rest f, tt)
  by false false false false next e f = (four_run u rest h, tt)

parts_join : (Is : Part → List ℕ → Type 0) (ps qs : List Part) (rest : List ℕ) → AreParts Is ps (parts_chars qs rest) → AreParts Is qs rest
    → AreParts Is (ps ++ qs) rest
parts_join Is [] qs rest p q = q
parts_join Is (x ∷ ps) qs rest p q =
    (subst (λ (cs : List ℕ). Is x cs) (sym (parts_append ps qs rest)) p.0, parts_join Is ps qs rest p.1 q)

pub quoted_parts : (us rest : List ℕ) (after : Bool) → AllByRecursion (λ u. u < 65536) us → AreParts IsQuotedPart (units_parts us after) rest
quoted_parts [] rest after h = tt
quoted_parts (u ∷ us) rest after h =
    let high = is_high_surrogate u in
    parts_join IsQuotedPart (unit_parts after u (first_unit us)) (units_parts us high) rest
    (unit_is after u (first_unit us) (parts_chars (units_parts us high) rest) h.0) (quoted_parts us rest high h.1)

-- ---- the units that are read again

no_surrogate_cases : (u : ℕ) → is_surrogate u ≡ false → (u < 0xD800) ⊎ (0xE000 ≤ u)
no_surrogate_cases u e = by (nat_le 0xD800 u) refl where
  by : (b : Bool) → nat_le 0xD800 u ≡ b → (u < 0xD800) ⊎ (0xE000 ≤ u)
  by false f = inl (leb-false 0xD800 u f)
  by true f = let high : nat_lt u 0xE000 ≡ false = rw f at e in inr (ltb-false u 0xE000 high)

one_unit : (u : ℕ) → u < 65536 → units_of u ≡ u ∷ []
one_unit u h = rw (lt-ltb u 65536 h) refl

record IsHigh (u : ℕ) : Type 0 where
  pub from : 0xD800 ≤ u
  pub below : u < 0xDC00

is_high : (u : ℕ) → is_high_surrogate u ≡ true → IsHigh u
is_high u e = record { from = leb-true 0xD800 u (and_left _ _ e); below = ltb-true u 0xDC00 (and_right _ _ e) }

record IsLow (u : ℕ) : Type 0 where
  pub from : 0xDC00 ≤ u
  pub below : u < 0xE000

is_low_unit : (u : ℕ) → is_low_surrogate u ≡ true → IsLow u
is_low_unit u e = record { from = leb-true 0xDC00 u (and_left _ _ e); below = ltb-true u 0xE000 (and_right _ _ e) }

pub low_not_high : (u : ℕ) → is_low_surrogate u ≡ true → is_high_surrogate u ≡ false
low_not_high u e = let low = is_low_unit u e in rw (le-leb 0xD800 u (omega arith), le-ltb u 0xDC00 (omega arith)) refl

high_not_low : (u : ℕ) → is_high_surrogate u ≡ true → is_low_surrogate u ≡ false
high_not_low u e = let high = is_high u e in rw (lt-leb 0xDC00 u (omega arith)) refl

pair_units : (u v : ℕ) → IsHigh u → IsLow v → units_of (surrogate_pair_char u v) ≡ u ∷ v ∷ []
pair_units u v high low =
    let c = surrogate_pair_char u v in
    let first : 0xD800 + (c - 0x10000) / 0x400 ≡ u = omega arith in
    let second : 0xDC00 + (c - 0x10000) % 0x400 ≡ v = omega arith in
    rw (le-ltb c 0x10000 (omega arith)) (ap (λ (x : ℕ). x ∷ (0xDC00 + (c - 0x10000) % 0x400) ∷ []) first ∙ ap (λ (x : ℕ). u ∷ x ∷ []) second)

value_of_letter : (u : ℕ) → has_letter u ≡ true → letter_value (letter_of u) ≡ u
value_of_letter u e = by_letter (λ (c : ℕ). letter_value (letter_of c) ≡ c) u refl refl refl refl e

escape_units : (u : ℕ) → u < 65536 → units_of (escape_value (escape_of u)) ≡ u ∷ []
escape_units u h = by (has_letter u) refl where
  by : (b : Bool) → has_letter u ≡ b → units_of (escape_value (cond b (letter (letter_of u)) (four (four_digits u)))) ≡ u ∷ []
  by true e = ap units_of (value_of_letter u e) ∙ one_unit u h
  by false e = ap units_of (four_value u h) ∙ one_unit u h

-- the units without the second of a pair whose first precedes them
abbrev past : Bool → List ℕ → List ℕ
past after [] = []
past after (u ∷ us) = cond (after && is_low_surrogate u) us (u ∷ us)

past_none : (us : List ℕ) → past false us ≡ us
past_none [] = refl
past_none (u ∷ us) = refl

no_pair : (u : ℕ) (us : List ℕ) → (is_high_surrogate u && is_low (first_unit us)) ≡ false → past (is_high_surrogate u) us ≡ us
no_pair u [] e = refl
no_pair u (v ∷ us) e = ap (λ (b : Bool). cond b us (v ∷ us)) e

a_pair : (u : ℕ) (us : List ℕ) → (is_high_surrogate u && is_low (first_unit us)) ≡ true
    → parts_units (pair_parts u (first_unit us)) ++ past (is_high_surrogate u) us ≡ u ∷ us
a_pair u [] e = let none = and_right (is_high_surrogate u) false e in cc
a_pair u (v ∷ us) e =
    let high = and_left (is_high_surrogate u) (is_low_surrogate v) e in
    let low = and_right (is_high_surrogate u) (is_low_surrogate v) e in
    ap (λ (xs : List ℕ). (xs ++ []) ++ past (is_high_surrogate u) (v ∷ us)) (pair_units u v (is_high u high) (is_low_unit v low))
    ∙ ap (λ (b : Bool). u ∷ v ∷ cond b us (v ∷ us)) e

shown_unpaired : (u : ℕ) → is_shown u ≡ true → is_surrogate u ≡ false
shown_unpaired u e =
    or_right (is_control u) (is_surrogate u) (or_left (is_control u || is_surrogate u) (is_mark u)
    (not_true (is_control u || is_surrogate u || is_mark u) (and_right (not (is_cited u)) (not (is_control u || is_surrogate u || is_mark u)) e)))

no_high : (u : ℕ) → is_surrogate u ≡ false → is_high_surrogate u ≡ false
no_high u e = elim (no_surrogate_cases u e) [
  | inl low ↦ rw (lt-leb 0xD800 u low) refl
  | inr high ↦ rw (le-leb 0xD800 u (omega arith), le-ltb u 0xDC00 (omega arith)) refl
]

no_low : (u : ℕ) → is_surrogate u ≡ false → is_low_surrogate u ≡ false
no_low u e = elim (no_surrogate_cases u e) [
  | inl low ↦ rw (lt-leb 0xDC00 u (omega arith)) refl
  | inr high ↦ rw (le-leb 0xDC00 u (omega arith), le-ltb u 0xE000 high) refl
]

pub shown_high : (u : ℕ) → is_shown u ≡ true → is_high_surrogate u ≡ false
shown_high u e = no_high u (shown_unpaired u e)

both_false : (b : Bool) → (b && false) ≡ false
both_false true = refl
both_false false = refl

pub shown_next : (u : ℕ) (us : List ℕ) (after : Bool) → is_shown u ≡ true → units_chars (u ∷ us) after ≡ u ∷ units_chars us false
shown_next u us after e =
    ap (λ (cs : List ℕ). cs ++ units_chars us (is_high_surrogate u)) (shown_chars after u (first_unit us) e)
    ∙ ap (λ (b : Bool). u ∷ units_chars us b) (shown_high u e)

units_next : (after : Bool) (u : ℕ) (us : List ℕ) → u < 65536 → parts_units (unit_parts after u (first_unit us)) ++ past (is_high_surrogate u) us ≡ past after (u ∷ us)
units_next after u us h = by (is_shown u) (is_high_surrogate u && is_low (first_unit us)) (after && is_low_surrogate u) refl refl refl where
  by : (a b c : Bool) → is_shown u ≡ a → (is_high_surrogate u && is_low (first_unit us)) ≡ b → (after && is_low_surrogate u) ≡ c
      → parts_units (cond a (plain u ∷ []) (cond b (pair_parts u (first_unit us)) (cond c [] (escaped (escape_of u) ∷ [])))) ++ past (is_high_surrogate u) us
      ≡ cond (after && is_low_surrogate u) us (u ∷ us)
  by true b c e f g =
      let low : (after && is_low_surrogate u) ≡ false = ap (λ (x : Bool). after && x) (no_low u (shown_unpaired u e)) ∙ both_false after in
      ap (λ (xs : List ℕ). (xs ++ []) ++ past (is_high_surrogate u) us) (one_unit u h)
      ∙ ap (λ (x : Bool). u ∷ past x us) (shown_high u e) ∙ ap (λ (xs : List ℕ). u ∷ xs) (past_none us) ∙ ap (λ (x : Bool). cond x us (u ∷ us)) (sym low)
  by false true c e f g =
      let low : (after && is_low_surrogate u) ≡ false = ap (λ (x : Bool). after && x) (high_not_low u (and_left _ _ f)) ∙ both_false after in
      a_pair u us f ∙ ap (λ (x : Bool). cond x us (u ∷ us)) (sym low)
  by false false true e f g =
      ap (λ (x : Bool). past x us) (low_not_high u (and_right after (is_low_surrogate u) g)) ∙ past_none us ∙ ap (λ (x : Bool). cond x us (u ∷ us)) (sym g)
  by false false false e f g =
      ap (λ (xs : List ℕ). (xs ++ []) ++ past (is_high_surrogate u) us) (escape_units u h) ∙ ap (λ (xs : List ℕ). u ∷ xs) (no_pair u us f)
      ∙ ap (λ (x : Bool). cond x us (u ∷ us)) (sym g)

parts_units_append : (ps qs : List Part) → parts_units (ps ++ qs) ≡ parts_units ps ++ parts_units qs
parts_units_append [] qs = refl
parts_units_append (p ∷ ps) qs =
    ap (λ (xs : List ℕ). part_units p ++ xs) (parts_units_append ps qs) ∙ sym (append_assoc (part_units p) (parts_units ps) (parts_units qs))

units_past : (us : List ℕ) (after : Bool) → AllByRecursion (λ u. u < 65536) us → parts_units (units_parts us after) ≡ past after us
units_past [] after h = refl
units_past (u ∷ us) after h =
    let high = is_high_surrogate u in
    parts_units_append (unit_parts after u (first_unit us)) (units_parts us high)
    ∙ ap (λ (xs : List ℕ). parts_units (unit_parts after u (first_unit us)) ++ xs) (units_past us high h.1) ∙ units_next after u us h.0

pub quoted_units : (us : List ℕ) → AllByRecursion (λ u. u < 65536) us → parts_units (units_parts us false) ≡ us
quoted_units us h = units_past us false h ∙ past_none us

pub plain_units : (us : List ℕ) → AllByRecursion (λ u. u < 65536) us → parts_units (map plain us) ≡ us
plain_units [] h = refl
plain_units (u ∷ us) h = ap (λ (xs : List ℕ). xs ++ parts_units (map plain us)) (one_unit u h.0) ∙ ap (λ (xs : List ℕ). u ∷ xs) (plain_units us h.1)

-- ---- characters that are Unicode scalar values

high_scalar : (c : ℕ) → 0xE000 ≤ c → c < 0x110000 → scalar c ≡ true
high_scalar c low high = rw (le-leb 57344 c low, lt-ltb c 1114112 (omega arith)) (both (nat_lt c 55296)) where
  both : (b : Bool) → cond b true true ≡ true
  both true = refl
  both false = refl

pub scalars_append : (xs ys : List ℕ) → all_scalars xs ≡ true → all_scalars ys ≡ true → all_scalars (xs ++ ys) ≡ true
scalars_append [] ys p q = q
scalars_append (x ∷ xs) ys p q = rw (and_left (scalar x) (all_scalars xs) p) (scalars_append xs ys (and_right (scalar x) (all_scalars xs) p) q)

low : (c : ℕ) → c < 128 → scalar c ≡ true
low c h = low_scalar c (omega arith)

digit_low : (d : ℕ) → d < 16 → scalar (digit_char d) ≡ true
digit_low d h = by (nat_lt d 10) where
  by : (b : Bool) → scalar (cond b (48 + d) (87 + d)) ≡ true
  by true = low (48 + d) (omega arith)
  by false = low (87 + d) (omega arith)

-- no surrogate
shown_scalar : (u : ℕ) → u < 65536 → is_shown u ≡ true → scalar u ≡ true
shown_scalar u h e = elim (no_surrogate_cases u (shown_unpaired u e)) [ inl low ↦ low_scalar u low | inr high ↦ high_scalar u high (omega arith) ]

pair_scalar : (u v : ℕ) → IsHigh u → IsLow v → scalar (surrogate_pair_char u v) ≡ true
pair_scalar u v high low = high_scalar (surrogate_pair_char u v) (omega arith) (omega arith)

pair_scalars : (u : ℕ) (next : Option ℕ) → (is_high_surrogate u && is_low next) ≡ true → all_scalars (pair_chars u next) ≡ true
pair_scalars u None e = refl
pair_scalars u (Some v) e =
    rw (pair_scalar u v (is_high u (and_left (is_high_surrogate u) (is_low_surrogate v) e))
    (is_low_unit v (and_right (is_high_surrogate u) (is_low_surrogate v) e))) refl

letter_low : (u : ℕ) → has_letter u ≡ true → scalar (letter_of u) ≡ true
letter_low u e = by_letter (λ (c : ℕ). scalar (letter_of c) ≡ true) u refl refl refl refl e

escape_scalars : (u : ℕ) → u < 65536 → all_scalars (escape_chars u) ≡ true
escape_scalars u h = by (has_letter u) refl where
  by : (b : Bool) → has_letter u ≡ b → all_scalars (backslash ∷ cond b (letter_of u ∷ []) (0x75 ∷ four_digits u)) ≡ true
  by true e = rw (letter_low u e) refl
  by false e = rw (
    digit_low (u / 4096) (omega arith),
    digit_low (u / 256 % 16) (omega arith),
    digit_low (u / 16 % 16) (omega arith),
    digit_low (u % 16) (omega arith),
  ) refl

pub unit_scalars : (after : Bool) (u : ℕ) (next : Option ℕ) → u < 65536 → all_scalars (unit_chars after u next) ≡ true
unit_scalars after u next h = by (is_shown u) (is_high_surrogate u && is_low next) (after && is_low_surrogate u) refl refl where
  by : (a b c : Bool) → is_shown u ≡ a → (is_high_surrogate u && is_low next) ≡ b
      → all_scalars (cond a (u ∷ []) (cond b (pair_chars u next) (cond c [] (escape_chars u)))) ≡ true
  by true b c e f = rw (shown_scalar u h e) refl
  by false true c e f = pair_scalars u next f
  by false false true e f = refl
  by false false false e f = escape_scalars u h

pub units_scalars : (us : List ℕ) (after : Bool) → AllByRecursion (λ u. u < 65536) us → all_scalars (units_chars us after) ≡ true
units_scalars [] after h = refl
units_scalars (u ∷ us) after h =
    scalars_append (unit_chars after u (first_unit us)) (units_chars us (is_high_surrogate u)) (unit_scalars after u (first_unit us) h.0)
    (units_scalars us (is_high_surrogate u) h.1)

pub word_scalars : (us : List ℕ) → list_all is_word_unit us ≡ true → all_scalars us ≡ true
word_scalars [] e = refl
word_scalars (u ∷ us) e =
    let h : u < 0x7F = word_low u (and_left _ _ e) in rw (low_scalar u (omega arith)) (word_scalars us (and_right _ _ e))
