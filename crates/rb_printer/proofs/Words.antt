-- Proves that texts without quotes, including numbers, need no escapes.
use Rattle.std.proofs.Common.{◌≡◌, ℕ, suc, ◌<◌, ◌≤◌, ◌^◌, ℤ, pos, negsuc, true, false, not, ◌&&◌, ◌||◌, List, [], ◌∷◌, length, ne_eqb}
use Rattle.std.proofs.Common.{refl, sym, ap, subst, ◌∙◌, arith}
use Rattle.std.specs.Prelude.{nat_lt, ◌==◌}
use Rattle.std.specs.List.{list_all}
use Rattle.std.specs.Char.{digit_value}
use Rattle.std.specs.Fmt.{decimal, signed_decimal}
use Rattle.std.specs.Str.Parse.{AllDigits}
use Rattle.std.proofs.lemmas.Bool.{ltb-true, lt-ltb, le-ltb, lt-leb}
use Rattle.std.proofs.lemmas.Bool.Decides.{nat_tests}
use Rattle.std.proofs.lemmas.Fmt.{decimal_is_IsNumeral, decimal_nonempty}
use Rattle.rb_lexer.specs.Lexeme.{is_white, is_punctuation, quote, backslash, slash}
use Rattle.rb_lexer.specs.Tokens.{is_empty}
use Rattle.rb_printer.specs.Sign.{is_word_unit, is_word, is_name_unit, is_name, is_shown, is_ascii, units_chars}
use Rattle.rb_printer.specs.Sound.{IsNumber}
use Rattle.rb_printer.proofs.Tests.{and_left, and_right, or_left, or_right, not_true}
use Rattle.rb_printer.proofs.Texts.{word_low, shown_next}

-- ---- digits

digit_above : (c : ℕ) → digit_value c < 10 → 48 ≤ c
digit_above c h = grind (arith, nat_tests)

digit_below : (c : ℕ) → digit_value c < 10 → c < 58
digit_below c h = grind (arith, nat_tests)

plain_unit : (c : ℕ) → 47 < c → c < 58 → is_word_unit c ≡ true
plain_unit c low high = rw (
  ne_eqb c 0x09 (λ e. omega arith),
  ne_eqb c 0x0A (λ e. omega arith),
  ne_eqb c 0x0D (λ e. omega arith),
  ne_eqb c 0x20 (λ e. omega arith),
  ne_eqb c 0x2029 (λ e. omega arith),
  ne_eqb c 0xFEFF (λ e. omega arith),
  ne_eqb c 0x22 (λ e. omega arith),
  ne_eqb c 0x5C (λ e. omega arith),
  ne_eqb c 0x7B (λ e. omega arith),
  ne_eqb c 0x7D (λ e. omega arith),
  ne_eqb c 0x2C (λ e. omega arith),
  ne_eqb c 0x3A (λ e. omega arith),
  ne_eqb c 0x2F (λ e. omega arith),
  lt-ltb 0x20 c (omega arith),
  lt-ltb c 0x7F (omega arith),
) refl

digits_plain : (ds : List ℕ) → AllDigits 10 ds → list_all is_word_unit ds ≡ true
digits_plain [] h = refl
digits_plain (d ∷ ds) h =
    let low : 48 ≤ d = digit_above d h.0 in
    let high : d < 58 = digit_below d h.0 in
    rw (plain_unit d (omega arith) high) (digits_plain ds h.1)

filled : (ds : List ℕ) → 0 < length ds → not (is_empty ds) ≡ true
filled [] h = absurd (omega arith)
filled (d ∷ ds) h = refl

pub decimal_word : (n : ℕ) → n < 2 ^ 64 → is_word (decimal n) ≡ true
decimal_word n h = rw (filled (decimal n) (decimal_nonempty n h)) (digits_plain (decimal n) (decimal_is_IsNumeral n h).0.1)

pub number_word : (z : ℤ) → IsNumber z → is_word (signed_decimal z) ≡ true
number_word (pos n) h = decimal_word n (omega arith)
number_word (negsuc n) h = digits_plain (decimal (suc n)) (decimal_is_IsNumeral (suc n) (omega arith)).0.1

-- ---- words

-- an ASCII character that is no quote and no backslash
pub ascii_shown : (c : ℕ) → 0x20 ≤ c → c < 0x7F → (c == quote) ≡ false → (c == backslash) ≡ false → is_shown c ≡ true
ascii_shown c low high no_quote no_backslash = rw (
  no_quote,
  no_backslash,
  le-ltb c 0x20 low,
  lt-leb 0x7F c high,
  lt-leb 0xD800 c (omega arith),
  lt-leb 0x2028 c (omega arith),
  lt-leb 0x2066 c (omega arith),
  ne_eqb c 0xFEFF (λ e. omega arith),
) refl

word_shown : (c : ℕ) → is_word_unit c ≡ true → is_shown c ≡ true
word_shown c e =
    let others =
    not_true (is_white c || (c == quote) || (c == backslash) || is_punctuation c)
    (and_left (not (is_white c || (c == quote) || (c == backslash) || is_punctuation c)) (not (c == slash) && (nat_lt 0x20 c && nat_lt c 0x7F)) e) in
    let first = or_left (is_white c || (c == quote) || (c == backslash)) (is_punctuation c) others in
    let no_backslash : (c == backslash) ≡ false = or_right (is_white c || (c == quote)) (c == backslash) first in
    let no_quote : (c == quote) ≡ false = or_right (is_white c) (c == quote) (or_left (is_white c || (c == quote)) (c == backslash) first) in
    let high : c < 0x7F = word_low c e in
    let low : 0x20 < c =
    ltb-true 0x20 c (and_left (nat_lt 0x20 c) (nat_lt c 0x7F) (and_right (not (c == slash)) (nat_lt 0x20 c && nat_lt c 0x7F)
    (and_right (not (is_white c || (c == quote) || (c == backslash) || is_punctuation c)) (not (c == slash) && (nat_lt 0x20 c && nat_lt c 0x7F)) e))) in
    ascii_shown c (omega arith) high no_quote no_backslash

plain_chars : (us : List ℕ) → list_all is_word_unit us ≡ true → units_chars us false ≡ us
plain_chars [] e = refl
plain_chars (u ∷ us) e =
    shown_next u us false (word_shown u (and_left (is_word_unit u) (list_all is_word_unit us) e))
    ∙ ap (λ (cs : List ℕ). u ∷ cs) (plain_chars us (and_right (is_word_unit u) (list_all is_word_unit us) e))

pub word_chars : (us : List ℕ) → is_word us ≡ true → units_chars us false ≡ us
word_chars us e = plain_chars us (and_right (not (is_empty us)) (list_all is_word_unit us) e)

-- ---- names

name_low : (c : ℕ) → is_name_unit c ≡ true → 0x2D ≤ c
name_low c e = grind (arith, nat_tests)

name_high : (c : ℕ) → is_name_unit c ≡ true → c ≤ 0x7A
name_high c e = grind (arith, nat_tests)

-- a character that isn't one of a name
other : (c d : ℕ) → is_name_unit c ≡ true → is_name_unit d ≡ false → c ≡ d → ⊥
other c d e f same = let bad : is_name_unit d ≡ true = subst (λ (x : ℕ). is_name_unit x ≡ true) same e in let worse : true ≡ false = sym bad ∙ f in cc

name_word_unit : (c : ℕ) → is_name_unit c ≡ true → is_word_unit c ≡ true
name_word_unit c e =
    let low : 0x2D ≤ c = name_low c e in
    let high : c ≤ 0x7A = name_high c e in
    rw (
      ne_eqb c 0x09 (λ e. omega arith),
      ne_eqb c 0x0A (λ e. omega arith),
      ne_eqb c 0x0D (λ e. omega arith),
      ne_eqb c 0x20 (λ e. omega arith),
      ne_eqb c 0x2029 (λ e. omega arith),
      ne_eqb c 0xFEFF (λ e. omega arith),
      ne_eqb c 0x22 (λ e. omega arith),
      ne_eqb c 0x5C (other c 0x5C e refl),
      ne_eqb c 0x7B (λ e. omega arith),
      ne_eqb c 0x7D (λ e. omega arith),
      ne_eqb c 0x2C (λ e. omega arith),
      ne_eqb c 0x3A (other c 0x3A e refl),
      ne_eqb c 0x2F (other c 0x2F e refl),
      lt-ltb 0x20 c (omega arith),
      lt-ltb c 0x7F (omega arith),
    ) refl

names_plain : (us : List ℕ) → list_all is_name_unit us ≡ true → list_all is_word_unit us ≡ true
names_plain [] e = refl
names_plain (u ∷ us) e =
    rw (name_word_unit u (and_left (is_name_unit u) (list_all is_name_unit us) e)) (names_plain us (and_right (is_name_unit u) (list_all is_name_unit us) e))

names_ascii : (us : List ℕ) → list_all is_name_unit us ≡ true → list_all is_ascii us ≡ true
names_ascii [] e = refl
names_ascii (u ∷ us) e =
    let high : u ≤ 0x7A = name_high u (and_left (is_name_unit u) (list_all is_name_unit us) e) in
    rw (lt-ltb u 128 (omega arith)) (names_ascii us (and_right (is_name_unit u) (list_all is_name_unit us) e))

pub name_ascii : (us : List ℕ) → is_name us ≡ true → list_all is_ascii us ≡ true
name_ascii us e = names_ascii us (and_right (not (is_empty us)) (list_all is_name_unit us) e)

pub name_word : (us : List ℕ) → is_name us ≡ true → is_word us ≡ true
name_word us e =
    rw (and_left (not (is_empty us)) (list_all is_name_unit us) e) (names_plain us (and_right (not (is_empty us)) (list_all is_name_unit us) e))
