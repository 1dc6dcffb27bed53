-- A few decimal digits are a number in range.
use Rattle.std.proofs.Common.{◌≡◌, ℕ, suc, subst, ◌<◌, ◌≤◌, ◌^◌, List, [], ◌∷◌, ◌++◌, length, get_or, true, false, is_some, ltb, refl, sym, ap, ◌∙◌, arith}
use Rattle.std.specs.Prelude.{◌==◌, All}
use Rattle.std.specs.Char.{IsAsciiDigit}
use Rattle.std.specs.Str.Parse.{AllDigits, digits_value}
use Rattle.std.proofs.lemmas.Bool.{lt-ltb}
use Rattle.std.proofs.lemmas.Bool.Decides.{nat_tests}
use Rattle.std.proofs.lemmas.List.{append-nil}
use Rattle.std.proofs.lemmas.Float.Parse.{scan_numeral-text_of}
use Rattle.std.proofs.lemmas.Int.Digits.{digits_value-lt}
use Rattle.std.proofs.lemmas.Str.Parse.{digit_at, tells_digits}
use Rattle.std.proofs.Math.Nat.{pow-le-pow_right}
use Rattle.fast_float.specs.Text.{Parts, scan, text_of, IsWellFormed}
use Rattle.serde_json.specs.Read.{number_of}

all_digits : (s : List ℕ) → All IsAsciiDigit s → AllDigits 10 s
all_digits [] d = tells_digits.empty
all_digits (c ∷ cs) d = tells_digits.more c cs (d 0 0 (omega arith)) (all_digits cs (λ k x h. d (suc k) x (omega arith)))

-- what is read of digits
abbrev parts_of : List ℕ → Parts
parts_of s = record { whole = s; point = false; fraction = []; exponent_negative = false; exponent = []; len = length s }

written : (s : List ℕ) → text_of (parts_of s) ≡ s
written s = append-nil s

read : (s : List ℕ) → AllDigits 10 s → scan s ≡ parts_of s
read s digits =
    let well : IsWellFormed (parts_of s) = record {
      whole_digits = digits;
      fraction_digits = tt;
      exponent_digits = tt;
      no_point = λ e. refl;
      no_exponent = λ e. refl;
      len_is = ap length (sym (written s));
    } in
    ap scan (sym (written s)) ∙ scan_numeral-text_of (parts_of s) well

fits : (s : List ℕ) → AllDigits 10 s → length s ≤ 19 → digits_value 10 (s ++ []) < 2 ^ 64
fits s digits few =
    let low = digits_value-lt 10 s digits in
    let most : 10 ^ length s ≤ 10 ^ 19 = pow-le-pow_right (omega arith) few in
    let short : digits_value 10 s < 2 ^ 64 = omega arith in
    subst (λ (x : List ℕ). digits_value 10 x < 2 ^ 64) (sym (append-nil s)) short

pub short_integer : (s : List ℕ) → All IsAsciiDigit s → 0 < length s → length s ≤ 19 → is_some (number_of s) ≡ true
unfolding number_of
short_integer s plain some few =
    let digits = all_digits s plain in
    let first = digit_at s 0 digits some in
    let unsigned : (get_or s 0 0 == 45) ≡ false = grind (arith, nat_tests, first) in
    let long : ltb 0 (length s) ≡ true = lt-ltb 0 (length s) some in
    let low : ltb (digits_value 10 (s ++ [])) (2 ^ 64) ≡ true = lt-ltb _ (2 ^ 64) (fits s digits few) in
    rw (unsigned, read s digits, long, low) refl
