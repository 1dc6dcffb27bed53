-- Proves that the tests of the reading function decide the conditions.
use Rattle.std.proofs.Common.{◌≡◌, ℕ, suc, ◌&&◌, ◌^◌, Bool, true, false, not, nat_lt, nat_le, List, [], ◌∷◌, length, All, refl, sym, ap}
use Rattle.std.proofs.Common.{◌∙◌, arith}
use Rattle.std.specs.List.{filter, list_all}
use Rattle.std.specs.Char.{digit_value}
use Rattle.std.specs.Str.Parse.{AllDigits}
use Rattle.std.proofs.lemmas.Bool.{false≢true, ltb-true, lt-ltb, leb-true, le-leb, and_parts}
use Rattle.std.proofs.lemmas.List.Elements.{All-cons}
use Rattle.rb_tree.specs.Keys.{IsKey, IsPlain}
use Rattle.rb_tree.specs.Path.{is_plain}
use Rattle.rb_grammar.specs.Numeral.{Numeral, hexadecimal, octal, decimal, BeginsAbove0, IsNumeral, numeral_value, is_minus, Writes, IsIntSize, int_kept}
use Rattle.rb_grammar.specs.Numeral.{IsIntText, IsElementSize, element_kept, IsElementText, is_gap, pairs_digits, pairs_bytes, ArePairs, IsHexText}
use Rattle.rb_grammar.specs.Shape.{sign_of}
use Rattle.rb_grammar.specs.Tests.{IsTestOf, AreTests, is_key, are_digits, begins_above_0, is_numeral, is_int_size, is_element_size, numeral_of, is_number}
use Rattle.rb_grammar.specs.Tests.{are_pairs, is_hex, the_tests}
use Rattle.rb_grammar.proofs.Numbers.{shaped, written}

both : (a b : Bool) → a ≡ true → b ≡ true → (a && b) ≡ true
both a b p q = rw (p, q) refl

-- ---- keys

plain_passes : (k : List ℕ) → list_all is_plain k ≡ true → All IsPlain k
plain_passes [] e = λ i d h. absurd (omega arith)
plain_passes (u ∷ us) e =
    let p = and_parts (is_plain u) (list_all is_plain us) e in
    let q = and_parts (nat_le 32 u) (nat_le u 126) p.0 in
    All-cons IsPlain u us (leb-true 32 u q.0, leb-true u 126 q.1) (plain_passes us p.1)

plain_tests : (k : List ℕ) → All IsPlain k → list_all is_plain k ≡ true
plain_tests [] all = refl
plain_tests (u ∷ us) all =
    let h : IsPlain u = all 0 0 (omega arith) in
    both (is_plain u) (list_all is_plain us) (both (nat_le 32 u) (nat_le u 126) (le-leb 32 u h.0) (le-leb u 126 h.1))
    (plain_tests us (λ i d h. all (suc i) d (omega arith)))

key_passes : (k : List ℕ) → is_key k ≡ true → IsKey k
key_passes k e = let p = and_parts (nat_lt 0 (length k)) (list_all is_plain k) e in (ltb-true 0 (length k) p.0, plain_passes k p.1)

key_tests : (k : List ℕ) → IsKey k → is_key k ≡ true
key_tests k h = both (nat_lt 0 (length k)) (list_all is_plain k) (lt-ltb 0 (length k) h.0) (plain_tests k h.1)

-- ---- numbers

digits_pass : (radix : ℕ) (ds : List ℕ) → are_digits radix ds ≡ true → AllDigits radix ds
digits_pass radix [] e = tt
digits_pass radix (d ∷ ds) e = let p = and_parts (nat_lt (digit_value d) radix) (are_digits radix ds) e in
    (ltb-true (digit_value d) radix p.0, digits_pass radix ds p.1)

digits_test : (radix : ℕ) (ds : List ℕ) → AllDigits radix ds → are_digits radix ds ≡ true
digits_test radix [] all = refl
digits_test radix (d ∷ ds) all = both (nat_lt (digit_value d) radix) (are_digits radix ds) (lt-ltb (digit_value d) radix all.0) (digits_test radix ds all.1)

above_passes : (ds : List ℕ) → begins_above_0 ds ≡ true → BeginsAbove0 ds
above_passes [] e = absurd (false≢true e)
above_passes (d ∷ ds) e = ltb-true 0 (digit_value d) e

above_tests : (ds : List ℕ) → BeginsAbove0 ds → begins_above_0 ds ≡ true
above_tests [] h = absurd h
above_tests (d ∷ ds) h = lt-ltb 0 (digit_value d) h

numeral_passes : (n : Numeral) → is_numeral n ≡ true → IsNumeral n
numeral_passes (hexadecimal upper ds) e = let p = and_parts (nat_lt 0 (length ds)) (are_digits 16 ds) e in (ltb-true 0 (length ds) p.0, digits_pass 16 ds p.1)
numeral_passes (octal ds) e = digits_pass 8 ds e
numeral_passes (decimal ds) e = let p = and_parts (begins_above_0 ds) (are_digits 10 ds) e in (above_passes ds p.0, digits_pass 10 ds p.1)

numeral_tests : (n : Numeral) → IsNumeral n → is_numeral n ≡ true
numeral_tests (hexadecimal upper ds) h = both (nat_lt 0 (length ds)) (are_digits 16 ds) (lt-ltb 0 (length ds) h.0) (digits_test 16 ds h.1)
numeral_tests (octal ds) h = digits_test 8 ds h
numeral_tests (decimal ds) h = both (begins_above_0 ds) (are_digits 10 ds) (above_tests ds h.0) (digits_test 10 ds h.1)

int_size_passes : (negative : Bool) (size : ℕ) → is_int_size negative size ≡ true → IsIntSize negative size
int_size_passes false size e = ltb-true size (2 ^ 28) e
int_size_passes true size e = leb-true size (2 ^ 27) e

int_size_tests : (negative : Bool) (size : ℕ) → IsIntSize negative size → is_int_size negative size ≡ true
int_size_tests false size h = lt-ltb size (2 ^ 28) h
int_size_tests true size h = le-leb size (2 ^ 27) h

element_size_passes : (negative : Bool) (size : ℕ) → is_element_size negative size ≡ true → IsElementSize negative size
element_size_passes false size e = ltb-true size (2 ^ 32) e
element_size_passes true size e = leb-true size (2 ^ 31) e

element_size_tests : (negative : Bool) (size : ℕ) → IsElementSize negative size → is_element_size negative size ≡ true
element_size_tests false size h = lt-ltb size (2 ^ 32) h
element_size_tests true size h = le-leb size (2 ^ 31) h

number_passes : (fits : Bool → ℕ → Bool) (us : List ℕ) → is_number fits us ≡ true
    → Writes us (is_minus (sign_of us)) (numeral_value (numeral_of us)) × (fits (is_minus (sign_of us)) (numeral_value (numeral_of us)) ≡ true)
number_passes fits us e =
    let p = and_parts (is_numeral (numeral_of us)) (fits (is_minus (sign_of us)) (numeral_value (numeral_of us))) e in
    (written us (numeral_passes (numeral_of us) p.0), p.1)

number_tests : (fits : Bool → ℕ → Bool) (us : List ℕ) (negative : Bool) (size : ℕ) → Writes us negative size → fits negative size ≡ true
    → is_number fits us ≡ true
number_tests fits us negative size w e =
    let s = shaped us negative size w in
    both (is_numeral (numeral_of us)) (fits (is_minus (sign_of us)) (numeral_value (numeral_of us))) (numeral_tests (numeral_of us) s.good)
    (ap (λ n. fits n (numeral_value (numeral_of us))) (sym s.negative_is) ∙ ap (fits negative) (sym s.size_is) ∙ e)

int_is_test : IsTestOf (is_number is_int_size) IsIntText
int_is_test = (
  λ s e.
      let p = number_passes is_int_size s e in (
        int_kept (is_minus (sign_of s)) (numeral_value (numeral_of s)),
        (is_minus (sign_of s), numeral_value (numeral_of s), p.0, int_size_passes (is_minus (sign_of s)) (numeral_value (numeral_of s)) p.1, refl),
      ),
  λ s e n h. false≢true (sym e ∙ number_tests is_int_size s h.0 h.1 h.2 (int_size_tests h.0 h.1 h.3)),
)

element_is_test : IsTestOf (is_number is_element_size) IsElementText
element_is_test = (
  λ s e.
      let p = number_passes is_element_size s e in (
        element_kept (is_minus (sign_of s)) (numeral_value (numeral_of s)),
        (is_minus (sign_of s), numeral_value (numeral_of s), p.0, element_size_passes (is_minus (sign_of s)) (numeral_value (numeral_of s)) p.1, refl),
      ),
  λ s e z h. false≢true (sym e ∙ number_tests is_element_size s h.0 h.1 h.2 (element_size_tests h.0 h.1 h.3)),
)

-- ---- bytes

pairs_pass : (ds : List ℕ) → are_pairs ds ≡ true → (ps : List (ℕ × ℕ)) × ArePairs ps × (ds ≡ pairs_digits ps)
pairs_pass [] e = ([], tt, refl)
pairs_pass (d ∷ []) e = absurd (false≢true e)
pairs_pass (d ∷ f ∷ ds) e =
    let p = and_parts (nat_lt (digit_value d) 16) (nat_lt (digit_value f) 16 && are_pairs ds) e in
    let q = and_parts (nat_lt (digit_value f) 16) (are_pairs ds) p.1 in
    let r = pairs_pass ds q.1 in
    ((d, f) ∷ r.0, (ltb-true (digit_value d) 16 p.0, ltb-true (digit_value f) 16 q.0, r.1), ap (λ xs. d ∷ f ∷ xs) r.2)

pairs_test : (ps : List (ℕ × ℕ)) → ArePairs ps → are_pairs (pairs_digits ps) ≡ true
pairs_test [] good = refl
pairs_test (p ∷ ps) good =
    both (nat_lt (digit_value p.0) 16) (nat_lt (digit_value p.1) 16 && are_pairs (pairs_digits ps)) (lt-ltb (digit_value p.0) 16 good.0)
    (both (nat_lt (digit_value p.1) 16) (are_pairs (pairs_digits ps)) (lt-ltb (digit_value p.1) 16 good.1) (pairs_test ps good.2))

bytes_is_test : IsTestOf is_hex IsHexText
bytes_is_test = (
  λ s e. let p = pairs_pass (filter (λ u. not (is_gap u)) s) e in (pairs_bytes p.0, (p.0, p.1, p.2, refl)),
  λ s e bytes h. false≢true (sym e ∙ ap are_pairs h.2 ∙ pairs_test h.0 h.1),
)

-- The one set of tests.
pub are_tests : AreTests the_tests
unfolding the_tests
are_tests = record {
  keys = (λ k e. key_passes k e, λ k e h. false≢true (sym e ∙ key_tests k h));
  ints = int_is_test;
  elements = element_is_test;
  bytes = bytes_is_test;
}

-- ---- what a value, or none, says of its test

pub means_passes : {A : Type 0} (test : List ℕ → Bool) (means : List ℕ → A → Type 0) (s : List ℕ) (x : A) → IsTestOf test means → means s x → test s ≡ true
means_passes test means s x is_test h = by (test s) refl where
  by : (b : Bool) → test s ≡ b → test s ≡ true
  by true e = e
  by false e = absurd (is_test.1 s e x h)

pub none_fails : {A : Type 0} (test : List ℕ → Bool) (means : List ℕ → A → Type 0) (s : List ℕ) → IsTestOf test means → ((x : A) → means s x → ⊥)
    → test s ≡ false
none_fails test means s is_test h = by (test s) refl where
  by : (b : Bool) → test s ≡ b → test s ≡ false
  by true e = let w = is_test.0 s e in absurd (h w.0 w.1)
  by false e = e
