-- For proofs and private contracts: defines the tests of keys, numbers and bytes that reading uses, and says that they
-- decide the conditions.
use Rattle.std.specs.Prelude.{◌≡◌, ◌&&◌, ◌^◌, ℕ, Bool, true, false, List, [], ◌∷◌, length, filter, not, nat_lt, nat_le}
use Rattle.std.specs.List.{list_all}
use Rattle.std.specs.Char.{digit_value}
use Rattle.rb_tree.specs.Keys.{IsKey}
use Rattle.rb_tree.specs.Path.{is_plain}
use Rattle.rb_grammar.specs.Numeral.{Numeral, hexadecimal, octal, decimal, numeral_value, is_minus, is_gap, IsIntText}
use Rattle.rb_grammar.specs.Numeral.{IsElementText, IsHexText}
use Rattle.rb_grammar.specs.Reading.{Tests}
use Rattle.rb_grammar.specs.Shape.{shape, sign_of, unsigned_of}

-- the test passes exactly if there is a value
abbrev pub IsTestOf : {A : Type 0} → (List ℕ → Bool) → (List ℕ → A → Type 0) → Type 0
IsTestOf {A} test means = ((s : List ℕ) → test s ≡ true → (x : A) × means s x)
    × ((s : List ℕ) → test s ≡ false → (x : A) → means s x → ⊥)

pub record AreTests (tests : Tests) : Type 0 where
  pub keys : ((k : List ℕ) → tests.is_key k ≡ true → IsKey k) × ((k : List ℕ) → tests.is_key k ≡ false → IsKey k → ⊥)
  pub ints : IsTestOf tests.is_int IsIntText
  pub elements : IsTestOf tests.is_element IsElementText
  pub bytes : IsTestOf tests.is_hex IsHexText

-- ---- the tests

abbrev pub is_key : List ℕ → Bool
is_key k = nat_lt 0 (length k) && list_all is_plain k

abbrev pub are_digits : ℕ → List ℕ → Bool
are_digits radix [] = true
are_digits radix (d ∷ ds) = nat_lt (digit_value d) radix && are_digits radix ds

abbrev pub begins_above_0 : List ℕ → Bool
begins_above_0 [] = false
begins_above_0 (d ∷ ds) = nat_lt 0 (digit_value d)

abbrev pub is_numeral : Numeral → Bool
is_numeral (hexadecimal upper ds) = nat_lt 0 (length ds) && are_digits 16 ds
is_numeral (octal ds) = are_digits 8 ds
is_numeral (decimal ds) = begins_above_0 ds && are_digits 10 ds

abbrev pub is_int_size : Bool → ℕ → Bool
is_int_size false size = nat_lt size (2 ^ 28)
is_int_size true size = nat_le size (2 ^ 27)

abbrev pub is_element_size : Bool → ℕ → Bool
is_element_size false size = nat_lt size (2 ^ 32)
is_element_size true size = nat_le size (2 ^ 31)

-- the numeral after an optional sign
abbrev pub numeral_of : List ℕ → Numeral
numeral_of us = shape (unsigned_of us)

abbrev pub is_number : (Bool → ℕ → Bool) → List ℕ → Bool
is_number fits us = is_numeral (numeral_of us) && fits (is_minus (sign_of us)) (numeral_value (numeral_of us))

abbrev pub are_pairs : List ℕ → Bool
are_pairs [] = true
are_pairs (d ∷ []) = false
are_pairs (d ∷ e ∷ ds) = nat_lt (digit_value d) 16 && (nat_lt (digit_value e) 16 && are_pairs ds)

abbrev pub is_hex : List ℕ → Bool
is_hex us = are_pairs (filter (λ u. not (is_gap u)) us)

unfoldable pub the_tests : Tests
the_tests = record { is_key = is_key; is_int = is_number is_int_size; is_element = is_number is_element_size; is_hex = is_hex }
