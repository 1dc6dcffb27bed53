-- The least lengths of JSON texts.
use Rattle.std.proofs.Common.{◌≡◌, ◌≤◌, ◌+◌, ◌*◌, ◌/◌, ◌%◌, ◌==◌, ℕ, zero, suc, List, [], ◌∷◌, ◌++◌, Bool, true, false, cond, Some}
use Rattle.std.proofs.Common.{map, length, length-append, decimal, encode_utf8, encode_utf8_all, refl, arith}
use Rattle.std.specs.Prelude.{unwrap_or, ◌&&◌}
use Rattle.std.proofs.lemmas.Bool.Decides.{nat_tests}
use Rattle.std.specs.Char.{len_utf8, digit_char}
use Rattle.std.specs.Char.Utf16.{utf16_chars, utf16_lossy_chars, is_high_surrogate, is_low_surrogate, lone_unit_char, surrogate_pair_char}
use Rattle.std.specs.Fmt.{digits, digits_onto, digit_glyph}
use Rattle.std.specs.List.{sum_by}
use Rattle.std.proofs.lemmas.List.Sums.{sum_by-cons}
use Rattle.std.proofs.lemmas.Str.{length-encode, len_utf8_bounds, length-le-encodes}
use Rattle.json.specs.Print.{escape, escape_byte, escape_letter, quoted}
use Rattle.serde_json.specs.Data.{Data, array, number, string, unsigned, Members, member}
use Rattle.serde_json.specs.View.{items_of}
use Rattle.serde_json.specs.Written.{compact_text, items_text, members_text, comma_if}
use Rattle.rb_json.specs.Item.{units_data}

-- ---- strings
either_some : (a b : Bool) (x y c d : ℕ) → 1 ≤ length (cond a (92 ∷ y ∷ []) (cond b (92 ∷ 117 ∷ 48 ∷ 48 ∷ c ∷ d ∷ []) (x ∷ [])))
either_some true b x y c d = omega arith
either_some false true x y c d = omega arith
either_some false false x y c d = omega arith

escape_some : (x : ℕ) → 1 ≤ length (escape_byte x)
unfolding escape_byte
escape_some x = either_some _ _ x (escape_letter x) (digit_char (x / 16)) (digit_char (x % 16))

le-escape : (s : List ℕ) → length s ≤ length (escape s)
le-escape [] = omega arith
le-escape (x ∷ s) = omega (arith, length-append (escape_byte x) (escape s), escape_some x, le-escape s)

le-quoted : (s : List ℕ) → length s + 2 ≤ length (quoted s)
le-quoted s = omega (arith, length-append (escape s) (34 ∷ []), le-escape s)

-- ---- numbers
onto_some : (k n x : ℕ) (acc : List ℕ) → 1 ≤ length (digits_onto k 10 false n (x ∷ acc))
onto_some zero n x acc = omega arith
onto_some (suc k) n x acc =
    let d = digit_glyph false (n % 10) in
    elim (n / 10 == 0) as (λ b. 1 ≤ length (cond b (d ∷ x ∷ acc) (digits_onto k 10 false (n / 10) (d ∷ x ∷ acc)))) [
      | true ↦ omega arith
      | false ↦ onto_some k (n / 10) d (x ∷ acc)
    ]

decimal_some : (n : ℕ) → 1 ≤ length (decimal n)
unfolding digits
decimal_some n =
    let d = digit_glyph false (n % 10) in
    elim (n / 10 == 0) as (λ b. 1 ≤ length (cond b (d ∷ []) (digits_onto 63 10 false (n / 10) (d ∷ [])))) [
      | true ↦ omega arith
      | false ↦ onto_some 63 (n / 10) d []
    ]

-- ---- characters of UTF-16
two_or_more : (c : ℕ) → 128 ≤ c → 2 ≤ len_utf8 c
two_or_more c h = grind (arith, nat_tests)

unit_or_more : (us : List ℕ) → length us ≤ length (encode_utf8_all (utf16_lossy_chars us))
unfolding utf16_chars
unit_or_more [] = omega arith
unit_or_more (u ∷ []) = length-le-encodes (unwrap_or (lone_unit_char u) 0xFFFD ∷ [])
unit_or_more (u ∷ v ∷ us) =
    let c = surrogate_pair_char u v in
    let o = unwrap_or (lone_unit_char u) 0xFFFD in
    elim (is_high_surrogate u && is_low_surrogate v)
    as (λ b. suc (suc (length us)) ≤ length (encode_utf8_all (map (λ x. unwrap_or x 0xFFFD) (cond b (Some c ∷ utf16_chars us) (lone_unit_char u ∷ utf16_chars (v ∷ us)))))) [
      | true ↦ omega (arith, unit_or_more us, length-append (encode_utf8 c) (encode_utf8_all (utf16_lossy_chars us)), length-encode c, two_or_more c (omega arith))
      | false ↦ omega (arith, unit_or_more (v ∷ us), length-append (encode_utf8 o) (encode_utf8_all (utf16_lossy_chars (v ∷ us))), length-encode o, (len_utf8_bounds o).0)
    ]

-- ---- arrays: what each item has at least, with a comma or a bracket
module _ {A : Type 0} (f : A → Data) (least : A → ℕ) (each : (x : A) → least x ≤ length (compact_text (f x)) + 1) where
  more_items : (xs : List A) → sum_by least xs + 1 ≤ length (items_text true (items_of (map f xs)))
  more_items [] = omega arith
  more_items (x ∷ xs) =
      omega (arith, each x, more_items xs, sum_by-cons least x xs, length-append (compact_text (f x)) (items_text true (items_of (map f xs))))

  le-array : (xs : List A) → sum_by least xs ≤ length (compact_text (array (items_of (map f xs))))
  le-array [] = omega arith
  le-array (x ∷ xs) =
      omega (arith, each x, more_items xs, sum_by-cons least x xs, length-append (compact_text (f x)) (items_text true (items_of (map f xs))))

twice : {A : Type 0} (xs : List A) → sum_by (λ _. 2) xs ≡ 2 * length xs
twice [] = refl
twice {A} (x ∷ xs) = omega (arith, sum_by-cons (λ (_ : A). 2) x xs, twice xs)

pub le-units : (us : List ℕ) → length us ≤ length (compact_text (units_data us))
le-units us = omega (arith, twice us, le-array (λ u. number (unsigned u)) (λ _. 2) (λ u. omega (arith, decimal_some u)) us)

pub le-characters : (us : List ℕ) → length us ≤ length (compact_text (string (encode_utf8_all (utf16_lossy_chars us))))
le-characters us = omega (arith, unit_or_more us, le-quoted (encode_utf8_all (utf16_lossy_chars us)))

-- ---- objects
pub member-le : (later : Bool) (k : List ℕ) (d : Data) (ms : Members)
    → length (compact_text d) + length (members_text true ms) ≤ length (members_text later (member k d ms))
member-le later k d ms =
    let rest = compact_text d ++ members_text true ms in
    omega (arith, length-append (comma_if later) (quoted k ++ 58 ∷ rest), length-append (quoted k) (58 ∷ rest), length-append (compact_text d) (members_text true ms))
