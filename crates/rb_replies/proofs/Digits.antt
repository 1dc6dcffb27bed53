-- The digits of bytes, span by span, and the length of their line.
use Rattle.std.proofs.Common.{◌≡◌, ℕ, List, [], ◌∷◌, ◌++◌, ◌+◌, ◌*◌, ◌/◌, ◌%◌, length, length-append, refl, ap, arith}
use Rattle.std.specs.List.{slice_index}
use Rattle.hex.specs.Hex.{encode_lower, encode_with, lower_digits}
use Rattle.hex.proofs.HexLemmas.{length-encode_with}
use Rattle.rb_replies.specs.Extended.{file_line}

pub digits_joined : (t xs ys : List ℕ) → encode_with t xs ++ encode_with t ys ≡ encode_with t (xs ++ ys)
unfolding encode_with
digits_joined t [] ys = refl
digits_joined t (x ∷ xs) ys = ap (λ (zs : List ℕ). slice_index t (x / 16) ∷ slice_index t (x % 16) ∷ zs) (digits_joined t xs ys)

pub line_len : (file : List ℕ) → length (file_line file) ≡ 12 + 2 * length file
line_len file =
    let digits : length (encode_lower file) ≡ 2 * length file = length-encode_with lower_digits file in
    let all = length-append (encode_lower file) (34 ∷ 125 ∷ 10 ∷ []) in
    omega (arith, digits, all)
