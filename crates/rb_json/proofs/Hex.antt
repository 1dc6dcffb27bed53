-- Hexadecimal digits, made byte by byte.
use Rattle.std.proofs.Common.{◌≡◌, ◌<◌, ◌/◌, ◌%◌, ℕ, zero, suc, List, [], ◌∷◌, ◌++◌, take, length, get_or}
use Rattle.std.proofs.Common.{drop, refl, ap, arith}
use Rattle.std.specs.List.{slice_index}
use Rattle.hex.specs.Hex.{encode_with}

abbrev pub digits_of : List ℕ → ℕ → List ℕ
digits_of t b = slice_index t (b / 16) ∷ slice_index t (b % 16) ∷ []

pub one_more : (t xs : List ℕ) (i : ℕ) → i < length xs → encode_with t (take (suc i) xs) ≡ encode_with t (take i xs) ++ digits_of t (get_or xs i 0)
unfolding encode_with
one_more t [] i h = absurd (omega arith)
one_more t (x ∷ xs) zero h = refl
one_more t (x ∷ xs) (suc i) h = ap (λ (ds : List ℕ). slice_index t (x / 16) ∷ slice_index t (x % 16) ∷ ds) (one_more t xs i (omega arith))

pub no_digits : (t xs : List ℕ) → [] ≡ encode_with t (take 0 xs)
unfolding encode_with
no_digits t xs = refl

-- the digits of the first bytes, and those of the others
pub digits_cut : (t xs : List ℕ) (i : ℕ) → encode_with t (take i xs) ++ encode_with t (drop i xs) ≡ encode_with t xs
unfolding encode_with
digits_cut t xs zero = refl
digits_cut t [] (suc i) = refl
digits_cut t (x ∷ xs) (suc i) = ap (λ (ds : List ℕ). slice_index t (x / 16) ∷ slice_index t (x % 16) ∷ ds) (digits_cut t xs i)
