-- Defines numbers as bytes of a file, low byte first, and padding (`uresdata.h`). That padding is 0xAA and that an
-- empty list has no data are rules of this project.
use Rattle.std.specs.Prelude.{ℕ, ◌-◌, ◌/◌, ◌%◌, List, [], ◌∷◌, ◌++◌, length, flat_map, replicate}
use Rattle.byteorder.specs.Endian.{little_bytes}

abbrev pub words : List ℕ → List ℕ
words ns = flat_map (λ n. little_bytes 4 n) ns

abbrev pub halves : List ℕ → List ℕ
halves ns = flat_map (λ n. little_bytes 2 n) ns

-- bytes, padded with 0xAA to a multiple of four
abbrev pub padded : List ℕ → List ℕ
padded bytes = bytes ++ replicate ((4 - length bytes % 4) % 4) 0xAA

-- nothing for an empty list, which has no data
abbrev pub if_any : {A : Type 0} → List A → List ℕ → List ℕ
if_any [] bytes = []
if_any (x ∷ xs) bytes = bytes

-- the offset in words, which is 0 for an empty list
abbrev pub place_of : {A : Type 0} → ℕ → List A → ℕ
place_of n [] = 0
place_of n (x ∷ xs) = n / 4
