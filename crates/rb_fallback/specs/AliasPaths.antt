-- For proofs only: the segments of an alias's text, and its path with the rest of the path that led to it.
use Rattle.std.specs.Prelude.{◌+◌, ℕ, List, [], ◌∷◌, ◌++◌, length, drop, cond, Bool, nat_lt}
use Rattle.std.specs.List.{slice_split, list_all, position_or_len}
use Rattle.rb_tree.specs.Path.{is_slash}

-- where the segment ends that begins at an index
abbrev pub segment_end : List ℕ → ℕ → ℕ
segment_end us from = from + position_or_len is_slash (drop from us)

-- the segments from an index on
abbrev pub segments_from : List ℕ → ℕ → List (List ℕ)
segments_from us from = slice_split is_slash (drop from us)

-- the segments after one that ends at an index
abbrev pub segments_after : List ℕ → ℕ → List (List ℕ)
segments_after us past = cond (nat_lt past (length us)) (segments_from us (past + 1)) []

-- no segment is empty
abbrev pub are_filled : List (List ℕ) → Bool
are_filled ss = list_all (λ p. nat_lt 0 (length p)) ss

-- the path of an alias, and after a slash what is left of the path that led to it
abbrev pub joined_path : List ℕ → List ℕ → List ℕ
joined_path path [] = path
joined_path path (b ∷ rest) = path ++ 47 ∷ b ∷ rest
