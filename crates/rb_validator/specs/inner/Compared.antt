-- Defines the number of bytes that a comparison of two keys reads.
use Rattle.std.specs.Prelude.{ℕ, suc, ◌==◌, min, List, length}
use Rattle.std.specs.List.{common_prefix_len}

-- the common bytes, and the first that differs
abbrev pub examined : List ℕ → List ℕ → ℕ
examined a b = min (suc (common_prefix_len (λ x y. x == y) a b)) (min (length a) (length b))
