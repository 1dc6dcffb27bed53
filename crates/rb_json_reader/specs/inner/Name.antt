-- Defines which members' names are tags: those that begin with exactly one colon (58).
use Rattle.std.specs.Prelude.{ℕ, List, [], ◌∷◌, ◌==◌, ◌&&◌, Bool, false, not}

abbrev pub is_tag : List ℕ → Bool
is_tag [] = false
is_tag (b ∷ []) = b == 58
is_tag (b ∷ c ∷ bs) = (b == 58) && not (c == 58)
