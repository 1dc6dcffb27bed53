-- For private contracts and proofs only: a path, byte by byte.
use Rattle.std.specs.Prelude.{◌≡◌, ◌≤◌, ◌<◌, ◌+◌, ◌&&◌, ℕ, List, [], ◌∷◌, Bool, true, not, slice_index}
use Rattle.rb_tree.specs.Path.{is_plain, is_slash}

-- a byte may follow another one in a path
abbrev pub may_follow : ℕ → ℕ → Bool
may_follow before byte = is_plain byte && not (is_slash byte && is_slash before)

-- bytes may follow one another and the byte before them, and end a path
abbrev pub may_end : ℕ → List ℕ → Bool
may_end before [] = not (is_slash before)
may_end before (byte ∷ bytes) = may_follow before byte && may_end byte bytes

-- each byte from one up to another may be followed by the next one
abbrev pub AreFollowed : List ℕ → ℕ → ℕ → Type 0
AreFollowed path from past =
    (i : ℕ) → from ≤ i → i < past → may_follow (slice_index path i) (slice_index path (i + 1)) ≡ true
