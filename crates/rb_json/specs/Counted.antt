-- Defines the number of bytes that a text may still have, as its bytes are counted.
use Rattle.std.specs.Prelude.{◌≡◌, ◌+◌, ◌<◌, ℕ, List, [], ◌++◌, length, Option, Some, None}
use Rattle.std.proofs.Common.{length-append, arith}

-- the room sufficed for these bytes, and `left` remains; or it was too small, before or now
abbrev pub IsRoomAfter : (old new : Option ℕ) → List ℕ → Type 0
IsRoomAfter None None bytes = Unit {0}
IsRoomAfter None (Some left) bytes = ⊥
IsRoomAfter (Some room) None bytes = room < length bytes
IsRoomAfter (Some room) (Some left) bytes = room ≡ left + length bytes

pub room_nothing : (o : Option ℕ) → IsRoomAfter o o []
room_nothing None = tt
room_nothing (Some room) = omega arith

pub room_joined : (x y z : Option ℕ) (a b : List ℕ) → IsRoomAfter x y a → IsRoomAfter y z b → IsRoomAfter x z (a ++ b)
room_joined None None None a b h k = tt
room_joined None None (Some l) a b h k = k
room_joined None (Some m) z a b h k = absurd h
room_joined (Some r) None None a b h k = omega (arith, h, length-append a b)
room_joined (Some r) None (Some l) a b h k = absurd k
room_joined (Some r) (Some m) None a b h k = omega (arith, h, k, length-append a b)
room_joined (Some r) (Some m) (Some l) a b h k = omega (arith, h, k, length-append a b)
