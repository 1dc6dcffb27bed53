-- Defines the attributes of a bundle: the sixth index (`uresdata.h`, URES_INDEX_ATTRIBUTES and the URES_ATT bits).
-- Files of version 1.1 have none, whatever their sixth index is; this is a rule of this project.
use Rattle.std.specs.Prelude.{Bool, ℕ, ◌/◌, ◌%◌, ◌^◌, ◌==◌, ◌&&◌, ◌||◌, nat_le, if◌then◌else◌, List}
use Rattle.rb_format.specs.Place.{word_at}

-- the sixth index, if the minor version is at least 2 and there are at least 6 indexes (word 1)
abbrev pub attributes_of : ℕ → List ℕ → ℕ
attributes_of minor body = if nat_le 2 minor && nat_le 6 (word_at body 1) then word_at body 6 else 0

abbrev pub bit : ℕ → ℕ → Bool
bit i bits = bits / 2 ^ i % 2 == 1

-- a lookup stops at the bundle
abbrev pub no_fallback : ℕ → Bool
no_fallback bits = bit 0 bits

-- a pool bundle, or a bundle that uses the keys of one
abbrev pub has_pool : ℕ → Bool
has_pool bits = bit 1 bits || bit 2 bits
