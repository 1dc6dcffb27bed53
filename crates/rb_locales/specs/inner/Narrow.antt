-- Defines the conversion of units to bytes, for proofs only.
use Rattle.std.specs.Prelude.{ℕ, if◌then◌else◌, nat_lt}

-- the unit if it is below 128, else 0, which no name has
abbrev pub narrow : ℕ → ℕ
narrow u = if nat_lt u 128 then u else 0
