-- Defines the limits of a bundle's tree (rules of this project).
use Rattle.std.specs.Prelude.{ℕ}

-- the maximum height, in levels
abbrev pub height_limit : ℕ
height_limit = 64

-- the maximum weight, in bytes
abbrev pub weight_limit : ℕ
weight_limit = 33554432
