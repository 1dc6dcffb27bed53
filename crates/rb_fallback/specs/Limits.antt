-- Defines the limits of a lookup, rules of this project.
use Rattle.std.specs.Prelude.{ℕ}

-- the greatest length of a path, in bytes
abbrev pub path_limit : ℕ
path_limit = 1024

-- the greatest number of a lookup's levels
abbrev pub level_limit : ℕ
level_limit = 256
