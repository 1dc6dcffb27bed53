-- Defines the maximum length of a file, a rule of this project.
use Rattle.std.specs.Prelude.{ℕ}

-- in bytes
abbrev pub file_limit : ℕ
file_limit = 67108864
