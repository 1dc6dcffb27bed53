-- Defines the limit of a bundle text (a rule of this project).
use Rattle.std.specs.Prelude.{ℕ}

-- the maximum length of a source, in bytes
abbrev pub source_limit : ℕ
source_limit = 8388608
