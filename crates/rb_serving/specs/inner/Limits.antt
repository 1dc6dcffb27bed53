-- Defines the limit on one run of `resb serve`, a rule of this project.
use Rattle.std.specs.Prelude.{ℕ}

-- the most lines that are served
abbrev pub most_lines : ℕ
most_lines = 1099511627776
