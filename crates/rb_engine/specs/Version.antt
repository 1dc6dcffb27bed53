-- Defines the version of an engine, which rises when a bundle changes, a rule of this project.
use Rattle.std.specs.Prelude.{◌+◌, ◌-◌, ◌^◌, ◌==◌, ◌&&◌, ℕ, Bool, min, nat_lt}

abbrev pub last_version : ℕ
last_version = 2 ^ 64 - 1

-- the version after a change; the last one stays
abbrev pub next_version : ℕ → ℕ
next_version version = min (version + 1) last_version

-- nothing has changed since a version was read; of the last one nobody can know
abbrev pub is_current : ℕ → ℕ → Bool
is_current read now = (read == now) && nat_lt now last_version
