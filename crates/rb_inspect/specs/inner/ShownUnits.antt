-- Defines how a trace shows a unit of an alias's text.
use Rattle.std.specs.Prelude.{ℕ, if◌then◌else◌}
use Rattle.rb_fallback.specs.Alias.{is_plain}

-- a unit that isn't printable ASCII is `?`
abbrev pub shown_unit : ℕ → ℕ
shown_unit u = if is_plain u then u else 63
