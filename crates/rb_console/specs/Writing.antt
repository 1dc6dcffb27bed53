-- Defines how a file is written that is no bundle text, no text that the command reads, and not standard output: this
-- project's own rule. A foreign file is one with bytes that aren't a bundle's.
use Rattle.std.specs.Prelude.{Bool, true, false, if◌then◌else◌}
use Rattle.rb_console.specs.declared.output.Decision.{Decision}
use Rattle.rb_console.specs.declared.output.Decision.TheVariants.{Refuse, RefuseForeign, WriteThrough, Create, Replace}
use Rattle.rb_console.specs.declared.output.FileKind.{FileKind}
use Rattle.rb_console.specs.declared.output.FileKind.TheVariants.{Missing, Ordinary, Device, Other}

abbrev pub plain_decision : Bool → FileKind → Decision
plain_decision is_foreign Missing = Create
plain_decision is_foreign Ordinary = if is_foreign then RefuseForeign else Replace
plain_decision is_foreign Device = WriteThrough
plain_decision is_foreign Other = Refuse

-- the decisions by which a file is written, and not refused or printed
abbrev pub is_written : Decision → Bool
is_written WriteThrough = true
is_written Create = true
is_written Replace = true
is_written other = false
