-- An error's status isn't 0.
use Rattle.std.proofs.Common.{◌≡◌, ◌≢◌, ◌∙◌, ℕ, sym, arith}
use Rattle.std.specs.declared.io.ErrorKind.{ErrorKind}
use Rattle.std.specs.declared.io.ErrorKind.TheVariants.{OutOfMemory}
use Rattle.rb_console.specs.Status.{start_status, unread_status}
use Rattle.rb_console.specs.declared.error.StartError.{StartError}
use Rattle.rb_console.specs.declared.error.StartError.TheVariants.{BadArgument, Unreadable, NoRandomState}
use Rattle.rb_console.specs.declared.error.StartError.TheVariants.{Refused as StartRefused, Memory}
use Rattle.rb_console.specs.declared.error.CommandError.{CommandError}
use Rattle.rb_console.specs.declared.error.CommandError.TheVariants.{NotStarted, Refused, TextRefused, Unread}
use Rattle.rb_console.specs.declared.error.CommandError.TheVariants.{Unwritten, BadOutput}
use Rattle.rb_console.specs.Errors.{command_status}

not_started : (e : StartError) → start_status e ≢ 0
not_started (BadArgument argument) = λ h. absurd (omega (arith, h))
not_started (Unreadable file kind) = λ h. absurd (omega (arith, h))
not_started (StartRefused file word) = λ h. absurd (omega (arith, h))
not_started NoRandomState = λ h. absurd (omega (arith, h))
not_started Memory = λ h. absurd (omega (arith, h))

not_read : (kind : ErrorKind) → unread_status kind ≢ 0
not_read OutOfMemory = λ h. absurd (omega (arith, h))
not_read _ = λ h. absurd (omega (arith, h))

failing : (e : CommandError) → command_status e ≢ 0
failing (NotStarted error) = not_started error
failing (Refused place word) = λ h. absurd (omega (arith, h))
failing (TextRefused file fault) = λ h. absurd (omega (arith, h))
failing (Unread file line kind) = not_read kind
failing (Unwritten file kind) = λ h. absurd (omega (arith, h))
failing (BadOutput reason file) = λ h. absurd (omega (arith, h))

pub fails : (e : CommandError) (status : ℕ) → status ≡ command_status e → status ≢ 0
fails e status is = λ h. failing e (sym is ∙ h)
