-- Defines the status of a command that ends with an error, as specs/Status does.
use Rattle.std.specs.Prelude.{ℕ}
use Rattle.rb_console.specs.Status.{start_status, refused_status, unread_status}
use Rattle.rb_console.specs.declared.error.CommandError.{CommandError}
use Rattle.rb_console.specs.declared.error.CommandError.TheVariants.{NotStarted, Refused, TextRefused, Unread}

-- a file that can't be written, or must not be, is 2
abbrev pub command_status : CommandError → ℕ
command_status (NotStarted error) = start_status error
command_status (Refused place word) = refused_status
command_status (TextRefused file fault) = refused_status
command_status (Unread file line kind) = unread_status kind
command_status other = 2
