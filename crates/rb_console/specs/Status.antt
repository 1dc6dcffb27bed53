-- The statuses that commands share, this project's own rule: 0 on success; 1 if a text, a file or a path is refused, or
-- memory runs out; 2 if an argument names no bundle, a file can't be read, standard output can't be written, or there is
-- no random state. Not said here: serving that ends early is 1, whatever the cause, and a file that can't be written
-- is 2.
use Rattle.std.specs.Prelude.{ℕ, ◌==◌, if◌then◌else◌, Result, Ok, Err}
use Rattle.std.specs.declared.io.ErrorKind.{ErrorKind}
use Rattle.std.specs.declared.io.ErrorKind.TheVariants.{OutOfMemory}
use Rattle.rb_console.specs.declared.error.StartError.{StartError}
use Rattle.rb_console.specs.declared.error.StartError.TheVariants.{Refused}
use Rattle.rb_console.specs.declared.error.StartError.TheVariants.{Memory}

-- a command that doesn't start
abbrev pub start_status : StartError → ℕ
start_status (Refused file word) = 1
start_status Memory = 1
start_status other = 2

-- a file that can't be read
abbrev pub unread_status : ErrorKind → ℕ
unread_status OutOfMemory = 1
unread_status _ = 2

-- a file or a path that is refused
abbrev pub refused_status : ℕ
refused_status = 1

-- a command whose output was written, or not
abbrev pub printed_status : {T E : Type 0} → Result T E → ℕ
printed_status (Ok done) = 0
printed_status (Err error) = 2

-- the status of files after one more: that of the file, unless it is 0
abbrev pub later_status : ℕ → ℕ → ℕ
later_status before one = if one == 0 then before else one
