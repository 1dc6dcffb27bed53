-- Defines the codes of errors: each is its variant's name.
use Rattle.std.specs.Prelude.{ℕ, List, codes}
use Rattle.rb_requests.specs.declared.limits.Refusal.{Refusal}
use Rattle.rb_requests.specs.declared.limits.Refusal.TheVariants.{BundleTooLong, OverQuota, TooManyApps, TooManySteps}
use Rattle.rb_requests.specs.declared.lines.ServeFault.{ServeFault}
use Rattle.rb_requests.specs.declared.lines.ServeFault.TheVariants as serve
use Rattle.rb_requests.specs.declared.words.LineError.{LineError}
use Rattle.rb_requests.specs.declared.words.LineError.TheVariants as line

-- the code of an error that ends serving
abbrev pub serve_word : ServeFault → List ℕ
serve_word serve.Read = codes "Read"
serve_word serve.Write = codes "Write"
serve_word serve.LineLimit = codes "LineLimit"
serve_word serve.LineTooLong = codes "LineTooLong"
serve_word serve.Memory = codes "Memory"

-- the code of an error that a line is answered with
abbrev pub line_error_word : LineError → List ℕ
line_error_word line.BadLine = codes "BadLine"
line_error_word line.LineTooLong = codes "LineTooLong"
line_error_word line.ReplyTooLong = codes "ReplyTooLong"
line_error_word line.Memory = codes "Memory"

-- the code of a limit's rejection
abbrev pub refusal_word : Refusal → List ℕ
refusal_word BundleTooLong = codes "BundleTooLong"
refusal_word OverQuota = codes "OverQuota"
refusal_word TooManyApps = codes "TooManyApps"
refusal_word TooManySteps = codes "TooManySteps"
