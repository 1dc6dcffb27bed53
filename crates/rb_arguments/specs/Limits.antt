-- Defines the limits of `serve`, by the rows of values that clap returned.
use Rattle.std.specs.Prelude.{List, codes}
use Rattle.clap.specs.Words.{Row}
use Rattle.rb_arguments.specs.Rows.{IsFlagIn, IsNumberIn}
use Rattle.rb_arguments.specs.declared.asking.AskedLimits.{AskedLimits}

-- the given limits: each is the number of the option of its name, and `keep_serving` is the flag of its name
pub record AreGiven (rows : List Row) (limits : AskedLimits) : Type 0 where
  pub app_bytes : IsNumberIn rows (codes "app-bytes") limits.app_bytes
  pub bundle_bytes : IsNumberIn rows (codes "bundle-bytes") limits.bundle_bytes
  pub reply_bytes : IsNumberIn rows (codes "reply-bytes") limits.reply_bytes
  pub line_bytes : IsNumberIn rows (codes "line-bytes") limits.line_bytes
  pub apps : IsNumberIn rows (codes "apps") limits.apps
  pub steps : IsNumberIn rows (codes "steps") limits.steps
  pub keep_serving : IsFlagIn rows (codes "keep-serving") limits.keep_serving
