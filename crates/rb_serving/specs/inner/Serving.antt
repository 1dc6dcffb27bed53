-- Defines what serving under limits is: those that the options give, or none.
use Rattle.std.specs.Prelude.{◌≡◌, ℕ, [], false, Option, Some, None, unwrap_or}
use Rattle.rb_arguments.specs.Limits.{AreGiven}
use Rattle.rb_arguments.specs.declared.asking.AskedLimits.{AskedLimits}
use Rattle.rb_engine.specs.History.{State}
use Rattle.rb_engine.specs.Kept.{Kept, state_of}
use Rattle.rb_requests.specs.Served.{Moment, at, AnswersAll, AnswersWithin, AfterFault, AfterFaultWithin}
use Rattle.rb_requests.specs.Within.{LineReplyWithin, longest_read}
use Rattle.rb_requests.specs.declared.limits.Limits.{Limits}
use Rattle.rb_requests.specs.declared.lines.ServeFault.{ServeFault}
use Rattle.rb_serving.specs.inner.Limits.{most_lines}

-- ---- the limits that a command line asks for
pub record IsLimits (asked : AskedLimits) (limits : Limits) : Type 0 where
  pub bundle_bytes : limits.bundle_bytes ≡ asked.bundle_bytes
  pub app_bytes : limits.app_bytes ≡ asked.app_bytes
  pub apps : limits.apps ≡ asked.apps
  pub steps : limits.steps ≡ asked.steps
  pub line_bytes : limits.line_bytes ≡ asked.line_bytes
  pub reply_bytes : limits.reply_bytes ≡ asked.reply_bytes
  pub keep_serving : limits.keep_serving ≡ asked.keep_serving

-- there are none only if no option gives one
abbrev pub AreLimits : AskedLimits → Option Limits → Type 0
AreLimits asked None = AreGiven [] asked
AreLimits asked (Some limits) = IsLimits asked limits

-- ---- serving under them
-- a server without limits, as each application sees it
abbrev pub seen : Moment Kept → Moment State
seen m = at (state_of m.state) m.left m.written m.settled

-- all lines are answered
abbrev pub AnswersUnder : Option Limits → Moment Kept → Moment Kept → ℕ → Type 0
AnswersUnder None before after count = AnswersAll (seen before) (seen after) count
AnswersUnder (Some limits) before after count =
    AnswersWithin (LineReplyWithin limits) (longest_read limits) before after count

-- the first lines are answered
abbrev pub AfterFaultUnder : Option Limits → ServeFault → Moment Kept → Moment Kept → Type 0
AfterFaultUnder None fault before after = AfterFault fault (seen before) (seen after) most_lines
AfterFaultUnder (Some limits) fault before after =
    AfterFaultWithin (LineReplyWithin limits) (longest_read limits) fault before after most_lines

-- ---- serving extended requests too
-- the limits of a server
abbrev pub limits_of : Option Limits → Limits
limits_of limits = unwrap_or limits (record {
  bundle_bytes = None;
  app_bytes = None;
  apps = None;
  steps = None;
  line_bytes = None;
  reply_bytes = None;
  keep_serving = false;
})
