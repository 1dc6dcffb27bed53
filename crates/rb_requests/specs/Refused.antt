-- Defines why a payload is refused, and what the reply says of it, a rule of this project.
use Rattle.std.specs.Prelude.{◌≡◌, ◌≢◌, ◌⊎◌, ℕ, List, Option, Some, None, MatchBool, Result, Ok, Err, codes}
use Rattle.rb_lexer.specs.Words.{kind_word}
use Rattle.rb_lexer.specs.declared.fault.SourceFault.{SourceFault}
use Rattle.rb_lexer.specs.declared.fault.SourceKind.TheVariants.{Memory}
use Rattle.rb_format.specs.Words.{word_of}
use Rattle.rb_format.specs.declared.fault.FileFault.{FileFault}
use Rattle.rb_locales.specs.Locale.{name}
use Rattle.rb_packages.specs.App.{app_of}
use Rattle.rb_packages.specs.Words.{app_word}
use Rattle.rb_packages.specs.declared.app.AppFault.{AppFault}
use Rattle.rb_engine.specs.ReadFaults.{IsFirstFault}
use Rattle.rb_engine.specs.declared.payload.ReadFault.TheVariants.{BadText, BadFile}
use Rattle.rb_engine.specs.declared.request.Payload.{Payload}
use Rattle.rb_replies.specs.Extended.{refusal_data}
use Rattle.rb_requests.specs.Limits.{is_over, payload_len}
use Rattle.rb_requests.specs.Within.{line_of}
use Rattle.rb_requests.specs.declared.limits.Limits.{Limits}

-- a reason: its code, and perhaps the code of the first error of a text or a file, the index of a change, and the line
-- of a text
pub record Reason : Type 0 where
  pub error : List ℕ
  pub code : Option (List ℕ)
  pub index : Option ℕ
  pub line : Option ℕ

-- a reason that has only a code
abbrev pub only : List ℕ → Reason
only error = record { error = error; code = None; index = None; line = None }

-- the reason of the change at an index
abbrev pub at_index : ℕ → Reason → Reason
at_index i r = record { error = r.error; code = r.code; index = Some i; line = r.line }

-- the reply with a reason
abbrev pub reason_line : Reason → List ℕ
reason_line r = line_of (refusal_data r.error r.code r.index r.line)

-- an error of a text, as `compile` reports one, with its line; or the first one of a file, as `accept` reports it
abbrev pub IsFirstError : Payload → Reason → Type 0
IsFirstError payload r =
    ((e : SourceFault) × IsFirstFault payload (BadText e) × (e.kind ≢ Memory)
    × (r ≡ record { error = codes "BadText"; code = Some (kind_word e.kind); index = None; line = Some e.line }))
    ⊎ ((e : FileFault) × IsFirstFault payload (BadFile e)
    × (r ≡ record { error = codes "BadFile"; code = Some (word_of e); index = None; line = None }))

-- the application's name is checked first, then the locale's, and then the payload's length, before it is read
abbrev pub IsUnreadBy : Limits → Result (List ℕ) AppFault → Option (List ℕ) → Payload → Reason → Type 0
IsUnreadBy limits (Err e) n payload r = r ≡ only (app_word e)
IsUnreadBy limits (Ok a) None payload r = r ≡ only (codes "BadLocale")
IsUnreadBy limits (Ok a) (Some n) payload r = MatchBool (is_over limits.bundle_bytes (payload_len payload))
    (r ≡ only (codes "BundleTooLong")) (IsFirstError payload r)

abbrev pub IsUnread : Limits → (app locale : List ℕ) → Payload → Reason → Type 0
IsUnread limits app locale payload r = IsUnreadBy limits (app_of app) (name locale) payload r
