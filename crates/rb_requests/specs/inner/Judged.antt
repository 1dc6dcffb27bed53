-- For what is private. Defines the outcome of judging a payload, and the reason why a change isn't made.
use Rattle.std.specs.Prelude.{◌≡◌, ℕ, true, List, Option, Some, None, option_map, Result, Ok, Err, codes}
use Rattle.rb_lexer.specs.Words.{kind_word}
use Rattle.rb_lexer.specs.declared.fault.SourceFault.{SourceFault}
use Rattle.rb_format.specs.Words.{word_of}
use Rattle.rb_format.specs.declared.fault.FileFault.{FileFault}
use Rattle.rb_packages.specs.Words.{app_word}
use Rattle.rb_packages.specs.declared.app.AppFault.{AppFault}
use Rattle.rb_replies.specs.declared.extended.Detail.{Detail}
use Rattle.rb_engine.specs.Change.{IsFileOf}
use Rattle.rb_engine.specs.Place.{place_of}
use Rattle.rb_engine.specs.Source.{Reads}
use Rattle.rb_engine.specs.declared.place.Place.{Place}
use Rattle.rb_engine.specs.declared.request.Payload.{Payload}
use Rattle.rb_requests.specs.Refused.{Reason, IsUnread, reason_line}
use Rattle.rb_requests.specs.Steps.{is_read}
use Rattle.rb_requests.specs.declared.judged.Unmade.{Unmade}
use Rattle.rb_requests.specs.declared.judged.Unmade.TheVariants.{Refused, Memory}
use Rattle.rb_requests.specs.declared.limits.Limits.{Limits}

abbrev pub reason : List ℕ → Detail → Reason
reason word detail = record {
  error = word;
  code = option_map (λ s. s.now) detail.code;
  index = detail.index;
  line = detail.line;
}

-- the reason of a text's error, and of a file's
abbrev pub text_reason : SourceFault → Reason
text_reason e = record { error = codes "BadText"; code = Some (kind_word e.kind); index = None; line = Some e.line }

abbrev pub file_reason : FileFault → Reason
file_reason e = record { error = codes "BadFile"; code = Some (word_of e); index = None; line = None }

-- the reason of a refusal, which is none if memory ran out
abbrev pub reason_of : Unmade → Option Reason
reason_of (Refused word detail) = Some (reason word.now detail)
reason_of Memory = None

-- a refusal has such a reason
abbrev pub IfRefused : Unmade → (Reason → Type 0) → Type 0
IfRefused (Refused word detail) Is = Is (reason word.now detail)
IfRefused Memory Is = Unit {0}

-- the line is the reply with the reason
abbrev pub IsTold : Unmade → List ℕ → Type 0
IsTold (Refused word detail) line = line ≡ reason_line (reason word.now detail)
IsTold Memory line = ⊥

-- the error of an application's name, or else of a locale's
abbrev pub names_error : Result (List ℕ) AppFault → Option (List ℕ) → Option (List ℕ)
names_error (Err e) n = Some (app_word e)
names_error (Ok a) None = Some (codes "BadLocale")
names_error (Ok a) (Some n) = None

-- a bundle under valid names, of a payload that isn't too long; or the reason why it isn't read, or memory ran out when
-- it was
abbrev pub Judges : Limits → (app locale : List ℕ) → Payload → Result (Place × List ℕ) Unmade → Type 0
Judges limits app locale payload (Ok incoming) =
    Reads app locale payload (Ok incoming) × IsFileOf payload incoming.1
    × (is_read limits (place_of app locale) payload ≡ true)
Judges limits app locale payload (Err (Refused word detail)) =
    IsUnread limits app locale payload (reason word.now detail)
Judges limits app locale payload (Err Memory) = is_read limits (place_of app locale) payload ≡ true
