-- Defines how a request changes an engine, and the number of its reply in C, a rule of this project.
use Rattle.std.specs.Prelude.{◌≡◌, ◌≢◌, ℕ, Bool, List, Option, IfSome, if◌then◌else◌}
use Rattle.rb_engine.specs.Ask.{Requests}
use Rattle.rb_engine.specs.Answer.{Replies}
use Rattle.rb_engine.specs.History.{Step}
use Rattle.rb_engine.specs.Kept.{Kept, state_of}
use Rattle.rb_engine.specs.Version.{next_version}
use Rattle.rb_engine.specs.declared.request.Payload.{Payload}
use Rattle.rb_engine.specs.declared.request.Payload.TheVariants.{Text, File}
use Rattle.rb_engine.specs.declared.request.Reply.{Reply}
use Rattle.rb_engine.specs.declared.request.Request.{Request}
use Rattle.resb.specs.Numbers.{reply_number}

abbrev pub payload_of : Bool → List ℕ → Payload
payload_of is_text bytes = if is_text then Text bytes else File bytes

-- the engine's own step for a request, whose reply has this number
abbrev pub HandlesAs : Kept → Request → ℕ → Kept → Type 0
HandlesAs old request n new = (reply : Reply) × (n ≡ reply_number reply)
    × Step (state_of old) (Requests request) (Replies reply) (state_of new)

-- the engines of handles change so, unless memory runs out or handles share the engine
abbrev pub LeadsTo : Request → ℕ → Option Kept → Option Kept → Type 0
LeadsTo request n old new = n ≢ 1 → n ≢ 4 → IfSome old (λ before. IfSome new (λ after. HandlesAs before request n after))

-- the engine of a handle has the next version, so that locales that were opened before are stale
abbrev pub RaisesVersion : Option Kept → Option Kept → Type 0
RaisesVersion old new = IfSome old (λ before. IfSome new (λ after. after.version ≡ next_version before.version))
