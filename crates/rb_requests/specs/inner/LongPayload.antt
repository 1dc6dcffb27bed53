-- Defines which payloads are too long to be read, for private contracts only.
use Rattle.std.specs.Prelude.{Bool, false, Result, Ok, Err}
use Rattle.rb_engine.specs.declared.place.Place.{Place}
use Rattle.rb_engine.specs.declared.request.Payload.{Payload}
use Rattle.rb_requests.specs.Limits.{is_over, payload_len}
use Rattle.rb_requests.specs.declared.limits.Limits.{Limits}

-- a payload is rejected before it is read
abbrev pub long_payload : {E : Type 0} → Limits → Result Place E → Payload → Bool
long_payload limits (Err e) payload = false
long_payload limits (Ok p) payload = is_over limits.bundle_bytes (payload_len payload)
