-- Proves that a handle of a bundle may pass to another thread, since what it owns may.
use Rattle.std.proofs.Common.{Option, Some, None}
use mathlib.Core.Bool.{Bool}
use mir.Raw.{raw}
use base.Shift.{Keyless}
use denote.Memory.{lone}
use denote.RawPtr.{Ptr}
use denote.Param.Send.{IsSend, AllSend, owning_send, sendable}
use denote.Struct.Owning as owning
use Rattle.std_alloc.proofs.SendSync as any
use Rattle.std.proofs.Crossing.{frees, crosses}
use Rattle.std.specs.contracts.alloc.Global as heap
use Rattle.rb_validator.proofs.bundle.Bundle.TheSendSync as sent
use Rattle.rb_handle.specs.BundleHandle.{stored, bundle_owns}
use Rattle.rb_handle.specs.contracts.bundle_handle.BundleHandle as handle

stored_send : IsSend stored
stored_send = sent.the_send

fields_send : AllSend (owning.fields handle.the_type)
fields_send = search (crosses, sendable) depth 30

keyless : (is_prepared : Bool) (at : Ptr) (alloc : (heap.the_row).Denot) (file : Option stored.Denot) → Keyless (bundle_owns is_prepared at alloc file)
keyless is_prepared at alloc (Some bytes) = (tt, (any.lies stored stored_send at bytes, frees.frees alloc (raw (lone stored.mir)) at))
keyless is_prepared at alloc None = tt

pub send : IsSend handle.the_row
send = owning_send handle.the_type fields_send (λ h. keyless h.is_prepared h.at h.alloc h.file) (λ k d w. tt)
