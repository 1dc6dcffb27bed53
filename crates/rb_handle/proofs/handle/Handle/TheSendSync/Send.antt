-- Proves that a handle may pass to another thread, since what it owns may.
use Rattle.std.proofs.Common.{Option, Some, None}
use mathlib.Core.Bool.{Bool}
use mir.Raw.{raw}
use base.Shift.{Keyless}
use denote.Memory.{lone}
use denote.RawPtr.{Ptr}
use denote.Param.Send.{IsSend, AllSend, owning_send, sendable}
use denote.Struct.Owning as owning
use Rattle.std_alloc.proofs.SendSync as any
use Rattle.std.proofs.Crossing.{frees, crosses, Arc-send}
use Rattle.std.specs.contracts.alloc.Global as heap
use Rattle.rb_engine.specs.contracts.engine.Engine as engine
use Rattle.rb_engine.proofs.engine.Engine.TheSendSync as sent
use Rattle.rb_handle.specs.Handle.{counted, handle_owns}
use Rattle.rb_handle.specs.contracts.handle.Handle as handle

counted_send : IsSend counted
counted_send = Arc-send engine.the_row sent.the_send sent.the_sync

fields_send : AllSend (owning.fields handle.the_type)
fields_send = search (crosses, sendable) depth 30

keyless : (is_open : Bool) (at : Ptr) (alloc : (heap.the_row).Denot) (count : Option counted.Denot) → Keyless (handle_owns is_open at alloc count)
keyless is_open at alloc (Some count) = (tt, (any.lies counted counted_send at count, frees.frees alloc (raw (lone counted.mir)) at))
keyless is_open at alloc None = tt

pub send : IsSend handle.the_row
send = owning_send handle.the_type fields_send (λ h. keyless h.is_open h.at h.alloc h.engine) (λ k d w. tt)
