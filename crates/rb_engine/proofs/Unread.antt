-- Proves the answers to a payload without a bundle.
use Rattle.std.proofs.Common.{◌≡◌, ◌⊎◌, inl, inr}
use Rattle.rb_tree.specs.SourceTree.{SourceTree}
use Rattle.rb_engine.specs.Source.{HasNone, unread_reply}
use Rattle.rb_engine.specs.Start.{HasBundle}
use Rattle.rb_engine.specs.declared.payload.ReadFault.{ReadFault}
use Rattle.rb_engine.specs.declared.payload.ReadFault.TheVariants as fault
use Rattle.rb_engine.specs.declared.request.Payload.{Payload}
use Rattle.rb_engine.specs.declared.request.Payload.TheVariants.{Text, File}
use Rattle.rb_engine.specs.declared.request.Reply.TheVariants.{Memory}

-- memory ran out for it, or it has none
pub none_incoming : (payload : Payload) (e : ReadFault) → HasNone payload e
    → (unread_reply e ≡ Memory) ⊎ ((source : SourceTree) → HasBundle payload source → ⊥)
none_incoming (Text bytes) (fault.BadText e) h = inr (λ source has. h has.0 source has.1)
none_incoming (File bytes) (fault.BadFile e) h = inr (λ source has. h source has)
none_incoming (Text bytes) (fault.BadFile e) h = absurd h
none_incoming (File bytes) (fault.BadText e) h = absurd h
none_incoming payload (fault.Refused r) h = inl h
