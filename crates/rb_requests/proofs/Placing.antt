-- The places of replies.
use Rattle.std.proofs.Common.{ℕ, List, Result, Ok, Err}
use Rattle.rb_requests.specs.declared.answer.Placed.{Placed}
use Rattle.rb_requests.specs.inner.Placing.{PlacesReply}
use Rattle.rb_requests.specs.inner.Putting.{Writer}

-- a weaker statement on the reply
pub places_weaker : {E : Type 0} (r : Result Placed E) (line : List ℕ) (before now : Writer) (Is More : List ℕ → Type 0)
    → ((text : List ℕ) → Is text → More text) → PlacesReply r line before now Is → PlacesReply r line before now More
places_weaker (Ok at) line before now Is More f h = (h.0, f h.0 h.1, h.2)
places_weaker (Err e) line before now Is More f h = h
