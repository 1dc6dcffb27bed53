-- Defines the limit on the length of a reply, its line feed included: a rule of this project.
use Rattle.std.specs.Prelude.{◌<◌, ℕ, Option, Some, None}
use Rattle.rb_engine.specs.Answer.{Response, Replies, Finds}
use Rattle.rb_engine.specs.declared.request.Reply.TheVariants.{Names}

-- an item that was found and names have the limit; any other reply is written whatever its length
abbrev pub limit_of : Response → Option ℕ → Option ℕ
limit_of (Finds hit valid) most = most
limit_of (Replies (Names names)) most = most
limit_of response most = None

abbrev pub IsAbove : ℕ → Option ℕ → Type 0
IsAbove n None = ⊥
IsAbove n (Some most) = most < n
