-- Defines lists of names and keys in C, a rule of this project.
use Rattle.std.specs.Prelude.{◌≡◌, ◌++◌, ◌∷◌, ℕ, List, [], Some, MatchOption, slice_get}
use Rattle.std.specs.Map.{keys_of}
use Rattle.rb_views.specs.Parts.{table_of}
use Rattle.rb_engine.specs.Ask.{Requests}
use Rattle.rb_engine.specs.Answer.{Response, Replies}
use Rattle.rb_engine.specs.History.{Step}
use Rattle.rb_engine.specs.Kept.{Kept, state_of}
use Rattle.rb_engine.specs.declared.request.Reply.{Reply}
use Rattle.rb_engine.specs.declared.request.Reply.TheVariants.{Names}
use Rattle.rb_engine.specs.declared.request.Request.TheVariants.{List as Listing}
use Rattle.resb.specs.Looks.{IfFound, IsCopied}
use Rattle.resb.specs.Numbers.{reply_number}

-- names, each with a zero byte after it
abbrev pub zero_ended : List (List ℕ) → List ℕ
zero_ended [] = []
zero_ended (name ∷ names) = name ++ 0 ∷ zero_ended names

-- the number of a reply; the names of a list are copied, or their length written if there isn't room for them
abbrev pub IsListed : Reply → ℕ → ℕ → ℕ → List ℕ → Type 0
IsListed (Names names) n count room copy = IsCopied 99 (Some (zero_ended names)) n count room copy
IsListed reply n count room copy = n ≡ reply_number reply

-- the engine's own step for a list, without the case of out of memory
abbrev pub Lists : Kept → List ℕ → ℕ → ℕ → ℕ → List ℕ → Type 0
Lists engine app n count room copy = (reply : Reply) × Step (state_of engine) (Requests (Listing app)) (Replies reply)
    (state_of engine) × IsListed reply n count room copy

-- a copy of the key at an index of the table that is found
abbrev pub CopiesKey : Response → ℕ → ℕ → ℕ → ℕ → List ℕ → Type 0
CopiesKey response index n count room copy = IfFound response n (λ hit valid. MatchOption (table_of hit.tree) (n ≡ 6)
    (λ entries. IsCopied 7 (slice_get (keys_of entries) index) n count room copy))
