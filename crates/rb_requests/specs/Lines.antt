-- The lines of a text, and the replies to them: one line of JSON for each (JSON Lines).
use Rattle.std.specs.Prelude.{◌≡◌, ℕ, ◌+◌, List, [], ◌∷◌, ◌==◌, if◌then◌else◌, Option, Some, None}
use Rattle.rb_engine.specs.Ask.{Call}
use Rattle.rb_engine.specs.Answer.{Response}
use Rattle.rb_engine.specs.History.{State, Answered}
use Rattle.rb_requests.specs.Asked.{call_of}
use Rattle.rb_replies.specs.Replied.{reply_line}

-- with a byte at the front of the first line
abbrev pub onto_first : ℕ → List (List ℕ) → List (List ℕ)
onto_first b [] = (b ∷ []) ∷ []
onto_first b (l ∷ ls) = (b ∷ l) ∷ ls

-- the bytes before each line feed, and the remaining bytes if there are any
abbrev pub lines_of : List ℕ → List (List ℕ)
lines_of [] = []
lines_of (b ∷ bs) = if b == 10 then [] ∷ lines_of bs else onto_first b (lines_of bs)

-- the number of line feeds in a text
abbrev pub feeds : List ℕ → ℕ
feeds [] = 0
feeds (b ∷ bs) = (if b == 10 then 1 else 0) + feeds bs

-- a line that calls is answered as its call is; one that calls nothing is answered as such, and changes nothing
abbrev pub AnswersAsked : State → Option Call → Option Response → State → Type 0
AnswersAsked s None None new = new ≡ s
AnswersAsked s (Some call) (Some response) new = Answered s call response new
AnswersAsked s call response new = ⊥

-- the text of the reply to a line, and the state after it
abbrev pub LineReply : State → List ℕ → List ℕ → State → Type 0
LineReply s line text new = (response : Option Response) × AnswersAsked s (call_of line) response new
    × (text ≡ reply_line response)

-- the replies to lines, one for each, each line having taken effect before the next; `Reply` says what the reply to one
-- line is
abbrev pub RepliesBy : {S : Type 0} → (S → List ℕ → List ℕ → S → Type 0) → S → List (List ℕ) → List (List ℕ) → S
    → Type 0
RepliesBy Reply s [] [] end = end ≡ s
RepliesBy {S} Reply s (line ∷ rest) (reply ∷ more) end =
    (mid : S) × Reply s line reply mid × RepliesBy Reply mid rest more end
RepliesBy Reply s lines replies end = ⊥

-- `RepliesBy` where each line is answered as its call is
abbrev pub RepliesByLine : State → List (List ℕ) → List (List ℕ) → State → Type 0
RepliesByLine s lines replies end = RepliesBy LineReply s lines replies end
