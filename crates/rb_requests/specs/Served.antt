-- Defines the result of serving at the end of the input, and the state if it ends earlier, this project's own rule:
-- each line is answered before the next is read.
use Rattle.std.specs.Prelude.{◌≡◌, ◌≤◌, ◌<◌, ◌+◌, ◌++◌, ◌⊎◌, ℕ, List, [], ◌∷◌, length, All, ⊤, Option, Some, None}
use Rattle.std.specs.Prelude.{Result, Err}
use Rattle.std.specs.List.{concat}
use Rattle.std.specs.Io.KnownBytes.{Appends}
use Rattle.rb_requests.specs.Device.{risen, risen_by}
use Rattle.rb_engine.specs.History.{State}
use Rattle.rb_requests.specs.Lines.{LineReply, RepliesBy, lines_of, feeds}
use Rattle.rb_requests.specs.declared.lines.ServeFault.{ServeFault}
use Rattle.rb_requests.specs.declared.lines.ServeFault.TheVariants.{Read, Write, LineLimit, LineTooLong, Memory}
use Rattle.rb_requests.specs.Limits.{line_limit}

-- a server at a moment: its state, the bytes that remain to be read and those that are written, where they are known,
-- and the number of flushed replies
pub record Moment (S : Type 0) : Type 0 where
  pub state : S
  pub left : Option (List ℕ)
  pub written : Option (List ℕ)
  pub settled : ℕ

abbrev pub at : {S : Type 0} → S → Option (List ℕ) → Option (List ℕ) → ℕ → Moment S
at state left written settled = record { state = state; left = left; written = written; settled = settled }

-- if the remaining bytes are known, before and after
abbrev pub where_known : (List ℕ → List ℕ → Type 0) → Option (List ℕ) → Option (List ℕ) → Type 0
where_known Holds None left = ⊤
where_known Holds (Some input) None = ⊥
where_known Holds (Some input) (Some left) = Holds input left

-- a line with no more bytes than the limit
abbrev pub IsShort : ℕ → List ℕ → Type 0
IsShort limit line = length line ≤ limit

-- as many replies are flushed as lines are answered
abbrev pub IsSettled : {S : Type 0} → Moment S → Moment S → List (List ℕ) → Type 0
IsSettled before after lines = after.settled ≡ risen_by before.settled (length lines)

-- the next line, which keeps the limit and is read whole, with its line feed if it has one
pub record IsNext (limit : ℕ) (begun left line : List ℕ) : Type 0 where
  pub read : lines_of begun ≡ line ∷ []
  pub whole : lines_of (begun ++ left) ≡ line ∷ lines_of left
  pub short : IsShort limit line

-- no byte of a line is read, or a part without its line feed that is shorter than a line may be
abbrev pub IsBegun : ℕ → List ℕ → Type 0
IsBegun limit begun = (feeds begun ≡ 0) × (length begun < limit)

-- `Reply` gives the reply to a line and the state after it.
module _ {S : Type 0} (Reply : S → List ℕ → List ℕ → S → Type 0) where
  -- ---- the whole input

  -- all the input is read, what is written is the replies to its lines and nothing else, and their requests have taken
  -- effect
  pub record Answers (limit : ℕ) (before after : Moment S) (count : ℕ) (input left : List ℕ) : Type 0 where
    pub read : left ≡ []
    pub replies : List (List ℕ)
    pub by_line : RepliesBy Reply before.state (lines_of input) replies after.state
    pub wrote : Appends before.written after.written (concat replies)
    pub lines_read : count ≡ length (lines_of input)
    pub short : All (IsShort limit) (lines_of input)

  abbrev pub AnswersWithin : ℕ → Moment S → Moment S → ℕ → Type 0
  AnswersWithin limit before after count = where_known (Answers limit before after count) before.left after.left

  -- ---- a part of it

  -- The first lines are read, each with its line feed, and then some bytes of what follows. These lines have taken
  -- effect and no others, and these are their replies.
  pub record FirstAnswered (limit : ℕ) (old now : S) (most : ℕ) (input left : List ℕ) : Type 0 where
    pub done : List ℕ
    pub begun : List ℕ
    pub taken : input ≡ done ++ (begun ++ left)
    pub first : List (List ℕ)
    pub split : lines_of input ≡ first ++ lines_of (begun ++ left)
    pub fed : feeds done ≡ length first
    pub few : length first ≤ most
    pub short : All (IsShort limit) first
    pub replies : List (List ℕ)
    pub by_line : RepliesBy Reply old first replies now

  -- after `Read`: of the next line a part is read that is no longer than a line may be, and if no further line may
  -- come nothing is
  pub record AfterRead (limit : ℕ) (before after : Moment S) (most : ℕ) (input left : List ℕ) : Type 0 where
    pub answered : FirstAnswered limit before.state after.state most input left
    pub wrote : Appends before.written after.written (concat answered.replies)
    pub settled : IsSettled before after answered.first
    pub part : feeds answered.begun ≡ 0
    pub short : IsShort limit answered.begun
    pub last : length answered.first ≡ most → answered.begun ≡ []

  -- after `LineTooLong`: a part is read that is one byte longer than a line may be
  pub record AfterLong (limit : ℕ) (before after : Moment S) (most : ℕ) (input left : List ℕ) : Type 0 where
    pub answered : FirstAnswered limit before.state after.state most input left
    pub wrote : Appends before.written after.written (concat answered.replies)
    pub settled : IsSettled before after answered.first
    pub part : feeds answered.begun ≡ 0
    pub long : length answered.begun ≡ limit + 1
    pub more : length answered.first < most

  -- after `LineLimit`: as many lines are answered as may be, and one byte more is read
  pub record AfterLimit (limit : ℕ) (before after : Moment S) (most : ℕ) (input left : List ℕ) : Type 0 where
    pub answered : FirstAnswered limit before.state after.state most input left
    pub wrote : Appends before.written after.written (concat answered.replies)
    pub settled : IsSettled before after answered.first
    pub byte : length answered.begun ≡ 1
    pub all : length answered.first ≡ most

  -- a line has taken effect: there is a reply to it, whether it was written or not
  abbrev pub TakesEffect : S → List ℕ → S → Type 0
  TakesEffect old line new = (text : List ℕ) × Reply old line text new

  -- after `Memory`: the next line is at most begun, or it is read whole, keeps the limit, and has taken effect or has
  -- not
  pub record AfterMemory (limit : ℕ) (before after : Moment S) (most : ℕ) (input left : List ℕ) : Type 0 where
    pub now : S
    pub answered : FirstAnswered limit before.state now most input left
    pub wrote : Appends before.written after.written (concat answered.replies)
    pub settled : IsSettled before after answered.first
    pub more : length answered.first < most
    pub next : (IsBegun limit answered.begun × (after.state ≡ now))
        ⊎ ((line : List ℕ) × IsNext limit answered.begun left line
        × ((after.state ≡ now) ⊎ TakesEffect now line after.state))

  -- after `Write`: the next line is read and has taken effect, and a part of its reply is written
  pub record AfterWrite (limit : ℕ) (before after : Moment S) (most : ℕ) (input left : List ℕ) : Type 0 where
    pub now : S
    pub answered : FirstAnswered limit before.state now most input left
    pub settled : IsSettled before after answered.first
    pub more : length answered.first < most
    pub line : List ℕ
    pub next : IsNext limit answered.begun left line
    pub part : List ℕ
    pub missing : List ℕ
    pub answers : Reply now line (part ++ missing) after.state
    pub wrote : Appends before.written after.written (concat answered.replies ++ part)

  abbrev pub After : ℕ → ServeFault → Moment S → Moment S → ℕ → List ℕ → List ℕ → Type 0
  After limit Read before after most = AfterRead limit before after most
  After limit Write before after most = AfterWrite limit before after most
  After limit LineLimit before after most = AfterLimit limit before after most
  After limit LineTooLong before after most = AfterLong limit before after most
  After limit Memory before after most = AfterMemory limit before after most

  abbrev pub AfterFaultWithin : ℕ → ServeFault → Moment S → Moment S → ℕ → Type 0
  AfterFaultWithin limit fault before after most =
      where_known (After limit fault before after most) before.left after.left

-- ---- each line is answered as its call is, and has at most 268,435,456 bytes

abbrev pub AnswersAll : Moment State → Moment State → ℕ → Type 0
AnswersAll before after count = AnswersWithin LineReply line_limit before after count

abbrev pub AfterFault : ServeFault → Moment State → Moment State → ℕ → Type 0
AfterFault fault before after most = AfterFaultWithin LineReply line_limit fault before after most

-- ---- the counts of failed calls: that of the reader rises at `Read` alone, that of the writer at `Write` alone

abbrev pub reads_failed : {T : Type 0} → ℕ → Result T ServeFault → ℕ
reads_failed count (Err Read) = risen count
reads_failed count other = count

abbrev pub writes_failed : {T : Type 0} → ℕ → Result T ServeFault → ℕ
writes_failed count (Err Write) = risen count
writes_failed count other = count
