-- Serving without limits: each line is answered as the engine answers it.
use Rattle.std.proofs.Common.{ℕ, inl, inr, List, [], ◌∷◌, Option, Some, None, ap}
use Rattle.std.specs.Prelude.{All}
use Rattle.std.proofs.lemmas.List.Elements.{All-head, All-tail}
use Rattle.rb_requests.specs.Lines.{RepliesBy}
use Rattle.rb_requests.specs.Served.{Moment, where_known, IsShort, Answers, AnswersWithin, FirstAnswered, After, AfterFaultWithin}
use Rattle.rb_requests.specs.declared.lines.ServeFault.{ServeFault}
use Rattle.rb_requests.specs.declared.lines.ServeFault.TheVariants.{Read, Write, LineLimit, LineTooLong, Memory}

-- The state is mapped to another type, and so are the replies to lines that are short enough.
module _ {S T : Type 0} (see : S → T) (Reply : S → List ℕ → List ℕ → S → Type 0) (Seen : T → List ℕ → List ℕ → T → Type 0) (limit : ℕ)
    (seen : (old new : S) (line text : List ℕ) → IsShort limit line → Reply old line text new → Seen (see old) line text (see new)) where
  abbrev pub moment : Moment S → Moment T
  moment m = record { state = see m.state; left = m.left; written = m.written; settled = m.settled }

  replies_seen : (s end : S) (lines replies : List (List ℕ)) → All (IsShort limit) lines → RepliesBy Reply s lines replies end
      → RepliesBy Seen (see s) lines replies (see end)
  replies_seen s end [] [] h r = ap see r
  replies_seen s end [] (reply ∷ more) h r = absurd r
  replies_seen s end (line ∷ rest) [] h r = absurd r
  replies_seen s end (line ∷ rest) (reply ∷ more) h (mid, answer, later) =
      (see mid, seen s mid line reply (All-head (IsShort limit) line rest h) answer, replies_seen mid end rest more (All-tail (IsShort limit) line rest h) later)

  answers_seen : (before after : Moment S) (count : ℕ) (input left : List ℕ) → Answers Reply limit before after count input left
      → Answers Seen limit (moment before) (moment after) count input left
  answers_seen before after count input left h = record {
    read = h.read;
    replies = h.replies;
    by_line = replies_seen before.state after.state _ h.replies h.short h.by_line;
    wrote = h.wrote;
    lines_read = h.lines_read;
    short = h.short;
  }

  first_seen : (old now : S) (most : ℕ) (input left : List ℕ) → FirstAnswered Reply limit old now most input left
      → FirstAnswered Seen limit (see old) (see now) most input left
  first_seen old now most input left h = record {
    done = h.done;
    begun = h.begun;
    taken = h.taken;
    first = h.first;
    split = h.split;
    fed = h.fed;
    few = h.few;
    short = h.short;
    replies = h.replies;
    by_line = replies_seen old now h.first h.replies h.short h.by_line;
  }

  after_seen : (fault : ServeFault) (before after : Moment S) (most : ℕ) (input left : List ℕ) → After Reply limit fault before after most input left
      → After Seen limit fault (moment before) (moment after) most input left
  unfolding first_seen
  after_seen Read before after most input left h = record {
    answered = first_seen before.state after.state most input left h.answered;
    wrote = h.wrote;
    settled = h.settled;
    part = h.part;
    short = h.short;
    last = h.last;
  }
  after_seen LineTooLong before after most input left h = record {
    answered = first_seen before.state after.state most input left h.answered;
    wrote = h.wrote;
    settled = h.settled;
    part = h.part;
    long = h.long;
    more = h.more;
  }
  after_seen LineLimit before after most input left h = record {
    answered = first_seen before.state after.state most input left h.answered;
    wrote = h.wrote;
    settled = h.settled;
    byte = h.byte;
    all = h.all;
  }
  after_seen Memory before after most input left h = record {
    now = see h.now;
    answered = first_seen before.state h.now most input left h.answered;
    wrote = h.wrote;
    settled = h.settled;
    more = h.more;
    next = elim h.next [
      | inl (begun, same) ↦ inl (begun, ap see same)
      | inr (line, next, effect) ↦ inr (
        line,
        next,
        elim effect [
          | inl same ↦ inl (ap see same)
          | inr (text, answer) ↦ inr (text, seen h.now after.state line text next.short answer)
        ],
      )
    ];
  }
  after_seen Write before after most input left h = record {
    now = see h.now;
    answered = first_seen before.state h.now most input left h.answered;
    settled = h.settled;
    more = h.more;
    line = h.line;
    next = h.next;
    part = h.part;
    missing = h.missing;
    answers = seen h.now after.state h.line _ h.next.short h.answers;
    wrote = h.wrote;
  }

  known_seen : (P Q : List ℕ → List ℕ → Type 0) → ((input left : List ℕ) → P input left → Q input left) → (a b : Option (List ℕ))
      → where_known P a b → where_known Q a b
  known_seen P Q f None b h = h
  known_seen P Q f (Some input) None h = h
  known_seen P Q f (Some input) (Some left) h = f input left h

  pub all_seen : (before after : Moment S) (count : ℕ) → AnswersWithin Reply limit before after count
      → AnswersWithin Seen limit (moment before) (moment after) count
  all_seen before after count h =
      known_seen (Answers Reply limit before after count) (Answers Seen limit (moment before) (moment after) count)
      (λ input left. answers_seen before after count input left) before.left after.left h

  pub fault_seen : (fault : ServeFault) (before after : Moment S) (most : ℕ) → AfterFaultWithin Reply limit fault before after most
      → AfterFaultWithin Seen limit fault (moment before) (moment after) most
  fault_seen fault before after most h =
      known_seen (After Reply limit fault before after most) (After Seen limit fault (moment before) (moment after) most)
      (λ input left. after_seen fault before after most input left) before.left after.left h
