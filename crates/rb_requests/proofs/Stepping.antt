-- The request of a line, by its texts, and its answer.
use Rattle.std.proofs.Common.{◌≡◌, ◌≤◌, ◌<◌, ℕ, inl, inr, Bool, true, false, List, Option, Some, None, option_map, refl, sym, ◌∙◌, ap, arith, nat_lt}
use Rattle.std.proofs.lemmas.Bool.{false≢true}
use Rattle.std.proofs.lemmas.Bool.Decides.{nat_tests}
use Rattle.serde_json.specs.Data.{Data}
use Rattle.rb_engine.specs.Ask.{Call}
use Rattle.rb_engine.specs.Answer.{Response, Replies}
use Rattle.rb_engine.specs.History.{is_memory}
use Rattle.rb_engine.specs.Kept.{Kept}
use Rattle.rb_engine.specs.declared.request.Reply.{Reply}
use Rattle.rb_engine.specs.declared.request.Reply.TheVariants.{Done, Memory}
use Rattle.rb_requests.specs.declared.texts.Texts.{Texts}
use Rattle.rb_requests.specs.Limits.{is_over}
use Rattle.rb_requests.specs.Steps.{Outcome, Answers, Refuses, CallIsJudged, CallComesTo, may_starve}
use Rattle.rb_requests.specs.declared.limits.Limited.{Limited}
use Rattle.rb_requests.specs.declared.limits.Limited.TheVariants.{Answer, Refused}
use Rattle.rb_requests.specs.declared.limits.Limits.{Limits}
use Rattle.rb_requests.specs.Outcomes.{reply_outcome}
use Rattle.rb_replies.specs.Within.{IsAbove}
use Rattle.rb_requests.specs.Asked.{call_in}
use Rattle.rb_requests.specs.Within.{AnswersRead, CallReply, outcome_line}
use Rattle.rb_requests.specs.declared.answer.Starved.{Starved}
use Rattle.rb_requests.specs.declared.answer.Starved.TheVariants.{Before, After}
use Rattle.rb_requests.specs.declared.ask.Line.{Line}
use Rattle.rb_requests.specs.inner.Line.{line_view, AreTextsOf}
use Rattle.rb_requests.specs.inner.Starving.{LeavesOf, starved_by, untold_by}

-- the call of a line, by its texts
pub call_read : {o : Option Line} (texts : Texts) (line : Line) → ((d : Data) → AreTextsOf texts d → option_map line_view o ≡ call_in d)
    → o ≡ Some line → (d : Data) → AreTextsOf texts d → call_in d ≡ Some (line_view line)
call_read texts line h e d t = sym (h d t) ∙ ap (option_map line_view) e

-- a line that calls is answered as its call is
pub asked_reply : (limits : Limits) (s : Kept) (call : Option Call) (usage : Option (List ℕ)) (k : Call) (text : List ℕ) (new : Kept)
    → call ≡ Some k → CallReply limits s k text new → AnswersRead limits s call usage text new
asked_reply limits s call usage k text new e t = rw e t

-- the state if memory runs out, under a weaker statement on the reply
pub leaves_more : (P Q : List ℕ → Kept → Type 0) (s : Starved) (old new : Kept) → ((text : List ℕ) → P text new → Q text new)
    → LeavesOf P s old new → LeavesOf Q s old new
leaves_more P Q Before old new f same = same
leaves_more P Q After old new f left = elim left [
  | inl same ↦ inl same
  | inr (text, told) ↦ inr (text, f text told)
]

-- ---- the outcome of a call

nothing_changed : (limits : Limits) (old : Kept) (call : Call) (reply : Reply) (new : Kept) → is_memory (Replies reply) ≡ true
    → CallComesTo limits old call (Answers (Replies reply)) new → new ≡ old
nothing_changed limits old call reply new e h = elim h [
  | inl starved ↦ starved.same
  | inr (incoming, brings, judged) ↦ elim judged [
    | inl refused ↦ refused.same
    | inr answered ↦ absurd (false≢true (sym answered.told ∙ (sym (ap starved_by answered.answer) ∙ e)))
  ]
]

pub judged : (limits : Limits) (old : Kept) (call : Call) (outcome : Outcome) (new : Kept) → starved_by outcome ≡ false
    → CallComesTo limits old call outcome new → CallIsJudged limits old call outcome new
judged limits old call outcome new e h = elim h [
  | inl starved ↦ absurd (false≢true (sym e ∙ ap starved_by starved.memory))
  | inr j ↦ j
]

-- a call for which memory can't run out
pub judged_always : (limits : Limits) (old : Kept) (call : Call) (outcome : Outcome) (new : Kept) → may_starve limits call ≡ false
    → CallComesTo limits old call outcome new → CallIsJudged limits old call outcome new
judged_always limits old call outcome new e h = elim h [
  | inl starved ↦ absurd (false≢true (sym e ∙ starved.may))
  | inr j ↦ j
]

abbrev done_by : Outcome → Bool
done_by (Answers (Replies Done)) = true
done_by other = false

unchanged : (limits : Limits) (old : Kept) (call : Call) (outcome : Outcome) (new : Kept) → done_by outcome ≡ false
    → CallIsJudged limits old call outcome new → new ≡ old
unchanged limits old call outcome new e (incoming, brings, judged) = elim judged [
  | inl refused ↦ refused.same
  | inr answered ↦ answered.kept (λ d. false≢true (sym e ∙ ap done_by (answered.answer ∙ ap (λ (r : Response). Answers r) d)))
]

-- the state after a call whose reply could not be made
pub left_by : (limits : Limits) (old : Kept) (call : Call) (answer : Limited Reply) (new : Kept)
    → CallComesTo limits old call (reply_outcome answer) new → LeavesOf (CallReply limits old call) (untold_by answer) old new
left_by limits old call (Answer Done) new h =
    let outcome = Answers (Replies Done) in
    inr (outcome_line limits outcome, (outcome, judged limits old call outcome new refl h, refl))
left_by limits old call (Answer Memory) new h = nothing_changed limits old call Memory new refl h
left_by limits old call (Answer other) new h =
    unchanged limits old call (Answers (Replies other)) new refl (judged limits old call (Answers (Replies other)) new refl h)
left_by limits old call (Refused refusal) new h = unchanged limits old call (Refuses refusal) new refl (judged limits old call (Refuses refusal) new refl h)

-- ---- the line of an answer

pub at_most_over : (most n : ℕ) → n ≤ most → nat_lt most n ≡ false
at_most_over most n h = grind (arith, nat_tests)

pub above_over : (most n : ℕ) → most < n → nat_lt most n ≡ true
above_over most n h = grind (arith, nat_tests)

pub over : (most : Option ℕ) (n : ℕ) → IsAbove n most → is_over most n ≡ true
over None n h = absurd h
over (Some most) n h = above_over most n h

pub within : (most : Option ℕ) (n : ℕ) → (IsAbove n most → ⊥) → is_over most n ≡ false
within None n h = refl
within (Some most) n h = at_most_over most n (omega (arith, h))
