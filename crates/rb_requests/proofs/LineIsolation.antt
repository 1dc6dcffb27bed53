-- The replies to one application's lines.
use Rattle.std.proofs.Common.{◌≡◌, ℕ, Bool, true, false, List, [], ◌∷◌, Option, Some, None, refl, sym, ◌∙◌, ap, subst}
use Rattle.std.specs.Str.{bytes_eq}
use Rattle.std.proofs.lemmas.Slice.Eq.{bytes_eq-Decides}
use Rattle.std.proofs.lemmas.Bool.{false≢true}
use Rattle.rb_packages.specs.Shelf.{Shelf}
use Rattle.rb_engine.specs.Ask.{Call, caller, Ask, Means}
use Rattle.rb_engine.specs.Answer.{Start, Response, answer_over, bundles_after}
use Rattle.rb_engine.specs.History.{State, Answered, AsksOne}
use Rattle.rb_requests.specs.Asked.{call_of}
use Rattle.rb_requests.specs.Lines.{AnswersAsked, RepliesByLine}
use Rattle.rb_replies.specs.Replied.{reply_line}
use Rattle.rb_requests.specs.Isolation.{is_of, calls_of, replies_to, AreLinesIsolated}

-- what a line does to one application's bundles
record Moves (app : List ℕ) (s : State) (call : Call) (response : Response) (mid : State) : Type 0 where
  ask : Ask
  means : Means call ask
  right : response ≡ answer_over s.start (s.lists app) ask
  start : mid.start ≡ s.start
  own : mid.lists app ≡ bundles_after ask (s.lists app)

record Stays (app : List ℕ) (s mid : State) : Type 0 where
  start : mid.start ≡ s.start
  own : mid.lists app ≡ s.lists app

moves : (app : List ℕ) (s : State) (call : Call) (response : Response) (mid : State) → bytes_eq (caller call) app ≡ true
    → Answered s call response mid → Moves app s call response mid
moves app s call response mid e t =
    let same : caller call ≡ app = (bytes_eq-Decides (caller call) app).0 e in
    record {
      ask = t.ask;
      means = t.means;
      right = t.right ∙ ap (λ a. answer_over s.start (s.lists a) t.ask) same;
      start = t.start;
      own = ap mid.lists (sym same) ∙ t.own ∙ ap (λ a. bundles_after t.ask (s.lists a)) same;
    }

stays : (app : List ℕ) (s : State) (call : Call) (response : Response) (mid : State) → bytes_eq (caller call) app ≡ false
    → Answered s call response mid → Stays app s mid
stays app s call response mid e t = record {
  start = t.start;
  own = t.others app (λ h. false≢true (sym e ∙ (bytes_eq-Decides (caller call) app).1 (sym h)));
}

-- ---- the replies that an application's calls are given from some bundles on

abbrev AreReplies : Start → Shelf → List Call → List (List ℕ) → Type 0
AreReplies start shelf [] replies = replies ≡ []
AreReplies start shelf (call ∷ calls) replies =
    (ask : Ask) × (more : List (List ℕ)) × Means call ask × (replies ≡ reply_line (Some (answer_over start shelf ask)) ∷ more)
    × AreReplies start (bundles_after ask shelf) calls more

one_reply_list : AsksOne → (start : Start) (shelf : Shelf) (calls : List Call) (a b : List (List ℕ))
    → AreReplies start shelf calls a → AreReplies start shelf calls b → a ≡ b
one_reply_list one start shelf [] a b p q = p ∙ sym q
one_reply_list one start shelf (call ∷ calls) a b p q =
    let same : q.0 ≡ p.0 = one call q.0 p.0 q.2 p.2 in
    let later : AreReplies start (bundles_after p.0 shelf) calls q.1 = subst (λ (x : Ask). AreReplies start (bundles_after x shelf) calls q.1) same q.4 in
    p.3 ∙ ap (λ rs. reply_line (Some (answer_over start shelf p.0)) ∷ rs) (one_reply_list one start (bundles_after p.0 shelf) calls p.1 q.1 p.4 later)
    ∙ ap (λ x. reply_line (Some (answer_over start shelf x)) ∷ q.1) (sym same) ∙ sym q.3

-- the same from equal starts and bundles
moved : (app : List ℕ) (lines replies : List (List ℕ)) (s t : Start) (x y : Shelf) → s ≡ t → x ≡ y
    → AreReplies s x (calls_of app lines) (replies_to app lines replies) → AreReplies t y (calls_of app lines) (replies_to app lines replies)
moved app lines replies s t x y e k h =
    let at_start = subst (λ (z : Start). AreReplies z x (calls_of app lines) (replies_to app lines replies)) e h in
    subst (λ (z : Shelf). AreReplies t z (calls_of app lines) (replies_to app lines replies)) k at_start

replies-line : (app : List ℕ) (s mid : State) (line reply : List ℕ) (rest more : List (List ℕ)) (call : Option Call) (response : Option Response) (b : Bool)
    → call_of line ≡ call → is_of app call ≡ b → AnswersAsked s call response mid → reply ≡ reply_line response
    → AreReplies mid.start (mid.lists app) (calls_of app rest) (replies_to app rest more)
    → AreReplies s.start (s.lists app) (calls_of app (line ∷ rest)) (replies_to app (line ∷ rest) (reply ∷ more))
replies-line app s mid line reply rest more None None b c e t r h =
    rw c (moved app rest more mid.start s.start (mid.lists app) (s.lists app) (ap (λ x. x.start) t) (ap (λ x. x.lists app) t) h)
replies-line app s mid line reply rest more None (Some response) b c e t r h = absurd t
replies-line app s mid line reply rest more (Some call) None b c e t r h = absurd t
replies-line app s mid line reply rest more (Some call) (Some response) false c e t r h =
    let k = stays app s call response mid e t in
    rw (c, e) (moved app rest more mid.start s.start (mid.lists app) (s.lists app) k.start k.own h)
replies-line app s mid line reply rest more (Some call) (Some response) true c e t r h =
    let k = moves app s call response mid e t in
    rw (c, e) (
      k.ask,
      replies_to app rest more,
      k.means,
      ap (λ x. x ∷ replies_to app rest more) (r ∙ ap (λ x. reply_line (Some x)) k.right),
      moved app rest more mid.start s.start (mid.lists app) (bundles_after k.ask (s.lists app)) k.start k.own h,
    )

replies-run : (app : List ℕ) (s end : State) (lines replies : List (List ℕ)) → RepliesByLine s lines replies end
    → AreReplies s.start (s.lists app) (calls_of app lines) (replies_to app lines replies)
replies-run app s end [] replies r = refl
replies-run app s end (line ∷ rest) [] r = absurd r
replies-run app s end (line ∷ rest) (reply ∷ more) (mid, (response, t, e), r) =
    replies-line app s mid line reply rest more (call_of line) response (is_of app (call_of line)) refl refl t e (replies-run app mid end rest more r)

pub lines_isolated : AsksOne → AreLinesIsolated
lines_isolated one app s t u v first second a b st own p q same =
    one_reply_list one t.start (t.lists app) (calls_of app second) (replies_to app first a) (replies_to app second b)
    (subst (λ (c : List Call). AreReplies t.start (t.lists app) c (replies_to app first a)) same
    (moved app first a s.start t.start (s.lists app) (t.lists app) st own (replies-run app s u first a p)))
    (replies-run app t v second b q)
