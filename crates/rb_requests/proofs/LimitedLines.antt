-- The replies to one application's lines under limits.
use Rattle.std.proofs.Common.{◌≡◌, ◌≢◌, ◌⊎◌, ℕ, inl, inr, Bool, true, false, cond, List, [], ◌∷◌, map, Option, Some, None, refl, sym, ◌∙◌, ap, subst, codes}
use Rattle.std.specs.Prelude.{option_and_then, Result, Ok, Err, ◌||◌}
use Rattle.std.specs.Str.{bytes_eq}
use Rattle.json.specs.Print.{escape_byte}
use Rattle.std.proofs.lemmas.Slice.Eq.{bytes_eq-Decides}
use Rattle.std.proofs.lemmas.Bool.{false≢true}
use Rattle.rb_packages.specs.App.{app_of}
use Rattle.rb_packages.specs.Packages.{Files, files_of}
use Rattle.rb_packages.specs.declared.app.AppFault.{AppFault}
use Rattle.rb_engine.specs.Ask.{Call}
use Rattle.rb_engine.specs.Answer.{Start, Response, Replies}
use Rattle.rb_engine.specs.History.{AsksOne}
use Rattle.rb_engine.specs.Kept.{Kept, state_of}
use Rattle.rb_engine.specs.declared.request.Reply.TheVariants.{Done}
use Rattle.rb_engine.proofs.StepLemmas.{app_is}
use Rattle.rb_requests.specs.History.{was_one_too_many}
use Rattle.rb_requests.specs.Steps.{Outcome, Answers, Refuses, CallIsJudged}
use Rattle.rb_requests.specs.declared.limits.Refusal.TheVariants.{BundleTooLong, OverQuota, TooManyApps, TooManySteps}
use Rattle.rb_requests.proofs.Histories.{IsSame, calls_same}
use Rattle.rb_requests.specs.Asked.{call_of, data_of}
use Rattle.rb_requests.specs.Lines.{RepliesBy}
use Rattle.rb_requests.specs.Isolation.{Question, Calls, AsksUsage, asker, question_in, question_of, with_turn, turns_of, is_shared, shared, asked, AreLinesIsolatedWithin}
use Rattle.rb_requests.specs.Within.{AnswersRead, LineReplyWithin, asked_usage, usage_in, error_line, outcome_line, usage_reply}
use Rattle.rb_requests.proofs.Counted.{usage_line}
use Rattle.rb_requests.specs.declared.limits.Limits.{Limits}

-- ---- what a line comes to

-- a question that is read is answered so
abbrev IsAnswered : Limits → Kept → Question → List ℕ → Kept → Type 0
IsAnswered limits old (Calls call) reply new =
    (outcome : Outcome) × CallIsJudged limits old call outcome new × (reply ≡ outcome_line limits outcome)
IsAnswered limits old (AsksUsage app) reply new = (reply ≡ usage_reply old (app_of app)) × (new ≡ old)

-- or memory runs out for it
abbrev Turns : Limits → Kept → Question → List ℕ → Kept → Type 0
Turns limits old q reply new = IsAnswered limits old q reply new ⊎ ((reply ≡ error_line (codes "Memory")) × (new ≡ old))

-- a line asks nothing and changes nothing, or it is a turn
abbrev LineTurns : Limits → Kept → Option Question → List ℕ → Kept → Type 0
LineTurns limits old asked reply new = ((asked ≡ None) × (new ≡ old)) ⊎ ((q : Question) × (asked ≡ Some q) × Turns limits old q reply new)

read_turns : (limits : Limits) (s mid : Kept) (reply : List ℕ) (call : Option Call) (usage : Option (List ℕ))
    → AnswersRead limits s call usage reply mid → LineTurns limits s (question_in call usage) reply mid
read_turns limits s mid reply (Some call) usage h = inr (Calls call, refl, inl h)
read_turns limits s mid reply None (Some app) h = inr (AsksUsage app, refl, inl h)
read_turns limits s mid reply None None h = inl (refl, h.1)

out_turns : (limits : Limits) (s mid : Kept) (reply : List ℕ) (asked : Option Question) → reply ≡ error_line (codes "Memory") → mid ≡ s
    → LineTurns limits s asked reply mid
out_turns limits s mid reply None m same = inl (refl, same)
out_turns limits s mid reply (Some q) m same = inr (q, refl, inr (m, same))

line_turns : (limits : Limits) (s mid : Kept) (line reply : List ℕ) → LineReplyWithin limits s line reply mid
    → LineTurns limits s (question_of limits line) reply mid
line_turns limits s mid line reply (inl (long, told, same)) = inl (rw long refl, same)
line_turns limits s mid line reply (inr (short, inl read)) =
    let usage = asked_usage limits (option_and_then usage_in (data_of line)) in
    let asked : question_of limits line ≡ question_in (call_of line) usage = rw short refl in
    subst (λ (o : Option Question). LineTurns limits s o reply mid) (sym asked) (read_turns limits s mid reply (call_of line) usage read)
line_turns limits s mid line reply (inr (short, inr (keeps, told, same))) = out_turns limits s mid reply (question_of limits line) told same

turn_start : (limits : Limits) (k k' : Kept) (q : Question) (reply : List ℕ) → Turns limits k q reply k' → (state_of k').start ≡ (state_of k).start
turn_start limits k k' (Calls call) reply (inl (o, (x, brings, inl p), e)) = ap (λ (z : Kept). (state_of z).start) p.same
turn_start limits k k' (Calls call) reply (inl (o, (x, brings, inr p), e)) = p.answered.start
turn_start limits k k' (AsksUsage app) reply (inl (e, same)) = ap (λ (z : Kept). (state_of z).start) same
turn_start limits k k' q reply (inr (m, same)) = ap (λ (z : Kept). (state_of z).start) same

turn_others : (limits : Limits) (k k' : Kept) (q : Question) (reply app : List ℕ) → Turns limits k q reply k' → app ≢ asker q
    → files_of app k'.packages ≡ files_of app k.packages
turn_others limits k k' (Calls call) reply app (inl (o, (x, brings, inl p), e)) n = ap (λ (z : Kept). files_of app z.packages) p.same
turn_others limits k k' (Calls call) reply app (inl (o, (x, brings, inr p), e)) n = p.others app n
turn_others limits k k' (AsksUsage a) reply app (inl (e, same)) n = ap (λ (z : Kept). files_of app z.packages) same
turn_others limits k k' q reply app (inr (m, same)) n = ap (λ (z : Kept). files_of app z.packages) same

-- ---- one turn from two states that are the same to its application

same_shared : (p q : Bool) (a b : List ℕ) → cond p (Some a) None ≡ cond q (Some b) None → (p ≡ q) × (p ≡ true → a ≡ b)
same_shared true true a b h = (refl, λ e. cc)
same_shared true false a b h = absurd cc
same_shared false true a b h = absurd cc
same_shared false false a b h = (refl, λ e. absurd (false≢true e))

equal_bytes : (a : List ℕ) → bytes_eq a a ≡ true
equal_bytes a = (bytes_eq-Decides a a).1 refl

memory_shared : (a : List ℕ) → a ≡ error_line (codes "Memory") → is_shared a ≡ true
memory_shared a h = ap is_shared h ∙ rw (equal_bytes (error_line (codes "Memory"))) refl

right_true : (p q : Bool) → q ≡ true → (p || q) ≡ true
right_true true q h = refl
right_true false q h = h

apps_shared : (a : List ℕ) → a ≡ error_line (codes "TooManyApps") → is_shared a ≡ true
apps_shared a h = right_true _ _ (ap (λ (x : List ℕ). bytes_eq x (error_line (codes "TooManyApps"))) h ∙ equal_bytes (error_line (codes "TooManyApps")))

done_alone : (limits : Limits) → is_shared (outcome_line limits (Answers (Replies Done))) ≡ false
unfolding escape_byte
done_alone limits = refl

-- only what is done changes anything
shared_keeps : (limits : Limits) (k k' : Kept) (q : Question) (reply : List ℕ) → IsAnswered limits k q reply k' → is_shared reply ≡ true → k' ≡ k
shared_keeps limits k k' (Calls call) reply (o, (x, brings, inl p), e) s = p.same
shared_keeps limits k k' (Calls call) reply (o, (x, brings, inr p), e) s =
    p.kept (λ done.
    let told : reply ≡ outcome_line limits (Answers (Replies Done)) =
    e ∙ ap (outcome_line limits) (p.answer ∙ ap (λ (r : Response). Answers r) done) in
    false≢true (sym (done_alone limits) ∙ sym (ap is_shared told) ∙ s))
shared_keeps limits k k' (AsksUsage app) reply (e, same) s = same

not_too_many : (limits : Limits) (o : Outcome) (reply : List ℕ) → reply ≡ outcome_line limits o → is_shared reply ≡ false → was_one_too_many o ≡ false
not_too_many limits (Answers response) reply e s = refl
not_too_many limits (Refuses TooManyApps) reply e s = absurd (false≢true (sym s ∙ apps_shared reply e))
not_too_many limits (Refuses BundleTooLong) reply e s = refl
not_too_many limits (Refuses OverQuota) reply e s = refl
not_too_many limits (Refuses TooManySteps) reply e s = refl

record TurnsSame (app a b : List ℕ) (k l : Kept) : Type 0 where
  reply : a ≡ b
  files : files_of app k.packages ≡ files_of app l.packages

kept_same : (app a b : List ℕ) (k k' l l' : Kept) → files_of app k.packages ≡ files_of app l.packages → a ≡ b → k' ≡ k → l' ≡ l
    → TurnsSame app a b k' l'
kept_same app a b k k' l l' h e p q = record {
  reply = e;
  files = ap (λ (x : Kept). files_of app x.packages) p ∙ h ∙ ap (λ (x : Kept). files_of app x.packages) (sym q);
}

usage_same : (k l : Kept) (app : List ℕ) (r : Result (List ℕ) AppFault) → ((a : List ℕ) → r ≡ Ok a → a ≡ app)
    → files_of app k.packages ≡ files_of app l.packages → usage_reply k r ≡ usage_reply l r
usage_same k l app (Err e) is h = refl
usage_same k l app (Ok a) is h = ap usage_line (subst (λ (x : List ℕ). files_of x k.packages ≡ files_of x l.packages) (sym (is a refl)) h)

answers_same : AsksOne → (limits : Limits) (k k' l l' : Kept) (q : Question) (a b : List ℕ) → IsSame (asker q) k l
    → IsAnswered limits k q a k' → IsAnswered limits l q b l' → is_shared a ≡ false → is_shared b ≡ false → TurnsSame (asker q) a b k' l'
answers_same one limits k k' l l' (Calls call) a b h (o, p, e) (u, r, f) s t =
    let flag = not_too_many limits o a e s ∙ sym (not_too_many limits u b f t) in
    let same = calls_same one limits k k' l l' call o u h p r flag in
    record { reply = e ∙ ap (outcome_line limits) same.outcome ∙ sym f; files = same.files }
answers_same one limits k k' l l' (AsksUsage app) a b h (e, p) (f, r) s t =
    kept_same app a b k k' l l' h.files (e ∙ usage_same k l app (app_of app) (app_is app) h.files ∙ sym f) p r

turn_same : AsksOne → (limits : Limits) (k k' l l' : Kept) (q : Question) (a b : List ℕ) → IsSame (asker q) k l
    → Turns limits k q a k' → Turns limits l q b l' → shared a ≡ shared b → TurnsSame (asker q) a b k' l'
turn_same one limits k k' l l' q a b h (inr (m, p)) (inr (n, r)) s = kept_same (asker q) a b k k' l l' h.files (m ∙ sym n) p r
turn_same one limits k k' l l' q a b h (inr (m, p)) (inl g) s =
    let same = same_shared (is_shared a) (is_shared b) a b s in
    let out = memory_shared a m in
    kept_same (asker q) a b k k' l l' h.files (same.1 out) p (shared_keeps limits l l' q b g (sym same.0 ∙ out))
turn_same one limits k k' l l' q a b h (inl f) (inr (n, r)) s =
    let same = same_shared (is_shared a) (is_shared b) a b s in
    let out = same.0 ∙ memory_shared b n in
    kept_same (asker q) a b k k' l l' h.files (same.1 out) (shared_keeps limits k k' q a f out) r
turn_same one limits k k' l l' q a b h (inl f) (inl g) s = by (is_shared a) refl
  where
    by : (x : Bool) → is_shared a ≡ x → TurnsSame (asker q) a b k' l'
    by true e =
        let same = same_shared (is_shared a) (is_shared b) a b s in
        kept_same (asker q) a b k k' l l' h.files (same.1 e) (shared_keeps limits k k' q a f e) (shared_keeps limits l l' q b g (sym same.0 ∙ e))
    by false e =
        let same = same_shared (is_shared a) (is_shared b) a b s in
        answers_same one limits k k' l l' q a b h f g e (sym same.0 ∙ e)

-- ---- an application's own turns, each from a state with the files that the one before it left

abbrev Comes : Limits → List ℕ → Start → Files → Files → List (Question × List ℕ) → Type 0
Comes limits app start files last [] = files ≡ last
Comes limits app start files last (turn ∷ turns) =
    (k k' : Kept) × (asker turn.0 ≡ app) × ((state_of k).start ≡ start) × (files_of app k.packages ≡ files)
    × Turns limits k turn.0 turn.1 k' × Comes limits app start (files_of app k'.packages) last turns

moved : (limits : Limits) (app : List ℕ) (last : Files) (turns : List (Question × List ℕ)) (s t : Start) (x y : Files) → s ≡ t → x ≡ y
    → Comes limits app s x last turns → Comes limits app t y last turns
moved limits app last turns s t x y e f h =
    subst (λ (z : Files). Comes limits app t z last turns) f (subst (λ (z : Start). Comes limits app z x last turns) e h)

one_turn : (limits : Limits) (app : List ℕ) (last : Files) (s mid : Kept) (q : Question) (reply : List ℕ) (turns : List (Question × List ℕ)) (b : Bool)
    → bytes_eq (asker q) app ≡ b → Turns limits s q reply mid → Comes limits app (state_of mid).start (files_of app mid.packages) last turns
    → Comes limits app (state_of s).start (files_of app s.packages) last (with_turn app (Some q) reply turns)
one_turn limits app last s mid q reply turns true e turn later =
    let own : asker q ≡ app = (bytes_eq-Decides (asker q) app).0 e in
    let start = turn_start limits s mid q reply turn in
    rw e (s, mid, own, refl, refl, turn, moved limits app last turns _ _ _ _ start refl later)
one_turn limits app last s mid q reply turns false e turn later =
    let other : app ≢ asker q = λ h. false≢true (sym e ∙ (bytes_eq-Decides (asker q) app).1 (sym h)) in
    let start = turn_start limits s mid q reply turn in
    let files = turn_others limits s mid q reply app turn other in
    rw e (moved limits app last turns _ _ _ _ start files later)

one_line : (limits : Limits) (app : List ℕ) (last : Files) (s mid : Kept) (asked : Option Question) (reply : List ℕ) (turns : List (Question × List ℕ))
    → LineTurns limits s asked reply mid → Comes limits app (state_of mid).start (files_of app mid.packages) last turns
    → Comes limits app (state_of s).start (files_of app s.packages) last (with_turn app asked reply turns)
one_line limits app last s mid asked reply turns (inl (none, same)) later =
    rw none (moved limits app last turns _ _ _ _ (ap (λ (z : Kept). (state_of z).start) same) (ap (λ (z : Kept). files_of app z.packages) same) later)
one_line limits app last s mid asked reply turns (inr (q, is, turn)) later =
    rw is (one_turn limits app last s mid q reply turns (bytes_eq (asker q) app) refl turn later)

run_comes : (limits : Limits) (app : List ℕ) (s end : Kept) (lines replies : List (List ℕ)) → RepliesBy (LineReplyWithin limits) s lines replies end
    → Comes limits app (state_of s).start (files_of app s.packages) (files_of app end.packages) (turns_of limits app lines replies)
run_comes limits app s end [] [] r = ap (λ (z : Kept). files_of app z.packages) (sym r)
run_comes limits app s end [] (reply ∷ more) r = absurd r
run_comes limits app s end (line ∷ rest) [] r = absurd r
run_comes limits app s end (line ∷ rest) (reply ∷ more) (mid, h, r) =
    one_line limits app (files_of app end.packages) s mid (question_of limits line) reply (turns_of limits app rest more)
    (line_turns limits s mid line reply h) (run_comes limits app mid end rest more r)

abbrev Asked : Type 0
Asked = Question × Option (List ℕ)

turns_same : AsksOne → (limits : Limits) (app : List ℕ) (start : Start) (files files' last last' : Files) (first second : List (Question × List ℕ))
    → files ≡ files' → Comes limits app start files last first → Comes limits app start files' last' second → map asked first ≡ map asked second
    → (first ≡ second) × (last ≡ last')
turns_same one limits app start files files' last last' [] [] f x y e = (refl, sym x ∙ f ∙ y)
turns_same one limits app start files files' last last' [] (u ∷ us) f x y e = cc
turns_same one limits app start files files' last last' (t ∷ ts) [] f x y e = cc
turns_same one limits app start files files' last last' ((p, a) ∷ ts) ((q, b) ∷ us) f (k, k', own, s, w, turn, later) (l, l', own', s', w', turn', later') e =
    let same : asked (p, a) ≡ asked (q, b) = cc in
    let rest : map asked ts ≡ map asked us = cc in
    let question : q ≡ p = sym (ap (λ (x : Asked). x.0) same) in
    let out : shared a ≡ shared b = ap (λ (x : Asked). x.1) same in
    let other = subst (λ (x : Question). Turns limits l x b l') question turn' in
    let begun : IsSame (asker p) k l = record {
      start = s ∙ sym s';
      files = subst (λ (x : List ℕ). files_of x k.packages ≡ files_of x l.packages) (sym own) (w ∙ f ∙ sym w');
    } in
    let done = turn_same one limits k k' l l' p a b begun turn other out in
    let left = subst (λ (x : List ℕ). files_of x k'.packages ≡ files_of x l'.packages) own done.files in
    let more = turns_same one limits app start (files_of app k'.packages) (files_of app l'.packages) last last' ts us left later later' rest in (
      ap (λ (x : List ℕ). (p, x) ∷ ts) done.reply ∙ ap (λ (x : Question). (x, b) ∷ ts) (sym question) ∙ ap (λ xs. (q, b) ∷ xs) more.0,
      more.1,
    )

pub limited_lines : AsksOne → AreLinesIsolatedWithin
limited_lines one limits app s t end end' first second replies replies' start files p q same =
    turns_same one limits app (state_of t).start (files_of app s.packages) (files_of app t.packages) (files_of app end.packages)
    (files_of app end'.packages) (turns_of limits app first replies) (turns_of limits app second replies') files
    (moved limits app (files_of app end.packages) (turns_of limits app first replies) _ _ _ _ start refl (run_comes limits app s end first replies p))
    (run_comes limits app t end' second replies' q) same
