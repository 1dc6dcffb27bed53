-- Histories under limits, as one application sees them.
use Rattle.std.proofs.Common.{◌≡◌, ◌≢◌, ◌⊎◌, ◌+◌, ◌&&◌, ℕ, inl, inr, Bool, true, false, not, cond, eqb, List, [], ◌∷◌, length, map, Option, Some, None}
use Rattle.std.proofs.Common.{Result, Ok, Err, refl, sym, ◌∙◌, ap, subst}
use Rattle.std.specs.Prelude.{MatchBool}
use Rattle.std.specs.Str.{bytes_eq}
use Rattle.std.proofs.lemmas.Slice.Eq.{bytes_eq-Decides}
use Rattle.std.proofs.lemmas.Bool.{false≢true}
use Rattle.rb_format.specs.File.{source_tree_of}
use Rattle.rb_engine.proofs.OneFile.{one_compiled}
use Rattle.rb_packages.specs.Packages.{Files, files_of, list_of, shelf_of}
use Rattle.rb_packages.specs.Usage.{apps_of}
use Rattle.rb_engine.specs.Ask.{Call, Requests, LooksUp, Ask, caller}
use Rattle.rb_engine.specs.Answer.{Start, Response, answer_over}
use Rattle.rb_engine.specs.Change.{IsFileOf}
use Rattle.rb_engine.specs.History.{AsksOne}
use Rattle.rb_engine.specs.Kept.{Kept, state_of}
use Rattle.rb_engine.specs.Place.{place_of}
use Rattle.rb_engine.specs.declared.handle.Change.{Change}
use Rattle.rb_engine.specs.declared.handle.Change.TheVariants as made
use Rattle.rb_engine.specs.declared.place.Place.{Place}
use Rattle.rb_engine.specs.declared.request.Payload.{Payload}
use Rattle.rb_engine.specs.declared.request.Payload.TheVariants.{Text, File}
use Rattle.rb_engine.specs.declared.request.Request.TheVariants as request
use Rattle.rb_engine.proofs.StepLemmas.{app-place_of}
use Rattle.rb_requests.specs.Limits.{is_over, payload_len, len_at, takes_place, file_refusal, incoming_refusal, change_refusal, steps_refusal, call_refusal}
use Rattle.rb_requests.specs.Steps.{Outcome, Answers, Refuses, Brings, BringsAt, CallBrings, Starves, IsRefused, IsAnswered, IsJudged, CallIsJudged, CallComesTo, files_then}
use Rattle.rb_requests.specs.History.{Turn, Run, turns_of, ran_out_of_memory, was_one_too_many, IsIsolatedWithin}
use Rattle.rb_requests.specs.declared.limits.Limits.{Limits}
use Rattle.rb_requests.proofs.Counted.{used_with}
use Rattle.rb_requests.specs.declared.limits.Refusal.{Refusal}
use Rattle.rb_requests.specs.declared.limits.Refusal.TheVariants.{BundleTooLong, OverQuota, TooManyApps, TooManySteps}

-- ---- a call has at most one file

one_file : (payload : Payload) (file other : List ℕ) → IsFileOf payload file → IsFileOf payload other → file ≡ other
one_file (Text bytes) file other f g = one_compiled bytes file other f g
one_file (File bytes) file other f g = f ∙ sym g

one_incoming : (payload : Payload) (a b : Option (List ℕ)) → Brings payload a → Brings payload b → a ≡ b
one_incoming payload None None f g = refl
one_incoming payload None (Some other) f g = absurd (f (source_tree_of other) g.0)
one_incoming payload (Some file) None f g = absurd (g (source_tree_of file) f.0)
one_incoming payload (Some file) (Some other) f g = ap (λ (x : List ℕ). Some x) (one_file payload file other f.1 g.1)

one_if_read : (long : Bool) (payload : Payload) (a b : Option (List ℕ)) → MatchBool long (a ≡ None) (Brings payload a)
    → MatchBool long (b ≡ None) (Brings payload b) → a ≡ b
one_if_read true payload a b f g = f ∙ sym g
one_if_read false payload a b f g = one_incoming payload a b f g

one_at : {E : Type 0} (limits : Limits) (r : Result Place E) (payload : Payload) (a b : Option (List ℕ)) → BringsAt limits r payload a
    → BringsAt limits r payload b → a ≡ b
one_at limits (Err e) payload a b f g = f ∙ sym g
one_at limits (Ok p) payload a b f g = one_if_read (is_over limits.bundle_bytes (payload_len payload)) payload a b f g

one_of_call : (limits : Limits) (call : Call) (a b : Option (List ℕ)) → CallBrings limits call a → CallBrings limits call b → a ≡ b
one_of_call limits (Requests (request.Install app locale payload)) a b f g = one_at limits (place_of app locale) payload a b f g
one_of_call limits (Requests (request.Replace app locale payload)) a b f g = one_at limits (place_of app locale) payload a b f g
one_of_call limits (Requests (request.Remove app locale)) a b f g = f ∙ sym g
one_of_call limits (Requests (request.List app)) a b f g = f ∙ sym g
one_of_call limits (LooksUp app locale path) a b f g = f ∙ sym g

-- ---- one call from two states that are the same to its caller

-- two states with the same start, and with the same files of one application
pub record IsSame (app : List ℕ) (k l : Kept) : Type 0 where
  pub start : (state_of k).start ≡ (state_of l).start
  pub files : files_of app k.packages ≡ files_of app l.packages

-- two judgements that are equal, except for the number of applications
abbrev Agree : Option Refusal → Option Refusal → Type 0
Agree x y = (x ≡ y) ⊎ ((x ≡ Some TooManyApps) ⊎ (y ≡ Some TooManyApps))

-- the refusals of a file in their order, where the number of applications is over the limit or isn't
abbrev in_order : (takes long much empty over : Bool) → Option Refusal
in_order takes long much empty over =
    cond (not takes) None (cond long (Some BundleTooLong) (cond much (Some OverQuota) (cond (empty && over) (Some TooManyApps) None)))

orders_agree : (takes long much empty m n : Bool) → Agree (in_order takes long much empty m) (in_order takes long much empty n)
orders_agree false long much empty m n = inl refl
orders_agree true true much empty m n = inl refl
orders_agree true false true empty m n = inl refl
orders_agree true false false false m n = inl refl
orders_agree true false false true true n = inr (inl refl)
orders_agree true false false true false true = inr (inr refl)
orders_agree true false false true false false = inl refl

files_agree : (limits : Limits) (change : Change) (name : List ℕ) (files : Files) (a b : ℕ) (file : List ℕ)
    → Agree (file_refusal limits change name files a file) (file_refusal limits change name files b file)
files_agree limits change name files a b file =
    orders_agree (takes_place change (len_at name files) (length files)) (is_over limits.bundle_bytes (length file))
    (is_over limits.app_bytes (used_with name files (length file))) (eqb (length files) 0) (is_over limits.apps (a + 1)) (is_over limits.apps (b + 1))

incoming_agree : (limits : Limits) (k l : Kept) (change : Change) (p : Place) (incoming : Option (List ℕ))
    → files_of p.app k.packages ≡ files_of p.app l.packages
    → Agree (incoming_refusal limits k change p incoming) (incoming_refusal limits l change p incoming)
incoming_agree limits k l change p None e = inl refl
incoming_agree limits k l change p (Some file) e =
    subst (λ (files : Files). Agree (file_refusal limits change p.name (files_of p.app k.packages) (apps_of k.packages) file)
    (file_refusal limits change p.name files (apps_of l.packages) file)) e
    (files_agree limits change p.name (files_of p.app k.packages) (apps_of k.packages) (apps_of l.packages) file)

long_agree : (long : Bool) (x y : Option Refusal) → Agree x y → Agree (cond long (Some BundleTooLong) x) (cond long (Some BundleTooLong) y)
long_agree true x y h = inl refl
long_agree false x y h = h

-- what holds of an application holds of that of its place
at_app : (app locale : List ℕ) (Holds : List ℕ → Type 0) → Holds app → (p : Place) → place_of app locale ≡ Ok p → Holds p.app
at_app app locale Holds h p is = subst Holds (sym (app-place_of app locale p is)) h

change_agree : {E : Type 0} (limits : Limits) (k l : Kept) (change : Change) (r : Result Place E) (payload : Payload) (incoming : Option (List ℕ))
    → ((p : Place) → r ≡ Ok p → files_of p.app k.packages ≡ files_of p.app l.packages)
    → Agree (change_refusal limits k change r payload incoming) (change_refusal limits l change r payload incoming)
change_agree limits k l change (Err e) payload incoming h = inl refl
change_agree limits k l change (Ok p) payload incoming h =
    long_agree (is_over limits.bundle_bytes (payload_len payload)) (incoming_refusal limits k change p incoming) (incoming_refusal limits l change p incoming)
    (incoming_agree limits k l change p incoming (h p refl))

refusals_agree : (limits : Limits) (k l : Kept) (call : Call) (incoming : Option (List ℕ)) → IsSame (caller call) k l
    → Agree (call_refusal limits k call incoming) (call_refusal limits l call incoming)
refusals_agree limits k l (Requests (request.Install app locale payload)) incoming h =
    change_agree limits k l made.Install (place_of app locale) payload incoming
    (at_app app locale (λ a. files_of a k.packages ≡ files_of a l.packages) h.files)
refusals_agree limits k l (Requests (request.Replace app locale payload)) incoming h =
    change_agree limits k l made.Replace (place_of app locale) payload incoming
    (at_app app locale (λ a. files_of a k.packages ≡ files_of a l.packages) h.files)
refusals_agree limits k l (Requests (request.Remove app locale)) incoming h = inl refl
refusals_agree limits k l (Requests (request.List app)) incoming h = inl refl
refusals_agree limits k l (LooksUp app locale path) incoming h = inl (
    ap (λ (start : Start). steps_refusal limits.steps start (list_of app k.packages) app locale path) h.start
    ∙ ap (λ files. steps_refusal limits.steps (state_of l).start (shelf_of files) app locale path) h.files
    )

-- equal outcomes, and equal files of the caller after them
pub record ComesToSame (app : List ℕ) (a b : Outcome) (k l : Kept) : Type 0 where
  pub outcome : a ≡ b
  pub files : files_of app k.packages ≡ files_of app l.packages

too_many : (r : Refusal) → was_one_too_many (Refuses r) ≡ true → r ≡ TooManyApps
too_many BundleTooLong h = absurd (false≢true h)
too_many OverQuota h = absurd (false≢true h)
too_many TooManyApps h = refl
too_many TooManySteps h = absurd (false≢true h)

-- one application too many
too_many_flag : (limits : Limits) (k : Kept) (call : Call) (incoming : Option (List ℕ)) (o : Outcome) (k' : Kept) (p : IsRefused limits k call incoming o k')
    → call_refusal limits k call incoming ≡ Some TooManyApps → was_one_too_many o ≡ true
too_many_flag limits k call incoming o k' p h =
    let e : Some p.refusal ≡ Some TooManyApps = sym p.refused ∙ h in
    let r : p.refusal ≡ TooManyApps = cc in
    ap was_one_too_many p.word ∙ ap (λ (x : Refusal). was_one_too_many (Refuses x)) r

refusal_is : (limits : Limits) (k : Kept) (call : Call) (incoming : Option (List ℕ)) (o : Outcome) (k' : Kept) (p : IsRefused limits k call incoming o k')
    → was_one_too_many o ≡ true → p.refusal ≡ TooManyApps
refusal_is limits k call incoming o k' p h = too_many p.refusal (sym (ap was_one_too_many p.word) ∙ h)

same_refusal : (limits : Limits) (k k' l l' : Kept) (call : Call) (incoming : Option (List ℕ)) (a b : Outcome) → IsSame (caller call) k l
    → was_one_too_many a ≡ was_one_too_many b → (p : IsRefused limits k call incoming a k') → (q : IsRefused limits l call incoming b l')
    → p.refusal ≡ q.refusal
same_refusal limits k k' l l' call incoming a b h g p q = elim (refusals_agree limits k l call incoming h) [
  | inl same ↦
      let e : Some p.refusal ≡ Some q.refusal = sym p.refused ∙ same ∙ q.refused in cc
  | inr (inl first) ↦
      let flag = too_many_flag limits k call incoming a k' p first in
      refusal_is limits k call incoming a k' p flag ∙ sym (refusal_is limits l call incoming b l' q (sym g ∙ flag))
  | inr (inr second) ↦
      let flag = too_many_flag limits l call incoming b l' q second in
      refusal_is limits k call incoming a k' p (g ∙ flag) ∙ sym (refusal_is limits l call incoming b l' q flag)
]

refusals_same : (limits : Limits) (k k' l l' : Kept) (call : Call) (incoming : Option (List ℕ)) (a b : Outcome) → IsSame (caller call) k l
    → was_one_too_many a ≡ was_one_too_many b → IsRefused limits k call incoming a k' → IsRefused limits l call incoming b l'
    → ComesToSame (caller call) a b k' l'
refusals_same limits k k' l l' call incoming a b h g p q = record {
  outcome = p.word ∙ ap Refuses (same_refusal limits k k' l l' call incoming a b h g p q) ∙ sym q.word;
  files = ap (λ (x : Kept). files_of (caller call) x.packages) p.same ∙ h.files ∙ ap (λ (x : Kept). files_of (caller call) x.packages) (sym q.same);
}

not_both : (limits : Limits) (k k' l l' : Kept) (call : Call) (incoming : Option (List ℕ)) (a b : Outcome) → IsSame (caller call) k l
    → was_one_too_many a ≡ was_one_too_many b → IsRefused limits k call incoming a k' → IsAnswered limits l call incoming b l' → ⊥
not_both limits k k' l l' call incoming a b h g p q = elim (refusals_agree limits k l call incoming h) [
  | inl same ↦
      let e : Some p.refusal ≡ None = sym p.refused ∙ same ∙ q.free in cc
  | inr (inl first) ↦
      false≢true (sym (ap was_one_too_many q.answer) ∙ sym g ∙ too_many_flag limits k call incoming a k' p first)
  | inr (inr second) ↦
      let e : None ≡ Some TooManyApps = sym q.free ∙ second in cc
]

-- the answer over some files
abbrev answer_by : Start → Files → Ask → Response
answer_by start files ask = answer_over start (shelf_of files) ask

answers_same : AsksOne → (limits : Limits) (k k' l l' : Kept) (call : Call) (incoming : Option (List ℕ)) (a b : Outcome)
    → IsSame (caller call) k l → IsAnswered limits k call incoming a k' → IsAnswered limits l call incoming b l' → ComesToSame (caller call) a b k' l'
answers_same one limits k k' l l' call incoming a b h p q =
    let app = caller call in
    let ask : p.answered.ask ≡ q.answered.ask = one call p.answered.ask q.answered.ask p.answered.means q.answered.means in
    let same : p.response ≡ q.response =
    p.answered.right
    ∙ ap (λ (s : Start). answer_by s (files_of app k.packages) p.answered.ask) h.start
    ∙ ap (λ files. answer_by (state_of l).start files p.answered.ask) h.files
    ∙ ap (λ (x : Ask). answer_by (state_of l).start (files_of app l.packages) x) ask
    ∙ sym q.answered.right in
    record {
      outcome = p.answer ∙ ap Answers same ∙ sym q.answer;
      files = p.own ∙ ap (λ (r : Response). files_then call incoming r (files_of app k.packages)) same
          ∙ ap (files_then call incoming q.response) h.files ∙ sym q.own;
    }

starves_flag : (limits : Limits) (k : Kept) (call : Call) (o : Outcome) (k' : Kept) → Starves limits k call o k' → ran_out_of_memory o ≡ true
starves_flag limits k call o k' h = ap ran_out_of_memory h.memory

judged_flag : (limits : Limits) (k : Kept) (call : Call) (incoming : Option (List ℕ)) (o : Outcome) (k' : Kept) → IsJudged limits k call incoming o k'
    → ran_out_of_memory o ≡ false
judged_flag limits k call incoming o k' (inl h) = ap ran_out_of_memory h.word
judged_flag limits k call incoming o k' (inr h) = ap ran_out_of_memory h.answer ∙ h.told

judged_same : AsksOne → (limits : Limits) (k k' l l' : Kept) (call : Call) (incoming : Option (List ℕ)) (a b : Outcome)
    → IsSame (caller call) k l → IsJudged limits k call incoming a k' → IsJudged limits l call incoming b l'
    → was_one_too_many a ≡ was_one_too_many b → ComesToSame (caller call) a b k' l'
judged_same one limits k k' l l' call incoming a b h (inl p) (inl q) g = refusals_same limits k k' l l' call incoming a b h g p q
judged_same one limits k k' l l' call incoming a b h (inl p) (inr q) g = absurd (not_both limits k k' l l' call incoming a b h g p q)
judged_same one limits k k' l l' call incoming a b h (inr p) (inl q) g =
    absurd (not_both limits l l' k k' call incoming b a (record { start = sym h.start; files = sym h.files }) (sym g) q p)
judged_same one limits k k' l l' call incoming a b h (inr p) (inr q) g = answers_same one limits k k' l l' call incoming a b h p q

-- judged calls, each with its own file, come to equal answers
pub calls_same : AsksOne → (limits : Limits) (k k' l l' : Kept) (call : Call) (a b : Outcome)
    → IsSame (caller call) k l → CallIsJudged limits k call a k' → CallIsJudged limits l call b l'
    → was_one_too_many a ≡ was_one_too_many b → ComesToSame (caller call) a b k' l'
calls_same one limits k k' l l' call a b h (x, brings, p) (y, brings', q) g =
    judged_same one limits k k' l l' call x a b h p
    (subst (λ (z : Option (List ℕ)). IsJudged limits l call z b l') (one_of_call limits call y x brings' brings) q) g

step_same : AsksOne → (limits : Limits) (k k' l l' : Kept) (call : Call) (a b : Outcome)
    → IsSame (caller call) k l → CallComesTo limits k call a k' → CallComesTo limits l call b l'
    → ran_out_of_memory a ≡ ran_out_of_memory b → was_one_too_many a ≡ was_one_too_many b → ComesToSame (caller call) a b k' l'
step_same one limits k k' l l' call a b h (inl p) (inl q) f g = record {
  outcome = p.memory ∙ sym q.memory;
  files = ap (λ (x : Kept). files_of (caller call) x.packages) p.same ∙ h.files ∙ ap (λ (x : Kept). files_of (caller call) x.packages) (sym q.same);
}
step_same one limits k k' l l' call a b h (inl p) (inr (x, brings, q)) f g =
    absurd (false≢true (sym (judged_flag limits l call x b l' q) ∙ sym f ∙ starves_flag limits k call a k' p))
step_same one limits k k' l l' call a b h (inr (x, brings, p)) (inl q) f g =
    absurd (false≢true (sym (judged_flag limits k call x a k' p) ∙ f ∙ starves_flag limits l call b l' q))
step_same one limits k k' l l' call a b h (inr p) (inr q) f g = calls_same one limits k k' l l' call a b h p q g

-- ---- an application's own turns, each a step from a state with the files that the one before it left

abbrev Comes : Limits → List ℕ → Start → Files → Files → List Turn → Type 0
Comes limits app start files last [] = files ≡ last
Comes limits app start files last (turn ∷ turns) =
    (k k' : Kept) × (caller turn.call ≡ app) × ((state_of k).start ≡ start) × (files_of app k.packages ≡ files)
    × CallComesTo limits k turn.call turn.outcome k' × Comes limits app start (files_of app k'.packages) last turns

moved : (limits : Limits) (app : List ℕ) (last : Files) (turns : List Turn) (s t : Start) (x y : Files) → s ≡ t → x ≡ y
    → Comes limits app s x last turns → Comes limits app t y last turns
moved limits app last turns s t x y e f h =
    subst (λ (z : Files). Comes limits app t z last turns) f (subst (λ (z : Start). Comes limits app z x last turns) e h)

step_start : (limits : Limits) (k k' : Kept) (call : Call) (o : Outcome) → CallComesTo limits k call o k' → (state_of k').start ≡ (state_of k).start
step_start limits k k' call o (inl p) = ap (λ (z : Kept). (state_of z).start) p.same
step_start limits k k' call o (inr (x, y, inl p)) = ap (λ (z : Kept). (state_of z).start) p.same
step_start limits k k' call o (inr (x, y, inr p)) = p.answered.start

step_others : (limits : Limits) (k k' : Kept) (call : Call) (o : Outcome) (app : List ℕ) → CallComesTo limits k call o k' → app ≢ caller call
    → files_of app k'.packages ≡ files_of app k.packages
step_others limits k k' call o app (inl p) n = ap (λ (z : Kept). files_of app z.packages) p.same
step_others limits k k' call o app (inr (x, y, inl p)) n = ap (λ (z : Kept). files_of app z.packages) p.same
step_others limits k k' call o app (inr (x, y, inr p)) n = p.others app n

one_turn : (limits : Limits) (app : List ℕ) (last : Files) (s mid : Kept) (turn : Turn) (rest : List Turn) (b : Bool)
    → bytes_eq (caller turn.call) app ≡ b → CallComesTo limits s turn.call turn.outcome mid
    → Comes limits app (state_of mid).start (files_of app mid.packages) last (turns_of app rest)
    → Comes limits app (state_of s).start (files_of app s.packages) last (turns_of app (turn ∷ rest))
one_turn limits app last s mid turn rest true e step later =
    let own : caller turn.call ≡ app = (bytes_eq-Decides (caller turn.call) app).0 e in
    let start = step_start limits s mid turn.call turn.outcome step in
    rw e (s, mid, own, refl, refl, step, moved limits app last (turns_of app rest) _ _ _ _ start refl later)
one_turn limits app last s mid turn rest false e step later =
    let other : app ≢ caller turn.call = λ h. false≢true (sym e ∙ (bytes_eq-Decides (caller turn.call) app).1 (sym h)) in
    let start = step_start limits s mid turn.call turn.outcome step in
    let files = step_others limits s mid turn.call turn.outcome app step other in
    rw e (moved limits app last (turns_of app rest) _ _ _ _ start files later)

run_comes : (limits : Limits) (app : List ℕ) (s end : Kept) (history : List Turn) → Run limits s history end
    → Comes limits app (state_of s).start (files_of app s.packages) (files_of app end.packages) (turns_of app history)
run_comes limits app s end [] r = ap (λ (z : Kept). files_of app z.packages) (sym r)
run_comes limits app s end (turn ∷ rest) (mid, step, r) =
    one_turn limits app (files_of app end.packages) s mid turn rest (bytes_eq (caller turn.call) app) refl step (run_comes limits app mid end rest r)

abbrev Asked : Type 0
Asked = Call × Bool × Bool

abbrev asked : Turn → Asked
asked turn = (turn.call, ran_out_of_memory turn.outcome, was_one_too_many turn.outcome)

abbrev outcomes : List Turn → List Outcome
outcomes turns = map (λ (t : Turn). t.outcome) turns

-- two turns that ask the same, with the rest
turns_same : AsksOne → (limits : Limits) (app : List ℕ) (start : Start) (files files' last last' : Files) (first second : List Turn)
    → files ≡ files' → Comes limits app start files last first → Comes limits app start files' last' second
    → map asked first ≡ map asked second → (outcomes first ≡ outcomes second) × (last ≡ last')
turns_same one limits app start files files' last last' [] [] f x y e = (refl, sym x ∙ f ∙ y)
turns_same one limits app start files files' last last' [] (u ∷ us) f x y e = cc
turns_same one limits app start files files' last last' (t ∷ ts) [] f x y e = cc
turns_same one limits app start files files' last last' (t ∷ ts) (u ∷ us) f (k, k', own, s, w, step, later) (l, l', own', s', w', step', later') e =
    let same : asked t ≡ asked u = cc in
    let rest : map asked ts ≡ map asked us = cc in
    let call : u.call ≡ t.call = sym (ap (λ (a : Asked). a.0) same) in
    let flag : ran_out_of_memory t.outcome ≡ ran_out_of_memory u.outcome = ap (λ (a : Asked). a.1) same in
    let many : was_one_too_many t.outcome ≡ was_one_too_many u.outcome = ap (λ (a : Asked). a.2) same in
    let other = subst (λ (c : Call). CallComesTo limits l c u.outcome l') call step' in
    let begun : IsSame (caller t.call) k l = record {
      start = s ∙ sym s';
      files = subst (λ (a : List ℕ). files_of a k.packages ≡ files_of a l.packages) (sym own) (w ∙ f ∙ sym w');
    } in
    let done = step_same one limits k k' l l' t.call t.outcome u.outcome begun step other flag many in
    let left = subst (λ (a : List ℕ). files_of a k'.packages ≡ files_of a l'.packages) own done.files in
    let more = turns_same one limits app start (files_of app k'.packages) (files_of app l'.packages) last last' ts us left later later' rest in
    (ap (λ (o : Outcome). o ∷ outcomes ts) done.outcome ∙ ap (λ os. u.outcome ∷ os) more.0, more.1)

pub isolated : AsksOne → IsIsolatedWithin
isolated one limits app s t end end' first second start files p q same =
    turns_same one limits app (state_of t).start (files_of app s.packages) (files_of app t.packages) (files_of app end.packages)
    (files_of app end'.packages) (turns_of app first) (turns_of app second) files
    (moved limits app (files_of app end.packages) (turns_of app first) _ _ _ _ start refl (run_comes limits app s end first p))
    (run_comes limits app t end' second q) same
