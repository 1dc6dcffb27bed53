-- Proves what a list of steps does to one application.
use Rattle.std.proofs.Common.{◌≡◌, ℕ, inl, inr, Bool, true, false, cond, List, [], ◌∷◌, ◌++◌, Option, Some, None, Result, Ok, Err, refl, sym, ◌∙◌, ap, subst}
use Rattle.std.specs.Str.{bytes_eq}
use Rattle.std.proofs.lemmas.Slice.Eq.{bytes_eq-Decides}
use Rattle.std.proofs.lemmas.Bool.{false≢true}
use Rattle.rb_tree.specs.SourceTree.{SourceTree}
use Rattle.rb_tree.specs.Path.{is_path, segments}
use Rattle.rb_fallback.specs.Search.{Hit, look_up, first_stop}
use Rattle.rb_fallback.specs.declared.fault.LookError.{LookError}
use Rattle.rb_parser.specs.Source.{IsGoodSource}
use Rattle.rb_packages.specs.App.{app_of}
use Rattle.rb_engine.specs.Place.{place_of}
use Rattle.rb_packages.specs.declared.app.AppFault.{AppFault}
use Rattle.rb_packages.specs.declared.app.AppFault.TheVariants as app
use Rattle.rb_engine.specs.declared.place.Place.{Place}
use Rattle.rb_engine.specs.declared.place.PlaceFault.{PlaceFault}
use Rattle.rb_engine.specs.declared.place.PlaceFault.TheVariants as place
use Rattle.rb_engine.specs.declared.request.Payload.{Payload}
use Rattle.rb_engine.specs.declared.request.Payload.TheVariants.{Text, File}
use Rattle.rb_engine.specs.declared.request.Request.{Request}
use Rattle.rb_engine.specs.declared.request.Request.TheVariants as request
use Rattle.rb_engine.specs.declared.request.Reply.{Reply}
use Rattle.rb_engine.specs.declared.request.Reply.TheVariants.{Done, Exists, Absent, Full, Memory}
use Rattle.rb_engine.specs.declared.request.LookFault.TheVariants as fault
use Rattle.rb_packages.specs.Shelf.{Shelf, bundle_at, holds, is_full}
use Rattle.rb_engine.specs.Ask.{Call, Requests, LooksUp, caller, Content, spelled, denoted, unread, IsContent, IsRead, Ask, Installs, Replaces}
use Rattle.rb_engine.specs.Ask.{Removes, Lists, Looks, Means, RequestMeans}
use Rattle.rb_engine.specs.Answer.{Start, Response, Replies, Refuses, answer_over, answer, bundles_after, bundles_after_all, refusal, add_reply}
use Rattle.rb_engine.specs.Answer.{install_reply, replace_reply, remove_reply, list_reply, lookup_at, search_response}
use Rattle.rb_engine.specs.History.{State, Turn, Step, Run, own_calls, asked_by, responses_to, EachMeans, is_memory, AsksOne, AnswersOwn, IsIsolated, new_state}

-- ---- what a call asks is one thing

-- a source is good for at most one bundle
abbrev pub SpellsOne : Type 0
SpellsOne = (bytes n m : List ℕ) (t u : SourceTree) → IsGoodSource bytes n t → IsGoodSource bytes m u → (n ≡ m) × (t ≡ u)

one_content : SpellsOne → (payload : Payload) (a b : Content) → IsContent payload a → IsContent payload b → a ≡ b
one_content one (Text bytes) unread b p q = absurd p
one_content one (Text bytes) (denoted a) b p q = absurd p
one_content one (Text bytes) (spelled a) unread p q = absurd q
one_content one (Text bytes) (spelled a) (denoted b) p q = absurd q
one_content one (File bytes) unread b p q = absurd p
one_content one (File bytes) (spelled a) b p q = absurd p
one_content one (File bytes) (denoted a) unread p q = absurd q
one_content one (File bytes) (denoted a) (spelled b) p q = absurd q
one_content one (File bytes) (denoted None) (denoted None) p q = refl
one_content one (File bytes) (denoted None) (denoted (Some u)) p q = absurd (p u q)
one_content one (File bytes) (denoted (Some t)) (denoted None) p q = absurd (q t p)
one_content one (File bytes) (denoted (Some t)) (denoted (Some u)) p q = ap denoted (sym p ∙ q)
one_content one (Text bytes) (spelled None) (spelled None) p q = refl
one_content one (Text bytes) (spelled None) (spelled (Some u)) p q = absurd (p q.0 u q.1)
one_content one (Text bytes) (spelled (Some t)) (spelled None) p q = absurd (q p.0 t p.1)
one_content one (Text bytes) (spelled (Some t)) (spelled (Some u)) p q = ap (λ x. spelled (Some x)) (one bytes p.0 q.0 t u p.1 q.1).1

one_read : SpellsOne → (r : Result Place PlaceFault) (payload : Payload) (a b : Content) → IsRead r payload a → IsRead r payload b → a ≡ b
one_read one (Err e) payload a b p q = p ∙ sym q
one_read one (Ok place) payload a b p q = one_content one payload a b p q

one_request : SpellsOne → (r : Request) (a b : Ask) → RequestMeans r a → RequestMeans r b → a ≡ b
one_request one (request.Install app locale payload) a b p q =
    p.2 ∙ ap (Installs app locale) (one_read one (place_of app locale) payload p.0 q.0 p.1 q.1) ∙ sym q.2
one_request one (request.Replace app locale payload) a b p q =
    p.2 ∙ ap (Replaces app locale) (one_read one (place_of app locale) payload p.0 q.0 p.1 q.1) ∙ sym q.2
one_request one (request.Remove app locale) a b p q = p ∙ sym q
one_request one (request.List app) a b p q = p ∙ sym q

pub asks_one : SpellsOne → AsksOne
asks_one one (Requests r) a b p q = one_request one r a b p q
asks_one one (LooksUp app locale path) a b p q = p ∙ sym q

-- ---- no answer over bundles is out of memory

refusal_not_memory : (e : PlaceFault) → is_memory (Replies (refusal e)) ≡ false
refusal_not_memory place.BadApp = refl
refusal_not_memory place.Reserved = refl
refusal_not_memory place.BadLocale = refl

chosen_not_memory : (b : Bool) (x y : Reply) → is_memory (Replies x) ≡ false → is_memory (Replies y) ≡ false → is_memory (Replies (cond b x y)) ≡ false
chosen_not_memory true x y h k = h
chosen_not_memory false x y h k = k

add_not_memory : (p : Place) (shelf : Shelf) → is_memory (Replies (add_reply p shelf)) ≡ false
add_not_memory p shelf =
    chosen_not_memory (holds p.name shelf) Exists (cond (is_full shelf) Full Done) refl (chosen_not_memory (is_full shelf) Full Done refl refl)

install_not_memory : (p : Result Place PlaceFault) (c : Content) (shelf : Shelf) → is_memory (Replies (install_reply p c shelf)) ≡ false
install_not_memory (Err e) c shelf = refusal_not_memory e
install_not_memory (Ok p) unread shelf = refl
install_not_memory (Ok p) (spelled None) shelf = refl
install_not_memory (Ok p) (denoted None) shelf = refl
install_not_memory (Ok p) (spelled (Some t)) shelf = add_not_memory p shelf
install_not_memory (Ok p) (denoted (Some t)) shelf = add_not_memory p shelf

replace_not_memory : (p : Result Place PlaceFault) (c : Content) (shelf : Shelf) → is_memory (Replies (replace_reply p c shelf)) ≡ false
replace_not_memory (Err e) c shelf = refusal_not_memory e
replace_not_memory (Ok p) unread shelf = refl
replace_not_memory (Ok p) (spelled None) shelf = refl
replace_not_memory (Ok p) (denoted None) shelf = refl
replace_not_memory (Ok p) (spelled (Some t)) shelf = chosen_not_memory (holds p.name shelf) Done Absent refl refl
replace_not_memory (Ok p) (denoted (Some t)) shelf = chosen_not_memory (holds p.name shelf) Done Absent refl refl

remove_not_memory : (p : Result Place PlaceFault) (shelf : Shelf) → is_memory (Replies (remove_reply p shelf)) ≡ false
remove_not_memory (Err e) shelf = refusal_not_memory e
remove_not_memory (Ok p) shelf = chosen_not_memory (holds p.name shelf) Done Absent refl refl

list_not_memory : (r : Result (List ℕ) AppFault) (shelf : Shelf) → is_memory (Replies (list_reply r shelf)) ≡ false
list_not_memory (Err app.BadApp) shelf = refl
list_not_memory (Err app.Reserved) shelf = refl
list_not_memory (Ok a) shelf = refl

-- a lookup finds or refuses
search_not_memory : (valid : Option (List ℕ)) (r : Result Hit LookError) → is_memory (search_response valid r) ≡ false
search_not_memory None (Err e) = refl
search_not_memory None (Ok r) = refl
search_not_memory (Some valid) (Err e) = refl
search_not_memory (Some valid) (Ok r) = refl

valid_path_not_memory : (valid : Option (List ℕ)) (r : Result Hit LookError) (b : Bool)
    → is_memory (cond b (search_response valid r) (Refuses fault.BadPath)) ≡ false
valid_path_not_memory valid r true = search_not_memory valid r
valid_path_not_memory valid r false = refl

lookup_not_memory : (start : Start) (shelf : Shelf) (p : Result Place PlaceFault) (path : List ℕ) → is_memory (lookup_at start shelf p path) ≡ false
lookup_not_memory start shelf (Err e) path = refl
lookup_not_memory start shelf (Ok p) path =
    valid_path_not_memory (first_stop (bundle_at shelf) start.parents p.name)
    (look_up (bundle_at shelf) (bundle_at start.icudata) start.parents p.name (segments path)) (is_path path)

pub answer_not_memory : (start : Start) (shelf : Shelf) (ask : Ask) → is_memory (answer_over start shelf ask) ≡ false
answer_not_memory start shelf (Installs a l c) = install_not_memory (place_of a l) c shelf
answer_not_memory start shelf (Replaces a l c) = replace_not_memory (place_of a l) c shelf
answer_not_memory start shelf (Removes a l) = remove_not_memory (place_of a l) shelf
answer_not_memory start shelf (Lists a) = list_not_memory (app_of a) shelf
answer_not_memory start shelf (Looks a l path) = lookup_not_memory start shelf (place_of a l) path

-- ---- a step as one application sees it

pub data SeenBy (app : List ℕ) (old : State) (turn : Turn) (mid : State) : Type 0 where
  Elsewhere : bytes_eq (caller turn.call) app ≡ false → mid.lists app ≡ old.lists app → SeenBy app old turn mid
  RanOut : bytes_eq (caller turn.call) app ≡ true → turn.response ≡ Replies Memory → mid.lists app ≡ old.lists app → SeenBy app old turn mid
  WasAnswered : bytes_eq (caller turn.call) app ≡ true → (ask : Ask) → Means turn.call ask
      → turn.response ≡ answer_over old.start (old.lists app) ask → mid.lists app ≡ bundles_after ask (old.lists app) → SeenBy app old turn mid

seen_by : (app : List ℕ) (old : State) (turn : Turn) (mid : State) (b : Bool) → bytes_eq (caller turn.call) app ≡ b
    → Step old turn.call turn.response mid → SeenBy app old turn mid
seen_by app old turn mid false e (inl s) = Elsewhere e (s.lists app)
seen_by app old turn mid true e (inl s) = RanOut e s.memory (s.lists app)
seen_by app old turn mid false e (inr s) = Elsewhere e (s.others app (λ h. false≢true (sym e ∙ (bytes_eq-Decides (caller turn.call) app).1 (sym h))))
seen_by app old turn mid true e (inr s) =
    let same : caller turn.call ≡ app = (bytes_eq-Decides (caller turn.call) app).0 e in
    WasAnswered e s.ask s.means
    (s.right ∙ ap (λ a. answer_over old.start (old.lists a) s.ask) same)
    (ap mid.lists (sym same) ∙ s.own ∙ ap (λ a. bundles_after s.ask (old.lists a)) same)

keeps_start : (old : State) (turn : Turn) (mid : State) → Step old turn.call turn.response mid → mid.start ≡ old.start
keeps_start old turn mid (inl s) = s.start
keeps_start old turn mid (inr s) = s.start

response_not_memory : (old : State) (app : List ℕ) (turn : Turn) (ask : Ask) → turn.response ≡ answer_over old.start (old.lists app) ask
    → is_memory turn.response ≡ false
response_not_memory old app turn ask m = ap is_memory m ∙ answer_not_memory old.start (old.lists app) ask

-- ---- an application's bundles after a list of steps

-- what the application asked, with the bundles that it has then
abbrev Asked : List ℕ → Shelf → List Turn → Shelf → Type 0
Asked app shelf turns end = (asks : List Ask) × EachMeans (own_calls app turns) asks × (end ≡ bundles_after_all shelf asks)

asked-step : (app : List ℕ) (old : State) (turn : Turn) (turns : List Turn) (mid : State) (end : Shelf) → SeenBy app old turn mid
    → Asked app (mid.lists app) turns end → Asked app (old.lists app) (turn ∷ turns) end
asked-step app old turn turns mid end (Elsewhere e k) (asks, means, is) = (asks, rw e means, is ∙ ap (λ s. bundles_after_all s asks) k)
asked-step app old turn turns mid end (RanOut e m k) (asks, means, is) = (asks, rw (e, m) means, is ∙ ap (λ s. bundles_after_all s asks) k)
asked-step app old turn turns mid end (WasAnswered e ask mean m k) (asks, means, is) =
    (ask ∷ asks, rw (e, response_not_memory old app turn ask m) (mean, means), is ∙ ap (λ s. bundles_after_all s asks) k)

asked-run : (app : List ℕ) (old : State) (turns : List Turn) (new : State) → Run old turns new → Asked app (old.lists app) turns (new.lists app)
asked-run app old [] new r = ([], tt, r.1 app)
asked-run app old (turn ∷ turns) new (mid, s, r) =
    asked-step app old turn turns mid (new.lists app) (seen_by app old turn mid (bytes_eq (caller turn.call) app) refl s) (asked-run app mid turns new r)

start-run : (old : State) (turns : List Turn) (new : State) → Run old turns new → new.start ≡ old.start
start-run old [] new r = r.0
start-run old (turn ∷ turns) new (mid, s, r) = start-run mid turns new r ∙ keeps_start old turn mid s

-- a run up to a turn, and the step of that turn
up_to : (old : State) (before after : List Turn) (turn : Turn) (new : State) → Run old (before ++ turn ∷ after) new
    → (mid : State) × (next : State) × Run old before mid × Step mid turn.call turn.response next
up_to old [] after turn new (next, s, r) = (old, next, (refl, λ app. refl), s)
up_to old (t ∷ before) after turn new (m, s, r) = let h = up_to m before after turn new r in (h.0, h.1, (m, s, h.2), h.3)

answers : (start : Start) (asked : List Ask) (mid : State) (turn : Turn) (next : State) → mid.start ≡ start
    → mid.lists (caller turn.call) ≡ bundles_after_all [] asked → Step mid turn.call turn.response next → is_memory turn.response ≡ false
    → (ask : Ask) × Means turn.call ask × (turn.response ≡ answer start asked ask)
answers start asked mid turn next st ls (inl s) n = let e : is_memory turn.response ≡ true = rw s.memory refl in absurd (false≢true (sym n ∙ e))
answers start asked mid turn next st ls (inr s) n =
    (s.ask, s.means, s.right ∙ ap (λ z. answer_over z (mid.lists (caller turn.call)) s.ask) st ∙ ap (λ z. answer_over start z s.ask) ls)

pub answers_own : AnswersOwn
answers_own start before after turn end r n =
    let h = up_to (new_state start) before after turn end r in
    let a = asked-run (caller turn.call) (new_state start) before h.0 h.2 in
    let b = answers start a.0 h.0 turn h.1 (start-run (new_state start) before h.0 h.2) a.2 h.3 n in
    (a.0, b.0, a.1, b.1, b.2)

-- ---- what an application is answered by a list of steps

abbrev AreResponses : Start → Shelf → List (Call × Bool) → List Response → Type 0
AreResponses start shelf [] responses = responses ≡ []
AreResponses start shelf ((call, true) ∷ rest) responses =
    (more : List Response) × (responses ≡ Replies Memory ∷ more) × AreResponses start shelf rest more
AreResponses start shelf ((call, false) ∷ rest) responses =
    (ask : Ask) × (more : List Response) × Means call ask × (responses ≡ answer_over start shelf ask ∷ more)
    × AreResponses start (bundles_after ask shelf) rest more

one_response_list : AsksOne → (start : Start) (shelf : Shelf) (asked : List (Call × Bool)) (a b : List Response)
    → AreResponses start shelf asked a → AreResponses start shelf asked b → a ≡ b
one_response_list one start shelf [] a b p q = p ∙ sym q
one_response_list one start shelf ((call, true) ∷ rest) a b p q =
    p.1 ∙ ap (λ ts. Replies Memory ∷ ts) (one_response_list one start shelf rest p.0 q.0 p.2 q.2) ∙ sym q.1
one_response_list one start shelf ((call, false) ∷ rest) a b p q =
    let same : q.0 ≡ p.0 = one call q.0 p.0 q.2 p.2 in
    let later = subst (λ (x : Ask). AreResponses start (bundles_after x shelf) rest q.1) same q.4 in
    p.3 ∙ ap (λ ts. answer_over start shelf p.0 ∷ ts) (one_response_list one start (bundles_after p.0 shelf) rest p.1 q.1 p.4 later)
    ∙ ap (λ x. answer_over start shelf x ∷ q.1) (sym same) ∙ sym q.3

-- the same from equal starts and bundles
moved : (app : List ℕ) (turns : List Turn) (s t : Start) (x y : Shelf) → s ≡ t → x ≡ y
    → AreResponses s x (asked_by app turns) (responses_to app turns) → AreResponses t y (asked_by app turns) (responses_to app turns)
moved app turns s t x y e k h =
    let at_start = subst (λ (z : Start). AreResponses z x (asked_by app turns) (responses_to app turns)) e h in
    subst (λ (z : Shelf). AreResponses t z (asked_by app turns) (responses_to app turns)) k at_start

responses-step : (app : List ℕ) (old : State) (turn : Turn) (turns : List Turn) (mid : State) → mid.start ≡ old.start → SeenBy app old turn mid
    → AreResponses mid.start (mid.lists app) (asked_by app turns) (responses_to app turns)
    → AreResponses old.start (old.lists app) (asked_by app (turn ∷ turns)) (responses_to app (turn ∷ turns))
responses-step app old turn turns mid st (Elsewhere e k) h =
    rw e (moved app turns mid.start old.start (mid.lists app) (old.lists app) st k h)
responses-step app old turn turns mid st (RanOut e m k) h =
    rw (e, m) (responses_to app turns, refl, moved app turns mid.start old.start (mid.lists app) (old.lists app) st k h)
responses-step app old turn turns mid st (WasAnswered e ask mean m k) h =
    rw (e, response_not_memory old app turn ask m) (
      ask,
      responses_to app turns,
      mean,
      ap (λ t. t ∷ responses_to app turns) m,
      moved app turns mid.start old.start (mid.lists app) (bundles_after ask (old.lists app)) st k h,
    )

responses-run : (app : List ℕ) (old : State) (turns : List Turn) (new : State) → Run old turns new
    → AreResponses old.start (old.lists app) (asked_by app turns) (responses_to app turns)
responses-run app old [] new r = refl
responses-run app old (turn ∷ turns) new (mid, s, r) =
    responses-step app old turn turns mid (keeps_start old turn mid s)
    (seen_by app old turn mid (bytes_eq (caller turn.call) app) refl s) (responses-run app mid turns new r)

pub is_isolated : AsksOne → IsIsolated
is_isolated one start app first second end end' r r' same =
    one_response_list one start [] (asked_by app second) (responses_to app first) (responses_to app second)
    (subst (λ (a : List (Call × Bool)). AreResponses start [] a (responses_to app first)) same (responses-run app (new_state start) first end r))
    (responses-run app (new_state start) second end' r')
