-- Proves the steps of a request, by which of its checks pass.
use Rattle.std.proofs.Common.{◌≡◌, ℕ, inl, inr, Bool, true, false, not, cond, List, [], ◌∷◌, ◌++◌, Option, Some, None, Result, Ok, Err, is_some}
use Rattle.std.proofs.Common.{refl, sym, ap, subst}
use Rattle.std.specs.Prelude.{codes, is_ok, nat_eq, ◌⊎◌}
use Rattle.std.specs.Cmp.Lexicographic.{pointwise}
use Rattle.std.specs.Str.{bytes_eq}
use Rattle.rb_tree.specs.SourceTree.{SourceTree}
use Rattle.rb_lexer.specs.declared.fault.SourceFault.{SourceFault}
use Rattle.rb_lexer.specs.declared.fault.SourceKind.TheVariants as text
use Rattle.rb_parser.specs.Source.{IsGoodSource, IsRefusal}
use Rattle.rb_format.specs.File.{source_tree_of}
use Rattle.rb_locales.specs.Locale.{name}
use Rattle.rb_parents.specs.Trail.{ParentsOf}
use Rattle.rb_packages.specs.App.{app_of, is_app}
use Rattle.rb_packages.specs.Shelf.{Shelf, bundle_at, holds, is_full, replaced, removed}
use Rattle.rb_packages.specs.Packages.{Stored, list_of, install_fault, IsJudged, OthersStay}
use Rattle.rb_packages.specs.declared.app.AppFault.{AppFault}
use Rattle.rb_packages.specs.declared.app.AppFault.TheVariants as app
use Rattle.rb_packages.specs.declared.fault.PackFault.{PackFault}
use Rattle.rb_packages.specs.declared.fault.PackFault.TheVariants as pack
use Rattle.rb_engine.specs.Place.{place_of, place_by}
use Rattle.rb_engine.specs.Kept.{state_over}
use Rattle.rb_engine.specs.Start.{HasBundle}
use Rattle.rb_engine.specs.Source.{HasNone, IsTextFault, Reads, Handles, change_request, unread_reply, not_installed_reply}
use Rattle.rb_engine.specs.ReadFaults.{IsFirstFault}
use Rattle.rb_engine.specs.Ask.{Requests, requester, RequestMeans, IsRead, IsContent, Content, spelled, denoted, unread}
use Rattle.rb_engine.specs.Ask.{Ask, Installs, Replaces, Removes}
use Rattle.rb_engine.specs.Answer.{Start, Replies, answer_over, bundles_after, refusal}
use Rattle.rb_engine.specs.Answer.{install_reply, add_reply, replace_reply, installed, exchanged, added}
use Rattle.rb_engine.specs.History.{may_run_out_of_memory}
use Rattle.rb_engine.specs.declared.handle.Change.{Change}
use Rattle.rb_engine.specs.declared.handle.Change.TheVariants as changes
use Rattle.rb_engine.specs.declared.place.Place.{Place}
use Rattle.rb_engine.specs.declared.place.PlaceFault.{PlaceFault}
use Rattle.rb_engine.specs.declared.payload.ReadFault.{ReadFault}
use Rattle.rb_engine.specs.declared.payload.ReadFault.TheVariants as fault
use Rattle.rb_engine.specs.declared.request.Payload.{Payload}
use Rattle.rb_engine.specs.declared.request.Payload.TheVariants.{Text, File}
use Rattle.rb_engine.specs.declared.request.Request.{Request}
use Rattle.rb_engine.specs.declared.request.Request.TheVariants as request
use Rattle.rb_engine.specs.declared.request.Reply.{Reply}
use Rattle.rb_engine.specs.declared.request.Reply.TheVariants.{Exists, Full, Done, Absent, Memory, BadText, BadFile}

-- ---- the application that is read is the one that was given

chosen_app : (bs a : List ℕ) (v w : Bool) → cond v (Err app.BadApp) (cond w (Err app.Reserved) (Ok bs)) ≡ Ok a → a ≡ bs
chosen_app bs a true w h = absurd cc
chosen_app bs a false true h = absurd cc
chosen_app bs a false false h = cc

pub app_is : (bs a : List ℕ) → app_of bs ≡ Ok a → a ≡ bs
app_is bs a h = chosen_app bs a (not (is_app bs)) (bytes_eq bs (codes "ICUDATA")) h

app_by : (r : Result (List ℕ) AppFault) (n : Option (List ℕ)) (p : Place) → place_by r n ≡ Ok p → r ≡ Ok p.app
app_by (Err e) n p h = absurd cc
app_by (Ok a) None p h = absurd cc
app_by (Ok a) (Some n) p h = cc

pub app-place_of : (app locale : List ℕ) (p : Place) → place_of app locale ≡ Ok p → p.app ≡ app
app-place_of app locale p h = app_is app p.app (app_by (app_of app) (name locale) p h)

-- what holds of the application of a place holds of the one that was given
at_place : (app locale : List ℕ) (p : Place) (Holds : List ℕ → Type 0) → place_of app locale ≡ Ok p
    → (place_of p.app locale ≡ Ok p → Holds p.app) → Holds app
at_place app locale p Holds h f =
    let a = app-place_of app locale p h in
    subst Holds a (f (subst (λ x. place_of x locale ≡ Ok p) (sym a) h))

-- ---- steps by what a request asks

abbrev start_with : ParentsOf → Shelf → Start
start_with parents icudata = record { icudata = icudata; parents = parents }

-- the caller's bundles change as it asks, and nothing else does
changed : (r : Request) (ask : Ask) (reply : Reply) (old new : Stored) → RequestMeans r ask
    → ((start : Start) → Replies reply ≡ answer_over start (list_of (requester r) old) ask)
    → list_of (requester r) new ≡ bundles_after ask (list_of (requester r) old)
    → OthersStay (requester r) old new → Handles r reply old new
changed r ask reply old new means right own others parents = inr (record {
  ask = ask;
  means = means;
  right = right (state_over parents old).start;
  start = ap (start_with parents) others.icudata;
  own = own;
  others = others.others;
})

-- nothing changes
unchanged : (r : Request) (ask : Ask) (reply : Reply) (s : Stored) → RequestMeans r ask
    → ((start : Start) → Replies reply ≡ answer_over start (list_of (requester r) s) ask)
    → list_of (requester r) s ≡ bundles_after ask (list_of (requester r) s) → Handles r reply s s
unchanged r ask reply s means right own parents = inr (record {
  ask = ask;
  means = means;
  right = right (state_over parents s).start;
  start = refl;
  own = own;
  others = λ app other. refl;
})

out_of_memory : (r : Request) (s : Stored) → may_run_out_of_memory (Requests r) ≡ true → Handles r Memory s s
out_of_memory r s may parents = inl (record { memory = refl; may = may; start = refl; lists = λ app. refl })

-- ---- a request that brings no bundle

-- what an install and a replacement come to if there is no bundle
record BringsNone (r : Result Place PlaceFault) (content : Content) (reply : Reply) : Type 0 where
  install : (shelf : Shelf) → Replies reply ≡ Replies (install_reply r content shelf)
  replace : (shelf : Shelf) → Replies reply ≡ Replies (replace_reply r content shelf)
  installed_none : (shelf : Shelf) → shelf ≡ installed r content shelf
  replaced_none : (shelf : Shelf) → shelf ≡ exchanged r content shelf

no_place : (e : PlaceFault) → BringsNone (Err e) unread (refusal e)
no_place e = record { install = λ s. refl; replace = λ s. refl; installed_none = λ s. refl; replaced_none = λ s. refl }

no_text : (p : Place) → BringsNone (Ok p) (spelled None) BadText
no_text p = record { install = λ s. refl; replace = λ s. refl; installed_none = λ s. refl; replaced_none = λ s. refl }

no_file : (p : Place) → BringsNone (Ok p) (denoted None) BadFile
no_file p = record { install = λ s. refl; replace = λ s. refl; installed_none = λ s. refl; replaced_none = λ s. refl }

brings_none : (change : Change) (app locale : List ℕ) (payload : Payload) (content : Content) (reply : Reply) (s : Stored)
    → IsRead (place_of app locale) payload content → BringsNone (place_of app locale) content reply
    → Handles (change_request change app locale payload) reply s s
brings_none changes.Install app locale payload content reply s h n =
    unchanged (request.Install app locale payload) (Installs app locale content) reply s (content, h, refl)
    (λ start. n.install (list_of app s)) (n.installed_none (list_of app s))
brings_none changes.Replace app locale payload content reply s h n =
    unchanged (request.Replace app locale payload) (Replaces app locale content) reply s (content, h, refl)
    (λ start. n.replace (list_of app s)) (n.replaced_none (list_of app s))

no_memory : (change : Change) (app locale : List ℕ) (payload : Payload) (s : Stored) → is_ok (place_of app locale) ≡ true
    → Handles (change_request change app locale payload) Memory s s
no_memory changes.Install app locale payload s h = out_of_memory (request.Install app locale payload) s h
no_memory changes.Replace app locale payload s h = out_of_memory (request.Replace app locale payload) s h

no_content : (change : Change) (app locale : List ℕ) (payload : Payload) (p : Place) (e : ReadFault) (s : Stored)
    → place_of app locale ≡ Ok p → HasNone payload e → Handles (change_request change app locale payload) (unread_reply e) s s
no_content change app locale payload p (fault.Refused r) s h k = rw k (no_memory change app locale payload s (rw h refl))
no_content change app locale (Text bytes) p (fault.BadText e) s h k =
    brings_none change app locale (Text bytes) (spelled None) BadText s (rw h k) (rw h (no_text p))
no_content change app locale (File bytes) p (fault.BadFile e) s h k =
    brings_none change app locale (File bytes) (denoted None) BadFile s (rw h k) (rw h (no_file p))
no_content change app locale (Text bytes) p (fault.BadFile e) s h k = absurd k
no_content change app locale (File bytes) p (fault.BadText e) s h k = absurd k

pub no_bundle : (change : Change) (app locale : List ℕ) (payload : Payload) (reply : Reply) (s : Stored)
    → Reads app locale payload (Err reply) → Handles (change_request change app locale payload) reply s s
no_bundle change app locale payload reply s (inl (e, h, m)) =
    rw m (brings_none change app locale payload unread (refusal e) s (rw h refl) (rw h (no_place e)))
no_bundle change app locale payload reply s (inr (p, e, h, k, m)) = rw m (no_content change app locale payload p e s h k)

-- a text that is refused spells nothing, unless memory ran out
pub text_none : (bytes : List ℕ) (bad : SourceFault) (e : ReadFault) → IsTextFault bad e
    → ((name : List ℕ) (source : SourceTree) → IsGoodSource bytes name source → bad.kind ≡ text.Memory) → HasNone (Text bytes) e
text_none bytes bad e (inl p) only = rw p.1 refl
text_none bytes bad e (inr p) only = rw p.1 (λ name source good. p.0 (only name source good))

pub text_first : (bytes : List ℕ) (bad : SourceFault) (e : ReadFault) → IsTextFault bad e → IsRefusal bytes bad
    → IsFirstFault (Text bytes) e
text_first bytes bad e (inl p) h = rw p.1 tt
text_first bytes bad e (inr p) h = rw p.1 h

-- ---- what a payload asks to put

-- a payload with a bundle counts by it alone
pub record Puts (payload : Payload) (source : SourceTree) (content : Content) : Type 0 where
  pub read : IsContent payload content
  pub installs : (p : Place) (shelf : Shelf) → installed (Ok p) content shelf ≡ added p source shelf
  pub install : (p : Place) (shelf : Shelf) → install_reply (Ok p) content shelf ≡ add_reply p shelf
  pub exchanges : (p : Place) (shelf : Shelf) → exchanged (Ok p) content shelf ≡ replaced p.name source shelf
  pub replace : (p : Place) (shelf : Shelf) → replace_reply (Ok p) content shelf ≡ cond (holds p.name shelf) Done Absent

puts : (payload : Payload) (source : SourceTree) → HasBundle payload source → (content : Content) × Puts payload source content
puts (Text bytes) source h =
    (spelled (Some source), record { read = h; installs = λ p s. refl; install = λ p s. refl; exchanges = λ p s. refl; replace = λ p s. refl })
puts (File bytes) source h =
    (denoted (Some source), record { read = h; installs = λ p s. refl; install = λ p s. refl; exchanges = λ p s. refl; replace = λ p s. refl })

-- ---- an install

judged_none : (b c : Bool) → cond b (Some pack.Exists) (cond c (Some pack.Full) None) ≡ None → (b ≡ false) × (c ≡ false)
judged_none true c h = absurd cc
judged_none false true h = absurd cc
judged_none false false h = (refl, refl)

pub done : (app locale : List ℕ) (payload : Payload) (p : Place) (file : List ℕ) (old new : Stored) → place_of app locale ≡ Ok p
    → HasBundle payload (source_tree_of file) → install_fault p.name (list_of p.app old) ≡ None
    → list_of p.app new ≡ list_of p.app old ++ (p.name, source_tree_of file) ∷ [] → OthersStay p.app old new
    → Handles (request.Install app locale payload) Done old new
done app locale payload p file old new here k judged own others =
    let shelf = list_of p.app old in
    let free : (holds p.name shelf ≡ false) × (is_full shelf ≡ false) = judged_none (holds p.name shelf) (is_full shelf) judged in
    let c = puts payload (source_tree_of file) k in
    at_place app locale p (λ a. Handles (request.Install a locale payload) Done old new) here (λ h.
    changed (request.Install p.app locale payload) (Installs p.app locale c.0) Done old new (c.0, rw h c.1.read, refl)
    (λ start. rw (h, c.1.install p shelf, free.0, free.1) refl) (rw (h, c.1.installs p shelf, free.0, free.1) own) others)

exists : (app locale : List ℕ) (payload : Payload) (p : Place) (file : List ℕ) (s : Stored) → place_of app locale ≡ Ok p
    → HasBundle payload (source_tree_of file) → holds p.name (list_of app s) ≡ true → Handles (request.Install app locale payload) Exists s s
exists app locale payload p file s h k there =
    let c = puts payload (source_tree_of file) k in
    unchanged (request.Install app locale payload) (Installs app locale c.0) Exists s (c.0, rw h c.1.read, refl)
    (λ start. rw (h, c.1.install p (list_of app s), there) refl) (rw (h, c.1.installs p (list_of app s), there) refl)

full : (app locale : List ℕ) (payload : Payload) (p : Place) (file : List ℕ) (s : Stored) → place_of app locale ≡ Ok p
    → HasBundle payload (source_tree_of file) → holds p.name (list_of app s) ≡ false → is_full (list_of app s) ≡ true
    → Handles (request.Install app locale payload) Full s s
full app locale payload p file s h k there most =
    let c = puts payload (source_tree_of file) k in
    unchanged (request.Install app locale payload) (Installs app locale c.0) Full s (c.0, rw h c.1.read, refl)
    (λ start. rw (h, c.1.install p (list_of app s), there, most) refl) (rw (h, c.1.installs p (list_of app s), there, most) refl)

pub not_installed : (app locale : List ℕ) (payload : Payload) (p : Place) (file : List ℕ) (s : Stored) (e : PackFault)
    → place_of app locale ≡ Ok p → HasBundle payload (source_tree_of file)
    → (e ≡ pack.Memory) ⊎ (install_fault p.name (list_of p.app s) ≡ Some e)
    → Handles (request.Install app locale payload) (not_installed_reply e) s s
not_installed app locale payload p file s e here k (inl m) =
    rw m (out_of_memory (request.Install app locale payload) s (rw here refl))
not_installed app locale payload p file s e here k (inr judged) =
    at_place app locale p (λ a. Handles (request.Install a locale payload) (not_installed_reply e) s s) here (λ h.
    by h (holds p.name (list_of p.app s)) (is_full (list_of p.app s)) refl refl judged)
  where
    by : place_of p.app locale ≡ Ok p → (b c : Bool) → holds p.name (list_of p.app s) ≡ b → is_full (list_of p.app s) ≡ c
        → cond b (Some pack.Exists) (cond c (Some pack.Full) None) ≡ Some e
        → Handles (request.Install p.app locale payload) (not_installed_reply e) s s
    by h true c there most j =
        let same : pack.Exists ≡ e = cc in
        rw (← same) (exists p.app locale payload p file s h k there)
    by h false true there most j =
        let same : pack.Full ≡ e = cc in
        rw (← same) (full p.app locale payload p file s h k there most)
    by h false false there most j = absurd cc

-- ---- the other requests

pub replaces : (app locale : List ℕ) (payload : Payload) (p : Place) (file : List ℕ) (held : SourceTree) (old new : Stored)
    → place_of app locale ≡ Ok p → HasBundle payload (source_tree_of file) → bundle_at (list_of p.app old) p.name ≡ Some held
    → list_of p.app new ≡ replaced p.name (source_tree_of file) (list_of p.app old) → OthersStay p.app old new
    → Handles (request.Replace app locale payload) Done old new
replaces app locale payload p file held old new here k there own others =
    let e : holds p.name (list_of p.app old) ≡ true = ap is_some there in
    let c = puts payload (source_tree_of file) k in
    at_place app locale p (λ a. Handles (request.Replace a locale payload) Done old new) here (λ h.
    changed (request.Replace p.app locale payload) (Replaces p.app locale c.0) Done old new (c.0, rw h c.1.read, refl)
    (λ start. rw (h, c.1.replace p (list_of p.app old), e) refl) (rw (h, c.1.exchanges p (list_of p.app old)) own) others)

-- what is not there is not replaced or removed
replaced_step : (name : List ℕ) (source : SourceTree) (e : List ℕ × SourceTree) (es : Shelf) (b : Bool)
    → (bundle_at es name ≡ None → replaced name source es ≡ es) → cond b (Some e.1) (bundle_at es name) ≡ None
    → cond b ((name, source) ∷ es) (e ∷ replaced name source es) ≡ e ∷ es
replaced_step name source e es true rest h = absurd cc
replaced_step name source e es false rest h = ap (λ l. e ∷ l) (rest h)

replaced_none : (name : List ℕ) (source : SourceTree) (shelf : Shelf) → bundle_at shelf name ≡ None → replaced name source shelf ≡ shelf
replaced_none name source [] h = refl
replaced_none name source (e ∷ es) h = replaced_step name source e es (pointwise nat_eq name e.0) (replaced_none name source es) h

removed_step : (name : List ℕ) (e : List ℕ × SourceTree) (es : Shelf) (b : Bool) → (bundle_at es name ≡ None → removed name es ≡ es)
    → cond b (Some e.1) (bundle_at es name) ≡ None → cond b es (e ∷ removed name es) ≡ e ∷ es
removed_step name e es true rest h = absurd cc
removed_step name e es false rest h = ap (λ l. e ∷ l) (rest h)

removed_none : (name : List ℕ) (shelf : Shelf) → bundle_at shelf name ≡ None → removed name shelf ≡ shelf
removed_none name [] h = refl
removed_none name (e ∷ es) h = removed_step name e es (pointwise nat_eq name e.0) (removed_none name es) h

pub not_replaced : (app locale : List ℕ) (payload : Payload) (p : Place) (file : List ℕ) (s : Stored) → place_of app locale ≡ Ok p
    → HasBundle payload (source_tree_of file) → bundle_at (list_of p.app s) p.name ≡ None
    → Handles (request.Replace app locale payload) Absent s s
not_replaced app locale payload p file s here k none =
    let shelf = list_of p.app s in
    let e : holds p.name shelf ≡ false = ap is_some none in
    let c = puts payload (source_tree_of file) k in
    at_place app locale p (λ a. Handles (request.Replace a locale payload) Absent s s) here (λ h.
    unchanged (request.Replace p.app locale payload) (Replaces p.app locale c.0) Absent s (c.0, rw h c.1.read, refl)
    (λ start. rw (h, c.1.replace p shelf, e) refl)
    (rw (h, c.1.exchanges p shelf) (sym (replaced_none p.name (source_tree_of file) shelf none))))

pub removes : (app locale : List ℕ) (p : Place) (held : SourceTree) (old new : Stored) → place_of app locale ≡ Ok p
    → bundle_at (list_of p.app old) p.name ≡ Some held → list_of p.app new ≡ removed p.name (list_of p.app old)
    → OthersStay p.app old new → Handles (request.Remove app locale) Done old new
removes app locale p held old new here there own others =
    let e : holds p.name (list_of p.app old) ≡ true = ap is_some there in
    at_place app locale p (λ a. Handles (request.Remove a locale) Done old new) here (λ h.
    changed (request.Remove p.app locale) (Removes p.app locale) Done old new refl (λ start. rw (h, e) refl) (rw h own) others)

pub not_removed : (app locale : List ℕ) (p : Place) (s : Stored) → place_of app locale ≡ Ok p
    → bundle_at (list_of p.app s) p.name ≡ None → Handles (request.Remove app locale) Absent s s
not_removed app locale p s here none =
    let e : holds p.name (list_of p.app s) ≡ false = ap is_some none in
    at_place app locale p (λ a. Handles (request.Remove a locale) Absent s s) here (λ h.
    unchanged (request.Remove p.app locale) (Removes p.app locale) Absent s refl (λ start. rw (h, e) refl)
    (rw h (sym (removed_none p.name (list_of p.app s) none))))

-- ---- an install by what packages say of it

pub judged_err : (o : Option PackFault) (e : PackFault × List ℕ) (r : Result (Unit {0}) (PackFault × List ℕ)) → r ≡ Err e → IsJudged o r
    → (e.0 ≡ pack.Memory) ⊎ (o ≡ Some e.0)
judged_err o e (Ok x) q h = absurd cc
judged_err None e (Err x) q h = let same : x ≡ e = cc in inl (rw (← same) h)
judged_err (Some f) e (Err x) q h = let same : x ≡ e = cc in inr (rw (← same) (ap (λ g. Some g) (sym h)))
