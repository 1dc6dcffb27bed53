-- The results of the engine's parts, as one call under limits.
use Rattle.std.proofs.Common.{◌≡◌, ◌≢◌, ◌⊎◌, ℕ, inl, inr, Bool, true, false, not, List, Option, Some, None, Result, Ok, Err, refl, sym, ◌∙◌, ap, subst}
use Rattle.std.specs.Map.{remove_entry}
use Rattle.std.specs.Str.{bytes_eq}
use Rattle.std.specs.Prelude.{is_ok}
use Rattle.std.proofs.lemmas.Bool.{false≢true}
use Rattle.rb_packages.specs.Packages.{Files, Stored, files_of, icudata_files, OthersStay}
use Rattle.rb_packages.specs.Usage.{apps_of}
use Rattle.rb_engine.specs.Ask.{Call, Requests, caller}
use Rattle.rb_engine.specs.Answer.{Response, Replies, refusal}
use Rattle.rb_engine.specs.Change.{IsFileOf, files_after, Removes}
use Rattle.rb_engine.specs.History.{Step, Answered, is_memory, is_memory_reply, may_run_out_of_memory}
use Rattle.rb_engine.specs.Kept.{Kept, state_of}
use Rattle.rb_engine.specs.Place.{place_of}
use Rattle.rb_engine.specs.Source.{Reads, change_request}
use Rattle.rb_engine.specs.declared.handle.Change.{Change}
use Rattle.rb_engine.specs.declared.handle.Change.TheVariants as change
use Rattle.rb_engine.specs.declared.place.Place.{Place}
use Rattle.rb_engine.specs.declared.request.Payload.{Payload}
use Rattle.rb_engine.specs.declared.request.Reply.{Reply}
use Rattle.rb_engine.specs.declared.request.Reply.TheVariants as reply
use Rattle.rb_engine.specs.declared.request.Request.TheVariants as request
use Rattle.rb_engine.proofs.Histories.{answer_not_memory}
use Rattle.rb_engine.proofs.StepLemmas.{app-place_of}
use Rattle.rb_engine.proofs.Unread.{none_incoming}
use Rattle.rb_requests.specs.Limits.{is_over, payload_len, file_refusal, change_refusal, call_refusal}
use Rattle.rb_requests.specs.Steps.{Answers, Refuses, BringsAt, CallBrings, is_read, may_starve, IsAnswered, CallComesTo, put_file, taken_out, files_then}
use Rattle.rb_requests.specs.inner.LongPayload.{long_payload}
use Rattle.rb_requests.specs.declared.limits.Limits.{Limits}
use Rattle.rb_requests.specs.declared.limits.Refusal.{Refusal}
use Rattle.rb_requests.specs.declared.limits.Refusal.TheVariants.{BundleTooLong}

-- ---- a request that brings a bundle, by its change

abbrev asks : Change → List ℕ → List ℕ → Payload → Call
asks made app locale payload = Requests (change_request made app locale payload)

caller_is : (made : Change) (app locale : List ℕ) (payload : Payload) → caller (asks made app locale payload) ≡ app
caller_is change.Install app locale payload = refl
caller_is change.Replace app locale payload = refl

brings_is : (limits : Limits) (made : Change) (app locale : List ℕ) (payload : Payload) (incoming : Option (List ℕ))
    → BringsAt limits (place_of app locale) payload incoming → CallBrings limits (asks made app locale payload) incoming
brings_is limits change.Install app locale payload incoming h = h
brings_is limits change.Replace app locale payload incoming h = h

refusal_is : (limits : Limits) (k : Kept) (made : Change) (app locale : List ℕ) (payload : Payload) (incoming : Option (List ℕ))
    → call_refusal limits k (asks made app locale payload) incoming ≡ change_refusal limits k made (place_of app locale) payload incoming
refusal_is limits k change.Install app locale payload incoming = refl
refusal_is limits k change.Replace app locale payload incoming = refl

read_starves : (limits : Limits) (made : Change) (app locale : List ℕ) (payload : Payload) → is_read limits (place_of app locale) payload ≡ true
    → may_starve limits (asks made app locale payload) ≡ true
read_starves limits change.Install app locale payload h = h
read_starves limits change.Replace app locale payload h = h

named_place : (made : Change) (app locale : List ℕ) (payload : Payload) → may_run_out_of_memory (asks made app locale payload) ≡ true
    → is_ok (place_of app locale) ≡ true
named_place change.Install app locale payload h = h
named_place change.Replace app locale payload h = h

files_put : (made : Change) (app locale : List ℕ) (payload : Payload) (incoming : Option (List ℕ)) (files : Files)
    → files_then (asks made app locale payload) incoming (Replies reply.Done) files ≡ put_file made (place_of app locale) incoming files
files_put change.Install app locale payload incoming files = refl
files_put change.Replace app locale payload incoming files = refl

-- ---- answers of the engine

-- a reply is `Done`, `Memory` or another, which changes no files
data Told (call : Call) (incoming : Option (List ℕ)) (r : Reply) : Type 0 where
  done : r ≡ reply.Done → Told call incoming r
  memory : r ≡ reply.Memory → Told call incoming r
  other : r ≢ reply.Done → is_memory_reply r ≡ false → ((files : Files) → files_then call incoming (Replies r) files ≡ files) → Told call incoming r

told : (call : Call) (incoming : Option (List ℕ)) (r : Reply) → Told call incoming r
told call incoming reply.Done = done refl
told call incoming reply.Memory = memory refl
told call incoming (reply.Names names) = other (λ e. cc) refl (λ files. refl)
told call incoming reply.BadApp = other (λ e. cc) refl (λ files. refl)
told call incoming reply.Reserved = other (λ e. cc) refl (λ files. refl)
told call incoming reply.BadLocale = other (λ e. cc) refl (λ files. refl)
told call incoming reply.BadText = other (λ e. cc) refl (λ files. refl)
told call incoming reply.BadFile = other (λ e. cc) refl (λ files. refl)
told call incoming reply.Exists = other (λ e. cc) refl (λ files. refl)
told call incoming reply.Absent = other (λ e. cc) refl (λ files. refl)
told call incoming reply.Full = other (λ e. cc) refl (λ files. refl)

not_memory : (k k' : Kept) (call : Call) (r : Reply) → Step (state_of k) call (Replies r) (state_of k') → is_memory_reply r ≡ false
    → Answered (state_of k) call (Replies r) (state_of k')
not_memory k k' call r (inl s) m = let e : is_memory (Replies r) ≡ true = ap is_memory s.memory in absurd (false≢true (sym m ∙ e))
not_memory k k' call r (inr s) m = s

-- memory runs out only where the engine says so
starved_may : (k k' : Kept) (call : Call) (r : Reply) → Step (state_of k) call (Replies r) (state_of k') → r ≡ reply.Memory
    → may_run_out_of_memory call ≡ true
starved_may k k' call r (inl s) m = s.may
starved_may k k' call r (inr s) m =
    let answered : is_memory (Replies r) ≡ false = ap is_memory s.right ∙ answer_not_memory _ _ s.ask in
    absurd (false≢true (sym answered ∙ ap is_memory_reply m))

same_answered : (limits : Limits) (k : Kept) (call : Call) (incoming : Option (List ℕ)) (response : Response) → call_refusal limits k call incoming ≡ None
    → Answered (state_of k) call response (state_of k) → is_memory response ≡ false
    → files_then call incoming response (files_of (caller call) k.packages) ≡ files_of (caller call) k.packages
    → IsAnswered limits k call incoming (Answers response) k
same_answered limits k call incoming response free answered told files = record {
  free = free;
  response = response;
  answer = refl;
  told = told;
  answered = answered;
  own = sym files;
  others = λ app n. refl;
  icudata = refl;
  parents = refl;
  kept = λ n. refl;
}

-- a call by its reply: only one that is done changes anything
comes_to : (limits : Limits) (k k' : Kept) (call : Call) (incoming : Option (List ℕ)) (r : Reply) → CallBrings limits call incoming
    → call_refusal limits k call incoming ≡ None → (r ≡ reply.Memory → may_starve limits call ≡ true) → Step (state_of k) call (Replies r) (state_of k')
    → (r ≢ reply.Done → k' ≡ k)
    → (r ≡ reply.Done → Answered (state_of k) call (Replies reply.Done) (state_of k') → IsAnswered limits k call incoming (Answers (Replies reply.Done)) k')
    → CallComesTo limits k call (Answers (Replies r)) k'
comes_to limits k k' call incoming r brings free may step same made = by (told call incoming r)
  where
    by : Told call incoming r → CallComesTo limits k call (Answers (Replies r)) k'
    by (done e) =
        let answered = subst (λ (x : Reply). Answered (state_of k) call (Replies x) (state_of k')) e (not_memory k k' call r step (ap is_memory_reply e)) in
        subst (λ (x : Reply). CallComesTo limits k call (Answers (Replies x)) k') (sym e) (inr (incoming, brings, inr (made e answered)))
    by (memory e) =
        let not_done : r ≢ reply.Done = λ d. let x : reply.Memory ≡ reply.Done = sym e ∙ d in cc in
        inl (record { memory = ap (λ (x : Reply). Answers (Replies x)) e; may = may e; same = same not_done })
    by (other n m f) =
        let at_k = subst (λ (x : Kept). Step (state_of k) call (Replies r) (state_of x)) (same n) step in
        subst (λ (x : Kept). CallComesTo limits k call (Answers (Replies r)) x) (sym (same n))
        (inr (incoming, brings, inr (same_answered limits k call incoming (Replies r) free (not_memory k k call r at_k m) m (f _))))

-- a call that changes nothing
pub unchanged : (limits : Limits) (k : Kept) (call : Call) (incoming : Option (List ℕ)) (r : Reply) → CallBrings limits call incoming
    → call_refusal limits k call incoming ≡ None → (r ≡ reply.Memory → may_starve limits call ≡ true) → Step (state_of k) call (Replies r) (state_of k)
    → (r ≡ reply.Done → files_then call incoming (Replies reply.Done) (files_of (caller call) k.packages) ≡ files_of (caller call) k.packages)
    → CallComesTo limits k call (Answers (Replies r)) k
unchanged limits k call incoming r brings free may step files =
    comes_to limits k k call incoming r brings free may step (λ n. refl)
    (λ e answered. same_answered limits k call incoming (Replies reply.Done) free answered refl (files e))

-- ---- payloads

is_place : {E : Type 0} (limits : Limits) (r : Result Place E) (payload : Payload) → long_payload limits r payload ≡ true
    → (p : Place) × (r ≡ Ok p) × (is_over limits.bundle_bytes (payload_len payload) ≡ true)
is_place limits (Err e) payload h = absurd (false≢true h)
is_place limits (Ok p) payload h = (p, refl, h)

-- a payload that isn't too long is read under valid names
pub read_short : {E : Type 0} (limits : Limits) (r : Result Place E) (payload : Payload) → is_ok r ≡ true → long_payload limits r payload ≡ false
    → is_read limits r payload ≡ true
read_short limits (Err e) payload is h = absurd (false≢true is)
read_short limits (Ok p) payload is h = rw h refl

pub not_true : (b : Bool) → not b ≡ true → b ≡ false
not_true true h = absurd (false≢true h)
not_true false h = refl

pub short_read : {E : Type 0} (limits : Limits) (r : Result Place E) (payload : Payload) → is_read limits r payload ≡ true
    → long_payload limits r payload ≡ false
short_read limits (Err e) payload h = refl
short_read limits (Ok p) payload h = not_true (is_over limits.bundle_bytes (payload_len payload)) h

-- a payload that is too long
pub too_long : (limits : Limits) (k : Kept) (made : Change) (app locale : List ℕ) (payload : Payload)
    → long_payload limits (place_of app locale) payload ≡ true → CallComesTo limits k (asks made app locale payload) (Refuses BundleTooLong) k
too_long limits k made app locale payload h =
    let (p, is, long) = is_place limits (place_of app locale) payload h in
    inr (
      None,
      brings_is limits made app locale payload None (rw (is, long) refl),
      inl (record {
        refusal = BundleTooLong;
        refused = refusal_is limits k made app locale payload None ∙ rw (is, long) refl;
        word = refl;
        same = refl;
      }),
    )

unread_free : {E : Type 0} (limits : Limits) (k : Kept) (made : Change) (r : Result Place E) (payload : Payload) → long_payload limits r payload ≡ false
    → change_refusal limits k made r payload None ≡ None
unread_free limits k made (Err e) payload h = refl
unread_free limits k made (Ok p) payload h = rw h refl

put_nothing : {E : Type 0} (made : Change) (r : Result Place E) (files : Files) → put_file made r None files ≡ files
put_nothing made (Err e) files = refl
put_nothing made (Ok p) files = refl

-- the incoming file if nothing is read, or memory ran out for it
read_nothing : (limits : Limits) (app locale : List ℕ) (payload : Payload) (r : Reply) → long_payload limits (place_of app locale) payload ≡ false
    → Reads app locale payload (Err r) → (r ≡ reply.Memory) ⊎ BringsAt limits (place_of app locale) payload None
read_nothing limits app locale payload r long (inl (e, is, x)) = inr (rw is refl)
read_nothing limits app locale payload r long (inr (p, e, is, none, x)) = elim (none_incoming payload e none) [
  | inl m ↦ inl (x ∙ m)
  | inr brings ↦ let short = rw is at long in inr (rw (is, short) brings)
]

-- if memory ran out for a payload, it was read
out_if_read : (limits : Limits) (k : Kept) (made : Change) (app locale : List ℕ) (payload : Payload) (r : Reply)
    → long_payload limits (place_of app locale) payload ≡ false → Step (state_of k) (asks made app locale payload) (Replies r) (state_of k)
    → r ≡ reply.Memory → may_starve limits (asks made app locale payload) ≡ true
out_if_read limits k made app locale payload r long step m =
    let named = named_place made app locale payload (starved_may k k (asks made app locale payload) r step m) in
    read_starves limits made app locale payload (read_short limits (place_of app locale) payload named long)

pub not_read : (limits : Limits) (k : Kept) (made : Change) (app locale : List ℕ) (payload : Payload) (r : Reply)
    → long_payload limits (place_of app locale) payload ≡ false → Reads app locale payload (Err r)
    → Step (state_of k) (asks made app locale payload) (Replies r) (state_of k) → CallComesTo limits k (asks made app locale payload) (Answers (Replies r)) k
not_read limits k made app locale payload r long reads step = elim (read_nothing limits app locale payload r long reads) [
  | inl m ↦ inl (record {
    memory = ap (λ (x : Reply). Answers (Replies x)) m;
    may = out_if_read limits k made app locale payload r long step m;
    same = refl;
  })
  | inr brings ↦ unchanged limits k (asks made app locale payload) None r (brings_is limits made app locale payload None brings)
      (refusal_is limits k made app locale payload None ∙ unread_free limits k made (place_of app locale) payload long)
      (out_if_read limits k made app locale payload r long step) step (λ e. files_put made app locale payload None _ ∙ put_nothing made (place_of app locale) _)
]

-- ---- a bundle that was read

module _ (limits : Limits) (k : Kept) (made : Change) (app locale : List ℕ) (payload : Payload) (p : Place) (file : List ℕ)
    (long : long_payload limits (place_of app locale) payload ≡ false) (reads : Reads app locale payload (Ok (p, file))) (is_file : IsFileOf payload file) where
  read_brings : CallBrings limits (asks made app locale payload) (Some file)
  read_brings =
      let short = rw reads.0 at long in
      brings_is limits made app locale payload (Some file) (rw (reads.0, short) (reads.1, is_file))

  read_refusal : call_refusal limits k (asks made app locale payload) (Some file)
      ≡ file_refusal limits made p.name (files_of p.app k.packages) (apps_of k.packages) file
  read_refusal =
      let short = rw reads.0 at long in
      refusal_is limits k made app locale payload (Some file) ∙ rw (reads.0, short) refl

  pub not_put : (refusal : Refusal) → Some refusal ≡ file_refusal limits made p.name (files_of p.app k.packages) (apps_of k.packages) file
      → CallComesTo limits k (asks made app locale payload) (Refuses refusal) k
  not_put refusal h =
      inr (Some file, read_brings, inl (record { refusal = refusal; refused = read_refusal ∙ sym h; word = refl; same = refl }))

  put_done : (k' : Kept) → None ≡ file_refusal limits made p.name (files_of p.app k.packages) (apps_of k.packages) file
      → Answered (state_of k) (asks made app locale payload) (Replies reply.Done) (state_of k')
      → files_of p.app k'.packages ≡ files_after made p.name file (files_of p.app k.packages)
      → OthersStay p.app k.packages k'.packages → k'.parents ≡ k.parents
      → IsAnswered limits k (asks made app locale payload) (Some file) (Answers (Replies reply.Done)) k'
  put_done k' free answered own others parents =
      let call = asks made app locale payload in
      let is : p.app ≡ app = app-place_of app locale p reads.0 in
      let mine : p.app ≡ caller call = is ∙ sym (caller_is made app locale payload) in
      record {
        free = read_refusal ∙ sym free;
        response = Replies reply.Done;
        answer = refl;
        told = refl;
        answered = answered;
        own = subst (λ (a : List ℕ). files_of a k'.packages ≡ files_then call (Some file) (Replies reply.Done) (files_of a k.packages)) mine
            (own ∙ sym (files_put made app locale payload (Some file) _ ∙ rw reads.0 refl));
        others = λ a n. others.files a (λ e. n (e ∙ mine));
        icudata = others.icudata_bytes;
        parents = parents;
        kept = λ n. absurd (n refl);
      }

  pub put : (k' : Kept) (r : Reply) → None ≡ file_refusal limits made p.name (files_of p.app k.packages) (apps_of k.packages) file
      → Step (state_of k) (asks made app locale payload) (Replies r) (state_of k')
      → (r ≡ reply.Done → files_of p.app k'.packages ≡ files_after made p.name file (files_of p.app k.packages))
      → OthersStay p.app k.packages k'.packages → k'.parents ≡ k.parents → (r ≢ reply.Done → k' ≡ k)
      → CallComesTo limits k (asks made app locale payload) (Answers (Replies r)) k'
  put k' r free step own others parents same =
      comes_to limits k k' (asks made app locale payload) (Some file) r read_brings (read_refusal ∙ sym free)
      (λ e. read_starves limits made app locale payload (read_short limits (place_of app locale) payload (ap is_ok reads.0) long)) step same
      (λ e answered. put_done k' free answered (own e) others parents)

-- a replacement that is put doesn't run out of memory
pub install_alone : (made : Change) (r : Reply) → (made ≡ change.Replace → r ≢ reply.Memory) → r ≡ reply.Memory → made ≡ change.Install
install_alone change.Install r never m = refl
install_alone change.Replace r never m = absurd (never refl m)

pub is_reply : (a b : Reply) → Answers (Replies a) ≡ Answers (Replies b) → a ≡ b
is_reply a b h = cc

-- ---- the other calls

-- a statement on a result from its cases
pub by_result : {A E : Type 0} (r : Result A E) (Holds : Result A E → Type 0) → ((a : A) → r ≡ Ok a → Holds (Ok a)) → ((e : E) → r ≡ Err e → Holds (Err e))
    → Holds r
by_result (Ok a) Holds ok err = ok a refl
by_result (Err e) Holds ok err = err e refl

-- the files after a removal that is done
record Removed (app locale : List ℕ) (old new : Stored) : Type 0 where
  own : files_of app new ≡ taken_out (place_of app locale) (files_of app old)
  others : (a : List ℕ) → a ≢ app → files_of a new ≡ files_of a old
  icudata : icudata_files new ≡ icudata_files old

removed_files : (app locale : List ℕ) (old new : Stored) → Removes (place_of app locale) reply.Done old new → Removed app locale old new
removed_files app locale old new h =
    by_result (place_of app locale) (λ r. Removes r reply.Done old new → Removed app locale old new)
    (λ p is taken.
    let mine : p.app ≡ app = app-place_of app locale p is in
    record {
      own = rw is (subst (λ (a : List ℕ). files_of a new ≡ remove_entry (bytes_eq p.name) (files_of a old)) mine (taken.own refl));
      others = λ a n. taken.others.files a (λ e. n (e ∙ mine));
      icudata = taken.others.icudata_bytes;
    })
    (λ e is same. record { own = rw (is, same) refl; others = λ a n. ap (files_of a) same; icudata = ap icudata_files same }) h

removed_done : (limits : Limits) (k k' : Kept) (app locale : List ℕ)
    → Answered (state_of k) (Requests (request.Remove app locale)) (Replies reply.Done) (state_of k')
    → Removes (place_of app locale) reply.Done k.packages k'.packages → k'.parents ≡ k.parents
    → IsAnswered limits k (Requests (request.Remove app locale)) None (Answers (Replies reply.Done)) k'
removed_done limits k k' app locale answered h parents =
    let files = removed_files app locale k.packages k'.packages h in
    record {
      free = refl;
      response = Replies reply.Done;
      answer = refl;
      told = refl;
      answered = answered;
      own = files.own;
      others = files.others;
      icudata = files.icudata;
      parents = parents;
      kept = λ n. absurd (n refl);
    }

pub removed : (limits : Limits) (k k' : Kept) (app locale : List ℕ) (r : Reply)
    → Step (state_of k) (Requests (request.Remove app locale)) (Replies r) (state_of k') → Removes (place_of app locale) r k.packages k'.packages
    → k'.parents ≡ k.parents → (r ≢ reply.Done → k' ≡ k) → r ≢ reply.Memory
    → CallComesTo limits k (Requests (request.Remove app locale)) (Answers (Replies r)) k'
removed limits k k' app locale r step h parents same never =
    comes_to limits k k' (Requests (request.Remove app locale)) None r refl refl (λ e. absurd (never e)) step same
    (λ e answered. removed_done limits k k' app locale answered
    (subst (λ (x : Reply). Removes (place_of app locale) x k.packages k'.packages) e h) parents)

pub listed : (limits : Limits) (k : Kept) (app : List ℕ) (r : Reply) → Step (state_of k) (Requests (request.List app)) (Replies r) (state_of k)
    → CallComesTo limits k (Requests (request.List app)) (Answers (Replies r)) k
listed limits k app r step =
    unchanged limits k (Requests (request.List app)) None r refl refl (starved_may k k (Requests (request.List app)) r step) step (λ e. refl)
