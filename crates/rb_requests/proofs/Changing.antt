-- The replies to changes whose payload is read, and to those that are refused.
use Rattle.std.proofs.Common.{◌≡◌, ℕ, inl, inr, Bool, true, false, List, length, Option, Some, None, is_some, option_map, Result, Ok, Err, refl, subst}
use Rattle.std.specs.Prelude.{IfErr, OnOk}
use Rattle.std.proofs.lemmas.Bool.{false≢true, MatchBool-at_false}
use Rattle.rb_tree.specs.SourceTree.{SourceTree}
use Rattle.rb_format.specs.File.{source_tree_of}
use Rattle.rb_packages.specs.Packages.{file_at}
use Rattle.rb_engine.specs.Ask.{Requests}
use Rattle.rb_engine.specs.Kept.{Kept}
use Rattle.rb_locales.specs.Locale.{name}
use Rattle.rb_packages.specs.App.{app_of}
use Rattle.rb_packages.specs.declared.app.AppFault.{AppFault}
use Rattle.rb_engine.specs.Place.{place_by, place_of}
use Rattle.rb_engine.specs.Source.{Reads, change_request}
use Rattle.rb_engine.specs.Start.{HasBundle}
use Rattle.rb_engine.specs.declared.handle.Change.{Change}
use Rattle.rb_engine.specs.declared.handle.Change.TheVariants as change
use Rattle.rb_engine.specs.declared.place.Place.{Place}
use Rattle.rb_engine.specs.declared.request.Payload.{Payload}
use Rattle.rb_requests.specs.ExtendedReply.{ChangeReply, CalledReply, is_stored, put_change}
use Rattle.rb_requests.specs.Limits.{is_over, payload_len}
use Rattle.rb_requests.specs.Refused.{Reason, IsFirstError, IsUnreadBy}
use Rattle.rb_requests.specs.Steps.{Outcome, Refuses, Brings, BringsAt, CallBrings, CallIsJudged, IsJudged, is_read}
use Rattle.rb_requests.specs.Within.{CallReply, error_line, outcome_line}
use Rattle.rb_requests.specs.Words.{refusal_word}
use Rattle.rb_requests.specs.declared.answer.Starved.{Starved}
use Rattle.rb_requests.specs.declared.answer.Starved.TheVariants.{Before, After}
use Rattle.rb_requests.specs.declared.judged.Unmade.{Unmade}
use Rattle.rb_requests.specs.declared.judged.Unmade.TheVariants.{Refused, Memory}
use Rattle.rb_requests.specs.declared.limits.Limits.{Limits}
use Rattle.rb_requests.specs.declared.limits.Refusal.{Refusal}
use Rattle.rb_requests.specs.inner.ExtendedTold.{change_line}
use Rattle.rb_requests.specs.inner.Starving.{LeavesOf}
use Rattle.rb_requests.specs.inner.Judged.{IfRefused, IsTold, Judges, names_error, reason}
use Rattle.rb_requests.proofs.CallSteps.{not_true}

-- ---- payloads that aren't read

unread_by : (limits : Limits) (r : Result (List ℕ) AppFault) (n : Option (List ℕ)) (payload : Payload) (why : Reason)
    → names_error r n ≡ None → is_over limits.bundle_bytes (payload_len payload) ≡ false → IsFirstError payload why
    → IsUnreadBy limits r n payload why
unread_by limits (Err e) n payload why none short h = cc
unread_by limits (Ok a) None payload why none short h = cc
unread_by limits (Ok a) (Some n) payload why none short h = rw short h

read_by : (limits : Limits) (r : Result (List ℕ) AppFault) (n : Option (List ℕ)) (payload : Payload)
    → names_error r n ≡ None → is_over limits.bundle_bytes (payload_len payload) ≡ false → is_read limits (place_by r n) payload ≡ true
read_by limits (Err e) n payload none short = cc
read_by limits (Ok a) None payload none short = cc
read_by limits (Ok a) (Some n) payload none short = rw short refl

-- a payload under valid names that isn't too long is refused with its first error
pub judges_unread : (limits : Limits) (app locale : List ℕ) (payload : Payload) (unmade : Unmade)
    → names_error (app_of app) (name locale) ≡ None → is_over limits.bundle_bytes (payload_len payload) ≡ false
    → IfRefused unmade (IsFirstError payload) → Judges limits app locale payload (Err unmade)
judges_unread limits app locale payload (Refused word detail) none short h =
    unread_by limits (app_of app) (name locale) payload (reason word.now detail) none short h
judges_unread limits app locale payload Memory none short h = read_by limits (app_of app) (name locale) payload none short

-- ---- payloads that are read

-- a payload with a bundle brings a file
brings_file : {E : Type 0} (limits : Limits) (r : Result Place E) (payload : Payload) (source : SourceTree) (incoming : Option (List ℕ))
    → HasBundle payload source → is_read limits r payload ≡ true → BringsAt limits r payload incoming
    → (file : List ℕ) × (incoming ≡ Some file)
brings_file limits (Err e) payload source incoming has read brings = absurd (false≢true read)
brings_file limits (Ok p) payload source None has read brings =
    absurd (MatchBool-at_false (◌≡◌ {A = Option (List ℕ)} None None) (Brings payload None) (not_true (is_over limits.bundle_bytes (payload_len payload)) read) brings
    source has)
brings_file limits (Ok p) payload source (Some file) has read brings = (file, refl)

brings_at : (limits : Limits) (made : Change) (app locale : List ℕ) (payload : Payload) (incoming : Option (List ℕ))
    → CallBrings limits (Requests (change_request made app locale payload)) incoming → BringsAt limits (place_of app locale) payload incoming
brings_at limits change.Install app locale payload incoming h = h
brings_at limits change.Replace app locale payload incoming h = h

-- a call whose payload is read is answered by its outcome
pub change_told : (limits : Limits) (old new : Kept) (made : Change) (app locale : List ℕ) (payload : Payload) (b : Place × List ℕ)
    (outcome : Outcome) (line : Outcome → List ℕ) (text : List ℕ)
    → Reads app locale payload (Ok b) → is_read limits (place_of app locale) payload ≡ true
    → CallIsJudged limits old (Requests (change_request made app locale payload)) outcome new → text ≡ line outcome
    → ChangeReply limits old made app locale payload line text new
change_told limits old new made app locale payload b outcome line text reads read (incoming, brings, judged) told =
    let at = brings_at limits made app locale payload incoming brings in
    let is = brings_file limits (place_of app locale) payload (source_tree_of b.1) incoming reads.1 read at in
    inr (
      is.0,
      outcome,
      subst (BringsAt limits (place_of app locale) payload) is.1 at,
      subst (λ o. IsJudged limits old (Requests (change_request made app locale payload)) o outcome new) is.1 judged,
      told,
    )

-- the state that such a call leaves if its reply could not be made
pub change_leaves : (limits : Limits) (old new : Kept) (made : Change) (app locale : List ℕ) (payload : Payload) (b : Place × List ℕ)
    (line : Outcome → List ℕ) (s : Starved) → Reads app locale payload (Ok b) → is_read limits (place_of app locale) payload ≡ true
    → LeavesOf (CallReply limits old (Requests (change_request made app locale payload))) s old new
    → LeavesOf (ChangeReply limits old made app locale payload line) s old new
change_leaves limits old new made app locale payload b line Before reads read same = same
change_leaves limits old new made app locale payload b line After reads read left = elim left [
  | inl same ↦ inl same
  | inr (text, (outcome, judged, e)) ↦
      inr (line outcome, change_told limits old new made app locale payload b outcome line (line outcome) reads read judged refl)
]

-- the line of a call that a limit rejects
pub refused_line : (limits : Limits) (replaced : Option Bool) (refusal : Refusal)
    → error_line (refusal_word refusal) ≡ change_line limits replaced (Refuses refusal)
refused_line limits None refusal = refl
refused_line limits (Some is_replaced) refusal = refl

-- whether a bundle is there under valid names
pub stored_there : {E : Type 0} (kept : Kept) (r : Result Place E) (p : Place) → r ≡ Ok p
    → is_some (option_map length (file_at p.app p.name kept.packages)) ≡ is_stored kept r
stored_there kept r p e = rw e (there (file_at p.app p.name kept.packages))
  where
    there : (file : Option (List ℕ)) → is_some (option_map length file) ≡ is_some file
    there None = refl
    there (Some file) = refl

-- a payload that isn't read is answered by the reason
pub change_untold : (limits : Limits) (old : Kept) (made : Change) (app locale : List ℕ) (payload : Payload) (line : Outcome → List ℕ)
    (unmade : Unmade) (text : List ℕ)
    → Judges limits app locale payload (Err unmade) → IsTold unmade text → ChangeReply limits old made app locale payload line text old
change_untold limits old made app locale payload line (Refused word detail) text judged told =
    inl (reason word.now detail, judged, told, refl)
change_untold limits old made app locale payload line Memory text judged told = absurd told

pub change_refused : {E : Type 0} (r : Result (Unit {0}) E) (limits : Limits) (old : Kept) (made : Change) (app locale : List ℕ)
    (payload : Payload) (line : Outcome → List ℕ) (unmade : Unmade) (text : List ℕ)
    → Judges limits app locale payload (Err unmade) → OnOk r (IsTold unmade text)
    → OnOk r (ChangeReply limits old made app locale payload line text old)
change_refused (Ok x) limits old made app locale payload line unmade text judged told =
    change_untold limits old made app locale payload line unmade text judged told
change_refused (Err e) limits old made app locale payload line unmade text judged told = tt

-- a change that was chosen by whether a bundle is there
pub put_as : (made : Change) (a b : Bool) (P : Change → Bool → Type 0) → made ≡ put_change a → a ≡ b → P made a → P (put_change b) b
put_as made a b P e f h = subst (λ (x : Bool). P (put_change x) x) f (subst (λ (m : Change). P m a) e h)

pub called_left : (r : Result (Unit {0}) Starved) (limits : Limits) (old new : Kept) (made : Change) (app locale : List ℕ) (payload : Payload)
    → IfErr r (λ s. LeavesOf (ChangeReply limits old made app locale payload (outcome_line limits)) s old new)
    → IfErr r (λ s. LeavesOf (CalledReply limits old (Requests (change_request made app locale payload))) s old new)
called_left r limits old new change.Install app locale payload h = h
called_left r limits old new change.Replace app locale payload h = h
