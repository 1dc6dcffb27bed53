-- The possible replies to one application's lines, extended requests among them.
use Rattle.std.proofs.Common.{◌≡◌, ◌≢◌, ◌+◌, ◌&&◌, ℕ, inl, inr, Bool, true, false, not, cond, eqb, List, [], ◌∷◌, length, map, nat_lt, Option, Some, None, is_some}
use Rattle.std.proofs.Common.{Result, Ok, Err, refl, sym, ◌∙◌, ap, subst}
use Rattle.std.specs.Map.{lookup}
use Rattle.std.specs.Str.{bytes_eq}
use Rattle.std.proofs.lemmas.Bool.{false≢true, false_from_ne_true}
use Rattle.std.proofs.lemmas.Slice.Eq.{bytes_eq-Decides}
use Rattle.rb_locales.specs.Locale.{name}
use Rattle.rb_parents.specs.Family.{parent_in}
use Rattle.rb_packages.specs.App.{app_of}
use Rattle.rb_packages.specs.Packages.{Files, files_of, list_of, shelf_of}
use Rattle.rb_packages.specs.Release.{Edits, edited}
use Rattle.rb_packages.specs.Shelf.{bundle_at}
use Rattle.rb_packages.specs.Usage.{apps_of}
use Rattle.rb_packages.specs.declared.app.AppFault.{AppFault}
use Rattle.rb_engine.specs.Answer.{Start, Response, Replies, Finds, Refuses as Fails, answer_over, bundles_after}
use Rattle.rb_engine.specs.Ask.{Ask, Call, Requests, LooksUp, caller}
use Rattle.rb_engine.specs.History.{Answered}
use Rattle.rb_engine.specs.Kept.{Kept, state_of}
use Rattle.rb_engine.specs.Place.{place_of}
use Rattle.rb_engine.specs.Version.{next_version}
use Rattle.rb_engine.specs.declared.handle.Change.{Change}
use Rattle.rb_engine.specs.declared.handle.Change.TheVariants as made
use Rattle.rb_engine.specs.declared.place.Place.{Place}
use Rattle.rb_engine.specs.declared.request.Payload.{Payload}
use Rattle.rb_engine.specs.declared.request.Reply.TheVariants.{Done}
use Rattle.rb_engine.specs.declared.request.Request.TheVariants as request
use Rattle.rb_engine.proofs.StepLemmas.{app_is, app-place_of}
use Rattle.rb_replies.specs.Extended.{sizes_data}
use Rattle.rb_requests.specs.ExportReply.{ExportReply, FileReply, sizes_reply}
use Rattle.rb_requests.specs.ExtendedAsked.{ExtendedAsk, Calls, Puts, Releases, Exports, AsksTree, AsksSizes, AsksUsage, ReleaseChange, extended_of}
use Rattle.rb_requests.specs.ExtendedIsolation.{IsSame, RepliesAlike, LeavesAlone, AreExtendedIsolated, extended_asker, asks_of, is_line_of, has_all_apps, lines_of_app, replies_to_app}
use Rattle.rb_requests.specs.ExtendedReply.{AskReply, CalledReply, ChangeReply, ExtendedReply, ExtendedWithin, ReleaseReply, is_stored, put_change, stored_line}
use Rattle.rb_requests.specs.Limits.{is_over, payload_len, len_at, takes_place, used, file_refusal, incoming_refusal, change_refusal, steps_refusal, call_refusal}
use Rattle.rb_requests.specs.Lines.{RepliesBy}
use Rattle.rb_requests.specs.Refused.{Reason}
use Rattle.rb_requests.specs.Released.{HaveEdits, IsFirstRefused, IsReleased, IsSumRefused, IsUnreleased, sum_refusal}
use Rattle.rb_requests.specs.Steps.{Outcome, Answers, Refuses, IsRefused, IsAnswered, IsJudged, CallIsJudged, files_then}
use Rattle.rb_requests.specs.TreeReply.{FoundReply, OutcomeReply, TreeReply}
use Rattle.rb_requests.specs.Within.{CallReply, limited_line, line_of, outcome_line, usage_reply}
use Rattle.rb_requests.specs.inner.ExtendedTold.{PutReply}
use Rattle.rb_requests.proofs.Counted.{usage_line, used_with}
use Rattle.rb_requests.specs.declared.limits.Limits.{Limits}
use Rattle.rb_requests.specs.declared.limits.Refusal.{Refusal}
use Rattle.rb_requests.specs.declared.limits.Refusal.TheVariants.{BundleTooLong, OverQuota, TooManyApps}

-- ---- a state with other files of one application

abbrev with_files : (app : List ℕ) → Files → Kept → ℕ → Kept
with_files app files k version = record {
  packages = record { icudata = k.packages.icudata; owned = (app, files) ∷ k.packages.owned };
  parents = k.parents;
  version = version;
}

own_files : (app : List ℕ) (files : Files) (k : Kept) (version : ℕ) → files_of app (with_files app files k version).packages ≡ files
own_files app files k version = let same : bytes_eq app app ≡ true = (bytes_eq-Decides app app).1 refl in rw same refl

other_files : (app : List ℕ) (files : Files) (k : Kept) (version : ℕ) (other : List ℕ) → other ≢ app
    → files_of other (with_files app files k version).packages ≡ files_of other k.packages
other_files app files k version other n =
    let differ : bytes_eq other app ≡ false = false_from_ne_true (bytes_eq other app) (λ e. n ((bytes_eq-Decides other app).0 e)) in rw differ refl

abbrev start_by : Files → List (List ℕ × List ℕ) → Start
start_by files parents = record { icudata = shelf_of files; parents = parent_in parents }

same_as : (app : List ℕ) (k k' l : Kept) → k' ≡ k → IsSame app k l → IsSame app k' l
same_as app k k' l e same = subst (λ (x : Kept). IsSame app x l) (sym e) same

stays : (app : List ℕ) (k k' : Kept) → k' ≡ k → IsSame app k k'
stays app k k' e = subst (λ (x : Kept). IsSame app k x) (sym e) (record { start = refl; files = refl })

-- ---- the refusals of limits

file_alike : (limits : Limits) (change : Change) (n : List ℕ) (files : Files) (a b : ℕ) (file : List ℕ)
    → is_over limits.apps (a + 1) ≡ is_over limits.apps (b + 1)
    → file_refusal limits change n files a file ≡ file_refusal limits change n files b file
file_alike limits change n files a b file e =
    ap (λ (over : Bool). cond (not (takes_place change (len_at n files) (length files))) None (cond (is_over limits.bundle_bytes (length file)) (Some BundleTooLong)
    (cond (is_over limits.app_bytes (used_with n files (length file))) (Some OverQuota)
    (cond (eqb (length files) 0 && over) (Some TooManyApps) None)))) e

incoming_alike : (limits : Limits) (k l : Kept) (change : Change) (p : Place) (incoming : Option (List ℕ))
    → files_of p.app k.packages ≡ files_of p.app l.packages → has_all_apps limits k ≡ has_all_apps limits l
    → incoming_refusal limits k change p incoming ≡ incoming_refusal limits l change p incoming
incoming_alike limits k l change p None e f = refl
incoming_alike limits k l change p (Some file) e f =
    file_alike limits change p.name (files_of p.app k.packages) (apps_of k.packages) (apps_of l.packages) file f
    ∙ ap (λ (files : Files). file_refusal limits change p.name files (apps_of l.packages) file) e

change_alike : {E : Type 0} (limits : Limits) (k l : Kept) (change : Change) (r : Result Place E) (payload : Payload) (incoming : Option (List ℕ))
    → ((p : Place) → r ≡ Ok p → files_of p.app k.packages ≡ files_of p.app l.packages) → has_all_apps limits k ≡ has_all_apps limits l
    → change_refusal limits k change r payload incoming ≡ change_refusal limits l change r payload incoming
change_alike limits k l change (Err e) payload incoming h f = refl
change_alike limits k l change (Ok p) payload incoming h f =
    ap (λ (x : Option Refusal). cond (is_over limits.bundle_bytes (payload_len payload)) (Some BundleTooLong) x) (incoming_alike limits k l change p incoming (h p refl) f)

-- what holds of an application holds of that of its place
at_place : (app locale : List ℕ) (Holds : List ℕ → Type 0) → Holds app → (p : Place) → place_of app locale ≡ Ok p → Holds p.app
at_place app locale Holds h p is = subst Holds (sym (app-place_of app locale p is)) h

abbrev SameFiles : Kept → Kept → List ℕ → Type 0
SameFiles k l app = files_of app k.packages ≡ files_of app l.packages

refused_alike : (limits : Limits) (k l : Kept) (call : Call) (incoming : Option (List ℕ)) → IsSame (caller call) k l
    → has_all_apps limits k ≡ has_all_apps limits l → call_refusal limits k call incoming ≡ call_refusal limits l call incoming
refused_alike limits k l (Requests (request.Install app locale payload)) incoming h f =
    change_alike limits k l made.Install (place_of app locale) payload incoming (at_place app locale (SameFiles k l) h.files) f
refused_alike limits k l (Requests (request.Replace app locale payload)) incoming h f =
    change_alike limits k l made.Replace (place_of app locale) payload incoming (at_place app locale (SameFiles k l) h.files) f
refused_alike limits k l (Requests (request.Remove app locale)) incoming h f = refl
refused_alike limits k l (Requests (request.List app)) incoming h f = refl
refused_alike limits k l (LooksUp app locale path) incoming h f =
    ap (λ (start : Start). steps_refusal limits.steps start (list_of app k.packages) app locale path) h.start
    ∙ ap (λ (files : Files). steps_refusal limits.steps (state_of l).start (shelf_of files) app locale path) h.files

-- ---- calls

abbrev is_done : Response → Bool
is_done (Replies Done) = true
is_done other = false

done_is : (response : Response) → is_done response ≡ true → response ≡ Replies Done
done_is (Replies Done) e = refl
done_is other e = absurd (false≢true e)

abbrev answer_by : Start → Files → Ask → Response
answer_by start files ask = answer_over start (shelf_of files) ask

answered_alike : (k k' l l' : Kept) (call : Call) (response : Response) → IsSame (caller call) k l → Answered (state_of k) call response (state_of k')
    → (state_of l').start ≡ (state_of l).start → files_of (caller call) l'.packages ≡ files_of (caller call) k'.packages
    → ((a : List ℕ) → a ≢ caller call → files_of a l'.packages ≡ files_of a l.packages) → Answered (state_of l) call response (state_of l')
answered_alike k k' l l' call response h t start own others =
    let app = caller call in
    record {
      ask = t.ask;
      means = t.means;
      right = t.right ∙ ap (λ (s : Start). answer_by s (files_of app k.packages) t.ask) h.start
          ∙ ap (λ (files : Files). answer_by (state_of l).start files t.ask) h.files;
      start = start;
      own = ap shelf_of own ∙ t.own ∙ ap (λ (files : Files). bundles_after t.ask (shelf_of files)) h.files;
      others = λ a n. ap shelf_of (others a n);
    }

-- an answer that changes nothing
kept_alike : (limits : Limits) (k l : Kept) (call : Call) (incoming : Option (List ℕ)) (outcome : Outcome) → IsSame (caller call) k l
    → has_all_apps limits k ≡ has_all_apps limits l → (p : IsAnswered limits k call incoming outcome k) → IsAnswered limits l call incoming outcome l
kept_alike limits k l call incoming outcome h f p =
    let app = caller call in
    record {
      free = sym (refused_alike limits k l call incoming h f) ∙ p.free;
      response = p.response;
      answer = p.answer;
      told = p.told;
      answered = answered_alike k k l l call p.response h p.answered refl (sym h.files) (λ a n. refl);
      own = sym h.files ∙ p.own ∙ ap (λ (files : Files). files_then call incoming p.response files) h.files;
      others = λ a n. refl;
      icudata = refl;
      parents = refl;
      kept = λ n. refl;
    }

done_alike : (limits : Limits) (k k' l : Kept) (call : Call) (incoming : Option (List ℕ)) (outcome : Outcome) → IsSame (caller call) k l
    → has_all_apps limits k ≡ has_all_apps limits l → (p : IsAnswered limits k call incoming outcome k') → p.response ≡ Replies Done
    → IsAnswered limits l call incoming outcome (with_files (caller call) (files_of (caller call) k'.packages) l l.version)
done_alike limits k k' l call incoming outcome h f p done =
    let app = caller call in
    let files = files_of app k'.packages in
    let own = own_files app files l l.version in
    let others = other_files app files l l.version in
    record {
      free = sym (refused_alike limits k l call incoming h f) ∙ p.free;
      response = p.response;
      answer = p.answer;
      told = p.told;
      answered = answered_alike k k' l (with_files app files l l.version) call p.response h p.answered refl own others;
      own = own ∙ p.own ∙ ap (λ (files : Files). files_then call incoming p.response files) h.files;
      others = others;
      icudata = refl;
      parents = refl;
      kept = λ n. absurd (n done);
    }

refuses_alike : (limits : Limits) (k k' l : Kept) (call : Call) (incoming : Option (List ℕ)) (outcome : Outcome) → IsSame (caller call) k l
    → has_all_apps limits k ≡ has_all_apps limits l → IsRefused limits k call incoming outcome k' → IsRefused limits l call incoming outcome l
refuses_alike limits k k' l call incoming outcome h f p = record {
  refusal = p.refusal;
  refused = sym (refused_alike limits k l call incoming h f) ∙ p.refused;
  word = p.word;
  same = refl;
}

-- a reply from another state, after which the states are the same to an application
abbrev Alike : (List ℕ) → Kept → (Kept → Type 0) → Type 0
Alike app k' Reply = (l' : Kept) × Reply l' × IsSame app k' l'

judged_alike : (limits : Limits) (k k' l : Kept) (call : Call) (incoming : Option (List ℕ)) (outcome : Outcome) → IsSame (caller call) k l
    → has_all_apps limits k ≡ has_all_apps limits l → IsJudged limits k call incoming outcome k'
    → Alike (caller call) k' (λ l'. IsJudged limits l call incoming outcome l')
judged_alike limits k k' l call incoming outcome h f (inl p) =
    (l, inl (refuses_alike limits k k' l call incoming outcome h f p), same_as (caller call) k k' l p.same h)
judged_alike limits k k' l call incoming outcome h f (inr p) = by (is_done p.response) refl
  where
    by : (b : Bool) → is_done p.response ≡ b → Alike (caller call) k' (λ l'. IsJudged limits l call incoming outcome l')
    by true e =
        let app = caller call in
        let files = files_of app k'.packages in (
          with_files app files l l.version,
          inr (done_alike limits k k' l call incoming outcome h f p (done_is p.response e)),
          record { start = p.answered.start ∙ h.start; files = sym (own_files app files l l.version) },
        )
    by false e =
        let same : k' ≡ k = p.kept (λ d. false≢true (sym e ∙ ap is_done d)) in
        let at_k = subst (λ (x : Kept). IsAnswered limits k call incoming outcome x) same p in
        (l, inr (kept_alike limits k l call incoming outcome h f at_k), same_as (caller call) k k' l same h)

call_alike : (limits : Limits) (k k' l : Kept) (call : Call) (text : List ℕ) → IsSame (caller call) k l → has_all_apps limits k ≡ has_all_apps limits l
    → CallReply limits k call text k' → Alike (caller call) k' (λ l'. CallReply limits l call text l')
call_alike limits k k' l call text h f (outcome, (incoming, brings, judged), told) =
    let j = judged_alike limits k k' l call incoming outcome h f judged in (j.0, (outcome, (incoming, brings, j.1), told), j.2)

-- a lookup changes nothing
looks_alike : (limits : Limits) (k l : Kept) (app locale path : List ℕ) (outcome : Outcome) → IsSame app k l → has_all_apps limits k ≡ has_all_apps limits l
    → CallIsJudged limits k (LooksUp app locale path) outcome k → CallIsJudged limits l (LooksUp app locale path) outcome l
looks_alike limits k l app locale path outcome h f (incoming, brings, inl p) =
    (incoming, brings, inl (refuses_alike limits k k l (LooksUp app locale path) incoming outcome h f p))
looks_alike limits k l app locale path outcome h f (incoming, brings, inr p) =
    (incoming, brings, inr (kept_alike limits k l (LooksUp app locale path) incoming outcome h f p))

-- ---- a release that is made

-- it changes neither ICUDATA nor the parents
released_start : (limits : Limits) (k k' : Kept) (app : List ℕ) (changes : List ReleaseChange) → (p : IsReleased limits k app changes k')
    → (state_of k').start ≡ (state_of k).start
released_start limits k k' app changes p =
    ap (λ (files : Files). start_by files k'.parents) p.others.icudata_bytes ∙ ap (start_by k.packages.icudata) p.parents

-- ---- changes of one bundle

change_reply_alike : (limits : Limits) (k k' l : Kept) (change : Change) (app locale : List ℕ) (payload : Payload) (line : Outcome → List ℕ) (text : List ℕ)
    → IsSame app k l → has_all_apps limits k ≡ has_all_apps limits l → ChangeReply limits k change app locale payload line text k'
    → Alike app k' (λ l'. ChangeReply limits l change app locale payload line text l')
change_reply_alike limits k k' l change app locale payload line text h f (inl (r, unread, told, same)) =
    (l, inl (r, unread, told, refl), same_as app k k' l same h)
change_reply_alike limits k k' l made.Install app locale payload line text h f (inr (file, outcome, brings, judged, told)) =
    let j = judged_alike limits k k' l (Requests (request.Install app locale payload)) (Some file) outcome h f judged in
    (j.0, inr (file, outcome, brings, j.1, told), j.2)
change_reply_alike limits k k' l made.Replace app locale payload line text h f (inr (file, outcome, brings, judged, told)) =
    let j = judged_alike limits k k' l (Requests (request.Replace app locale payload)) (Some file) outcome h f judged in
    (j.0, inr (file, outcome, brings, j.1, told), j.2)

called_alike : (limits : Limits) (k k' l : Kept) (call : Call) (text : List ℕ) → IsSame (caller call) k l → has_all_apps limits k ≡ has_all_apps limits l
    → CalledReply limits k call text k' → Alike (caller call) k' (λ l'. CalledReply limits l call text l')
called_alike limits k k' l (Requests (request.Install app locale payload)) text h f r =
    change_reply_alike limits k k' l made.Install app locale payload (outcome_line limits) text h f r
called_alike limits k k' l (Requests (request.Replace app locale payload)) text h f r =
    change_reply_alike limits k k' l made.Replace app locale payload (outcome_line limits) text h f r
called_alike limits k k' l (Requests (request.Remove app locale)) text h f r =
    call_alike limits k k' l (Requests (request.Remove app locale)) text h f r
called_alike limits k k' l (Requests (request.List app)) text h f r = call_alike limits k k' l (Requests (request.List app)) text h f r
called_alike limits k k' l (LooksUp app locale path) text h f r = call_alike limits k k' l (LooksUp app locale path) text h f r

stored_alike : {E : Type 0} (k l : Kept) (r : Result Place E) → ((p : Place) → r ≡ Ok p → SameFiles k l p.app) → is_stored k r ≡ is_stored l r
stored_alike k l (Err e) h = refl
stored_alike k l (Ok p) h = ap (λ (files : Files). is_some (lookup (bytes_eq p.name) files)) (h p refl)

put_alike : (limits : Limits) (k k' l : Kept) (app locale : List ℕ) (payload : Payload) (text : List ℕ) → IsSame app k l
    → has_all_apps limits k ≡ has_all_apps limits l → PutReply limits k app locale payload (is_stored k (place_of app locale)) text k'
    → Alike app k' (λ l'. PutReply limits l app locale payload (is_stored l (place_of app locale)) text l')
put_alike limits k k' l app locale payload text h f r =
    let there = stored_alike k l (place_of app locale) (at_place app locale (SameFiles k l) h.files) in
    let is = subst (λ (b : Bool). PutReply limits k app locale payload b text k') there r in
    let b = is_stored l (place_of app locale) in
    change_reply_alike limits k k' l (put_change b) app locale payload (stored_line limits b) text h f is

-- ---- releases

-- what holds of an application holds of the one that is read
at_read : (app : List ℕ) (Holds : List ℕ → Type 0) → Holds app → (a : List ℕ) → app_of app ≡ Ok a → Holds a
at_read app Holds h a is = subst Holds (sym (app_is app a is)) h

sum_alike : (limits : Limits) (before after : Files) (a b : ℕ) → is_over limits.apps (a + 1) ≡ is_over limits.apps (b + 1)
    → sum_refusal limits before after a ≡ sum_refusal limits before after b
sum_alike limits before after a b e =
    ap (λ (over : Bool). cond (is_over limits.app_bytes (used after)) (Some OverQuota)
    (cond ((nat_lt 0 (length after) && eqb (length before) 0) && over) (Some TooManyApps) None)) e

sum_refused_alike : (limits : Limits) (k l : Kept) (a : List ℕ) (edits : Edits) (r : Reason) → SameFiles k l a
    → has_all_apps limits k ≡ has_all_apps limits l → IsSumRefused limits k a edits r → IsSumRefused limits l a edits r
sum_refused_alike limits k l a edits r e f (refusal, sum, is) =
    let over = sum_alike limits (files_of a k.packages) (edited edits (files_of a k.packages)) (apps_of k.packages) (apps_of l.packages) f in (
      refusal,
      subst (λ (files : Files). sum_refusal limits files (edited edits files) (apps_of l.packages) ≡ Some refusal) e (sym over ∙ sum),
      is,
    )

unreleased_alike : (limits : Limits) (k l : Kept) (app : List ℕ) (read : Result (List ℕ) AppFault) (changes : List ReleaseChange) (r : Reason)
    → ((a : List ℕ) → read ≡ Ok a → SameFiles k l a) → has_all_apps limits k ≡ has_all_apps limits l
    → IsUnreleased limits k app read changes r → IsUnreleased limits l app read changes r
unreleased_alike limits k l app (Err e) changes r h f is = is
unreleased_alike limits k l app (Ok a) changes r h f (inl first) =
    inl (subst (λ (files : Files). IsFirstRefused limits app files changes r) (h a refl) first)
unreleased_alike limits k l app (Ok a) changes r h f (inr (edits, have, sum)) =
    inr (
      edits,
      subst (λ (files : Files). HaveEdits limits app files [] changes edits) (h a refl) have,
      sum_refused_alike limits k l a edits r (h a refl) f sum,
    )

release_alike : (limits : Limits) (k k' l : Kept) (app : List ℕ) (changes : List ReleaseChange) (text : List ℕ) → IsSame app k l
    → has_all_apps limits k ≡ has_all_apps limits l → ReleaseReply limits k app changes text k'
    → Alike app k' (λ l'. ReleaseReply limits l app changes text l')
release_alike limits k k' l app changes text h f (inl (r, unreleased, told, same)) =
    let is = unreleased_alike limits k l app (app_of app) changes r (at_read app (SameFiles k l) h.files) f unreleased in
    (l, inl (r, is, told, refl), same_as app k k' l same h)
release_alike limits k k' l app changes text h f (inr (made, told)) =
    let a = made.own in
    let is : a ≡ app = app_is app a made.is in
    let same : SameFiles k l a = at_read app (SameFiles k l) h.files a made.is in
    let files = files_of a k'.packages in
    let l' = with_files a files l (next_version l.version) in
    let own : files_of a l'.packages ≡ files = own_files a files l (next_version l.version) in
    let others = other_files a files l (next_version l.version) in
    let over = sum_alike limits (files_of a k.packages) files (apps_of k.packages) (apps_of l.packages) f in
    let free : sum_refusal limits (files_of a l.packages) files (apps_of l.packages) ≡ None =
    subst (λ (before : Files). sum_refusal limits before files (apps_of l.packages) ≡ None) same (sym over ∙ made.free) in
    let released : IsReleased limits l app changes l' = record {
      own = a;
      is = made.is;
      few = made.few;
      edits = made.edits;
      all = subst (λ (before : Files). HaveEdits limits app before [] changes made.edits) same made.all;
      files = own ∙ made.files ∙ ap (edited made.edits) same;
      free = subst (λ (after : Files). sum_refusal limits (files_of a l.packages) after (apps_of l.packages) ≡ None) (sym own) free;
      others = record { icudata = refl; icudata_bytes = refl; others = λ b n. ap shelf_of (others b n); files = others };
      parents = refl;
      version = refl;
    } in (
      l',
      inr (released, told),
      record {
        start = released_start limits k k' app changes made ∙ h.start;
        files = subst (λ (b : List ℕ). files_of b k'.packages ≡ files_of b l'.packages) is (sym own);
      },
    )

-- ---- what is stored

sizes_alike : (limits : Limits) (k l : Kept) (read : Result (List ℕ) AppFault) → ((a : List ℕ) → read ≡ Ok a → SameFiles k l a)
    → sizes_reply limits k read ≡ sizes_reply limits l read
sizes_alike limits k l (Err e) h = refl
sizes_alike limits k l (Ok a) h =
    ap (λ (files : Files). limited_line limits.reply_bytes (line_of (sizes_data (map (λ e. (e.0, length e.1)) files)))) (h a refl)

usage_alike : (k l : Kept) (read : Result (List ℕ) AppFault) → ((a : List ℕ) → read ≡ Ok a → SameFiles k l a) → usage_reply k read ≡ usage_reply l read
usage_alike k l (Err e) h = refl
usage_alike k l (Ok a) h = ap usage_line (h a refl)

export_alike : (limits : Limits) (k l : Kept) (is_text : Bool) (read : Result (List ℕ) AppFault) (locale : Option (List ℕ)) (text : List ℕ)
    → ((a : List ℕ) → read ≡ Ok a → SameFiles k l a) → ExportReply limits k is_text read locale text → ExportReply limits l is_text read locale text
export_alike limits k l is_text (Err e) locale text h r = r
export_alike limits k l is_text (Ok a) None text h r = r
export_alike limits k l is_text (Ok a) (Some n) text h r =
    subst (λ (files : Files). FileReply limits is_text n (lookup (bytes_eq n) files) text) (h a refl) r

-- ---- trees

tree_outcome_alike : {E : Type 0} (limits : Limits) (k l : Kept) (place : Result Place E) (path : List ℕ) (outcome : Outcome) (text : List ℕ)
    → (state_of k).start ≡ (state_of l).start → ((p : Place) → place ≡ Ok p → SameFiles k l p.app)
    → OutcomeReply limits k place path outcome text → OutcomeReply limits l place path outcome text
tree_outcome_alike limits k l place path (Answers (Finds hit valid)) text s h (p, is, found) =
    let own = subst (λ (files : Files). FoundReply limits (bundle_at (shelf_of files)) (state_of k).start.parents p.name path hit valid text) (h p is) found in
    (p, is, subst (λ (start : Start). FoundReply limits (bundle_at (list_of p.app l.packages)) start.parents p.name path hit valid text) s own)
tree_outcome_alike limits k l place path (Answers (Fails fault)) text s h r = r
tree_outcome_alike limits k l place path (Answers (Replies reply)) text s h r = absurd r
tree_outcome_alike limits k l place path (Refuses refusal) text s h r = r

tree_alike : (limits : Limits) (k l : Kept) (app locale path text : List ℕ) → IsSame app k l → has_all_apps limits k ≡ has_all_apps limits l
    → TreeReply limits k app locale path text → TreeReply limits l app locale path text
tree_alike limits k l app locale path text h f (outcome, judged, told) = (
  outcome,
  looks_alike limits k l app locale path outcome h f judged,
  tree_outcome_alike limits k l (place_of app locale) path outcome text h.start (at_place app locale (SameFiles k l) h.files) told,
)

-- ---- one line

ask_alike : (limits : Limits) (k k' l : Kept) (ask : ExtendedAsk) (text : List ℕ) → IsSame (extended_asker ask) k l
    → has_all_apps limits k ≡ has_all_apps limits l → AskReply limits k ask text k'
    → Alike (extended_asker ask) k' (λ l'. AskReply limits l ask text l')
ask_alike limits k k' l (Calls call) text h f r = called_alike limits k k' l call text h f r
ask_alike limits k k' l (Puts app locale payload) text h f r = put_alike limits k k' l app locale payload text h f r
ask_alike limits k k' l (Releases app changes) text h f r = release_alike limits k k' l app changes text h f r
ask_alike limits k k' l (Exports app locale is_text) text h f (r, same) =
    (l, (export_alike limits k l is_text (app_of app) (name locale) text (at_read app (SameFiles k l) h.files) r, refl), same_as app k k' l same h)
ask_alike limits k k' l (AsksTree app locale path) text h f (r, same) =
    (l, (tree_alike limits k l app locale path text h f r, refl), same_as app k k' l same h)
ask_alike limits k k' l (AsksSizes app) text h f (r, same) =
    (l, (r ∙ sizes_alike limits k l (app_of app) (at_read app (SameFiles k l) h.files), refl), same_as app k k' l same h)
ask_alike limits k k' l (AsksUsage app) text h f (r, same) =
    (l, (r ∙ usage_alike k l (app_of app) (at_read app (SameFiles k l) h.files), refl), same_as app k k' l same h)

asked_alike : (limits : Limits) (app : List ℕ) (k k' l : Kept) (asked : Option ExtendedAsk) (text : List ℕ) → asks_of app asked ≡ true → IsSame app k l
    → has_all_apps limits k ≡ has_all_apps limits l → ExtendedReply limits k asked text k'
    → Alike app k' (λ l'. ExtendedReply limits l asked text l')
asked_alike limits app k k' l None text e h f r = absurd (false≢true e)
asked_alike limits app k k' l (Some ask) text e h f r =
    let own : extended_asker ask ≡ app = (bytes_eq-Decides (extended_asker ask) app).0 e in
    let one = ask_alike limits k k' l ask text (subst (λ (a : List ℕ). IsSame a k l) (sym own) h) f r in
    (one.0, one.1, subst (λ (a : List ℕ). IsSame a k' one.0) own one.2)

pub replies_alike : RepliesAlike
replies_alike limits app line text k k' l own h f (inl (long, told, same)) = (l, inl (long, told, refl), same_as app k k' l same h)
replies_alike limits app line text k k' l own h f (inr (short, inl r)) =
    let one = asked_alike limits app k k' l (extended_of line) text own h f r in (one.0, inr (short, inl one.1), one.2)
replies_alike limits app line text k k' l own h f (inr (short, inr (keeps, told, same))) =
    (l, inr (short, inr (keeps, told, refl)), same_as app k k' l same h)

-- ---- the lines of others

judged_alone : (limits : Limits) (k k' : Kept) (call : Call) (incoming : Option (List ℕ)) (outcome : Outcome) (app : List ℕ) → app ≢ caller call
    → IsJudged limits k call incoming outcome k' → IsSame app k k'
judged_alone limits k k' call incoming outcome app n (inl p) = stays app k k' p.same
judged_alone limits k k' call incoming outcome app n (inr p) = record { start = sym p.answered.start; files = sym (p.others app n) }

change_alone : (limits : Limits) (k k' : Kept) (change : Change) (app' locale : List ℕ) (payload : Payload) (line : Outcome → List ℕ) (text app : List ℕ)
    → app ≢ app' → ChangeReply limits k change app' locale payload line text k' → IsSame app k k'
change_alone limits k k' change app' locale payload line text app n (inl (r, unread, told, same)) = stays app k k' same
change_alone limits k k' made.Install app' locale payload line text app n (inr (file, outcome, brings, judged, told)) =
    judged_alone limits k k' (Requests (request.Install app' locale payload)) (Some file) outcome app n judged
change_alone limits k k' made.Replace app' locale payload line text app n (inr (file, outcome, brings, judged, told)) =
    judged_alone limits k k' (Requests (request.Replace app' locale payload)) (Some file) outcome app n judged

called_alone : (limits : Limits) (k k' : Kept) (call : Call) (text app : List ℕ) → app ≢ caller call → CalledReply limits k call text k' → IsSame app k k'
called_alone limits k k' (Requests (request.Install app' locale payload)) text app n r =
    change_alone limits k k' made.Install app' locale payload (outcome_line limits) text app n r
called_alone limits k k' (Requests (request.Replace app' locale payload)) text app n r =
    change_alone limits k k' made.Replace app' locale payload (outcome_line limits) text app n r
called_alone limits k k' call text app n (outcome, (incoming, brings, judged), told) = judged_alone limits k k' call incoming outcome app n judged

release_alone : (limits : Limits) (k k' : Kept) (app' : List ℕ) (changes : List ReleaseChange) (text app : List ℕ) → app ≢ app'
    → ReleaseReply limits k app' changes text k' → IsSame app k k'
release_alone limits k k' app' changes text app n (inl (r, unreleased, told, same)) = stays app k k' same
release_alone limits k k' app' changes text app n (inr (made, told)) =
    let is : made.own ≡ app' = app_is app' made.own made.is in
    record { start = sym (released_start limits k k' app' changes made); files = sym (made.others.files app (λ e. n (e ∙ is))) }

ask_alone : (limits : Limits) (k k' : Kept) (ask : ExtendedAsk) (text app : List ℕ) → app ≢ extended_asker ask → AskReply limits k ask text k' → IsSame app k k'
ask_alone limits k k' (Calls call) text app n r = called_alone limits k k' call text app n r
ask_alone limits k k' (Puts app' locale payload) text app n r =
    let b = is_stored k (place_of app' locale) in
    change_alone limits k k' (put_change b) app' locale payload (stored_line limits b) text app n r
ask_alone limits k k' (Releases app' changes) text app n r = release_alone limits k k' app' changes text app n r
ask_alone limits k k' ask text app n (r, same) = stays app k k' same

asked_alone : (limits : Limits) (app : List ℕ) (k k' : Kept) (asked : Option ExtendedAsk) (text : List ℕ) → asks_of app asked ≡ false
    → ExtendedReply limits k asked text k' → IsSame app k k'
asked_alone limits app k k' None text e (told, same) = stays app k k' same
asked_alone limits app k k' (Some ask) text e r =
    ask_alone limits k k' ask text app (λ h. false≢true (sym e ∙ (bytes_eq-Decides (extended_asker ask) app).1 (sym h))) r

pub leaves_alone : LeavesAlone
leaves_alone limits app line text k k' e (inl (long, told, same)) = stays app k k' same
leaves_alone limits app line text k k' e (inr (short, inl r)) = asked_alone limits app k k' (extended_of line) text e r
leaves_alone limits app line text k k' e (inr (short, inr (keeps, told, same))) = stays app k k' same

-- ---- all lines

no_apps_alike : (limits : Limits) (k l : Kept) → limits.apps ≡ None → has_all_apps limits k ≡ has_all_apps limits l
no_apps_alike limits k l none = rw none refl

abbrev Alone : Limits → (app : List ℕ) → (t end : Kept) → (lines replies : List (List ℕ)) → Type 0
Alone limits app t end lines replies = (end' : Kept) × IsSame app end end'
    × RepliesBy (ExtendedWithin limits) t (lines_of_app app lines) (replies_to_app app lines replies) end'

one_line : (limits : Limits) (app : List ℕ) (s mid t end : Kept) (line reply : List ℕ) (rest more : List (List ℕ)) (b : Bool) → is_line_of app line ≡ b
    → limits.apps ≡ None → IsSame app s t → ExtendedWithin limits s line reply mid
    → ((t' : Kept) → IsSame app mid t' → Alone limits app t' end rest more) → Alone limits app t end (line ∷ rest) (reply ∷ more)
one_line limits app s mid t end line reply rest more true e none h one later =
    let own = replies_alike limits app line reply s mid t e h (no_apps_alike limits s t none) one in
    let left = later own.0 own.2 in
    rw e (left.0, left.1, (own.0, own.1, left.2))
one_line limits app s mid t end line reply rest more false e none h one later =
    let left = leaves_alone limits app line reply s mid e one in
    rw e (later t (record { start = sym left.start ∙ h.start; files = sym left.files ∙ h.files }))

pub extended_isolated : AreExtendedIsolated
extended_isolated limits app s t end [] [] none h r = (t, same_as app s end t r h, refl)
extended_isolated limits app s t end [] (reply ∷ more) none h r = absurd r
extended_isolated limits app s t end (line ∷ rest) [] none h r = absurd r
extended_isolated limits app s t end (line ∷ rest) (reply ∷ more) none h (mid, one, r) =
    one_line limits app s mid t end line reply rest more (is_line_of app line) refl none h one
    (λ t' same. extended_isolated limits app mid t' end rest more none same r)
