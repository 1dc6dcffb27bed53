-- The changes of a release, one after another.
use Rattle.std.proofs.Common.{◌≡◌, ◌≤◌, ◌<◌, ◌+◌, ℕ, Bool, true, false, nat_lt, codes, zero, suc, inl, inr, List, [], ◌∷◌, ◌++◌, length, take, get_or, Option, Some, None, option_map, option_and_then, Result, Ok, Err, refl, sym, ◌∙◌, ap, subst, arith, append-nil, append_assoc}
use Rattle.std.specs.List.{slice_get}
use Rattle.std.specs.Prelude.{OnOk, IfErr, MatchOption}
use Rattle.std.proofs.lemmas.Bool.Decides.{nat_tests}
use Rattle.std.proofs.lemmas.List.{take_all}
use Rattle.std.proofs.lemmas.Option.{slice_get-get_or}
use Rattle.rb_locales.specs.Locale.{name}
use Rattle.rb_packages.specs.App.{app_of}
use Rattle.rb_packages.specs.Packages.{Files, files_of, OthersStay}
use Rattle.rb_packages.specs.Release.{Edits, Drafted, Sizes, IsDraftOf, edited, sizes_of, put_fault, removal_fault}
use Rattle.rb_packages.specs.Usage.{apps_of}
use Rattle.rb_packages.specs.declared.app.AppFault.{AppFault}
use Rattle.rb_packages.specs.declared.fault.DraftFault.{DraftFault}
use Rattle.rb_engine.specs.Change.{IsFileOf}
use Rattle.rb_engine.specs.Kept.{Kept}
use Rattle.rb_engine.specs.Place.{place_of}
use Rattle.rb_engine.specs.Source.{Reads}
use Rattle.rb_engine.specs.Version.{next_version}
use Rattle.rb_engine.specs.declared.place.Place.{Place}
use Rattle.rb_engine.specs.declared.request.Payload.{Payload}
use Rattle.rb_requests.specs.ExtendedAsked.{ReleaseChange, PutsAt, RemovesAt}
use Rattle.rb_requests.specs.ExtendedReply.{ReleaseReply}
use Rattle.rb_requests.specs.Limits.{is_over, payload_len}
use Rattle.rb_requests.specs.Refused.{Reason, at_index, only}
use Rattle.rb_requests.specs.Released.{draft_of, HasEdit, HaveEdits, IsUntaken, IsRefusedChange, IsRefusedAt, IsFirstRefused, IsSumRefused, IsUnreleased, IsReleased, sum_refusal}
use Rattle.rb_requests.specs.Steps.{BringsAt, is_read}
use Rattle.rb_requests.specs.declared.change_list.LineChange.{LineChange}
use Rattle.rb_requests.specs.declared.judged.Unmade.{Unmade}
use Rattle.rb_requests.specs.declared.judged.Unmade.TheVariants.{Refused, Memory}
use Rattle.rb_requests.specs.declared.limits.Limits.{Limits}
use Rattle.rb_requests.specs.inner.ChangesRead.{change_seen, changes_seen}
use Rattle.rb_requests.specs.inner.Drafted.{Adds, Drafts, IsPutRefused, IsReasonAt}
use Rattle.rb_requests.proofs.CallSteps.{short_read}
use Rattle.rb_requests.specs.inner.Judged.{IfRefused, IsTold, Judges, reason, reason_of}

-- ---- changes that were read

-- a change that was read, and the others
record Both (o : Option ReleaseChange) (os : Option (List ReleaseChange)) (cs : List ReleaseChange) : Type 0 where
  first : ReleaseChange
  rest : List ReleaseChange
  is : o ≡ Some first
  are : os ≡ Some rest
  all : cs ≡ first ∷ rest

both : (o : Option ReleaseChange) (os : Option (List ReleaseChange)) (cs : List ReleaseChange)
    → option_and_then (λ c. option_map (λ rest. c ∷ rest) os) o ≡ Some cs → Both o os cs
both None os cs e = cc
both (Some c) None cs e = cc
both (Some c) (Some rest) cs e =
    record { first = c; rest = rest; is = refl; are = refl; all = let same : c ∷ rest ≡ cs = cc in sym same }

-- the change at an index
pub seen_at : (changes : List LineChange) (cs : List ReleaseChange) (i : ℕ) (change : LineChange) → changes_seen changes ≡ Some cs
    → slice_get changes i ≡ Some change → (c : ReleaseChange) × (change_seen change ≡ Some c) × (slice_get cs i ≡ Some c)
seen_at [] cs i change e at = cc
seen_at (x ∷ xs) cs zero change e at =
    let two = both (change_seen x) (changes_seen xs) cs e in
    let same : x ≡ change = cc in (
      two.first,
      subst (λ (it : LineChange). change_seen it ≡ Some two.first) same two.is,
      subst (λ (l : List ReleaseChange). slice_get l zero ≡ Some two.first) (sym two.all) refl,
    )
seen_at (x ∷ xs) cs (suc i) change e at =
    let two = both (change_seen x) (changes_seen xs) cs e in
    let later = seen_at xs two.rest i change two.are at in
    (later.0, later.1, subst (λ (l : List ReleaseChange). slice_get l (suc i) ≡ Some later.0) (sym two.all) later.2)

pub seen_count : (changes : List LineChange) (cs : List ReleaseChange) → changes_seen changes ≡ Some cs → length cs ≡ length changes
seen_count [] cs e = let same : [] ≡ cs = cc in sym (ap length same)
seen_count (x ∷ xs) cs e =
    let two = both (change_seen x) (changes_seen xs) cs e in
    ap length two.all ∙ ap suc (seen_count xs two.rest two.are)

-- ---- drafts

-- a draft without edits
pub draft_begun : (files : Files) (draft : Drafted) → draft.edits ≡ [] → draft.sizes ≡ sizes_of files → IsDraftOf files draft
draft_begun files draft none sizes = rw none sizes

-- a draft counts files as `draft_of` does
put_as : (app : List ℕ) (files : Files) (draft : Drafted) (n : List ℕ) → IsDraftOf files draft
    → put_fault n draft ≡ put_fault n (draft_of app files draft.edits)
put_as app files draft n is =
    ap (λ (sizes : Sizes). put_fault n (record { app = draft.app; edits = draft.edits; sizes = sizes })) is

removal_as : (app : List ℕ) (files : Files) (draft : Drafted) (n : List ℕ) → IsDraftOf files draft
    → removal_fault n draft ≡ removal_fault n (draft_of app files draft.edits)
removal_as app files draft n is =
    ap (λ (sizes : Sizes). removal_fault n (record { app = draft.app; edits = draft.edits; sizes = sizes })) is

edit_as : (limits : Limits) (app : List ℕ) (files : Files) (draft : Drafted) (c : ReleaseChange) (e : List ℕ × Option (List ℕ))
    → IsDraftOf files draft → HasEdit limits app draft c e → HasEdit limits app (draft_of app files draft.edits) c e
edit_as limits app files draft (PutsAt locale payload) e is (p, file, at, brings, free, short, same) =
    (p, file, at, brings, sym (put_as app files draft p.name is) ∙ free, short, same)
edit_as limits app files draft (RemovesAt locale) e is (n, at, free, same) = (n, at, sym (removal_as app files draft n is) ∙ free, same)

put_refused_as : (limits : Limits) (app : List ℕ) (files : Files) (draft : Drafted) (p : Place) (file : List ℕ) (r : Reason) → IsDraftOf files draft
    → IsPutRefused limits draft p file r → IsPutRefused limits (draft_of app files draft.edits) p file r
put_refused_as limits app files draft p file r is h =
    subst (λ (o : Option DraftFault). MatchOption o ((is_over limits.bundle_bytes (length file) ≡ true) × (r ≡ only (codes "BundleTooLong"))) (IsUntaken r))
    (put_as app files draft p.name is) h

removal_refused_as : (app : List ℕ) (files : Files) (draft : Drafted) (o : Option (List ℕ)) (r : Reason) → IsDraftOf files draft
    → MatchOption o (r ≡ only (codes "BadLocale")) (λ n. MatchOption (removal_fault n draft) ⊥ (IsUntaken r))
    → MatchOption o (r ≡ only (codes "BadLocale")) (λ n. MatchOption (removal_fault n (draft_of app files draft.edits)) ⊥ (IsUntaken r))
removal_refused_as app files draft None r is h = h
removal_refused_as app files draft (Some n) r is h =
    subst (λ (o : Option DraftFault). MatchOption o ⊥ (IsUntaken r)) (removal_as app files draft n is) h

refused_as : (limits : Limits) (app : List ℕ) (files : Files) (draft : Drafted) (c : ReleaseChange) (r : Reason) → IsDraftOf files draft
    → IsRefusedChange limits app draft c r → IsRefusedChange limits app (draft_of app files draft.edits) c r
refused_as limits app files draft (PutsAt locale payload) r is (inl unread) = inl unread
refused_as limits app files draft (PutsAt locale payload) r is (inr (p, file, at, brings, h)) =
    inr (p, file, at, brings, put_refused_as limits app files draft p file r is h)
refused_as limits app files draft (RemovesAt locale) r is h = removal_refused_as app files draft (name locale) r is h

refused_at_as : (limits : Limits) (app : List ℕ) (files : Files) (draft : Drafted) (i : ℕ) (c : ReleaseChange) (r : Reason) → IsDraftOf files draft
    → IsRefusedAt limits app draft i c r → IsRefusedAt limits app (draft_of app files draft.edits) i c r
refused_at_as limits app files draft i c r is h = by (nat_lt i 4096) refl
  where
    by : (b : Bool) → nat_lt i 4096 ≡ b → IsRefusedAt limits app (draft_of app files draft.edits) i c r
    by true e = rw e (refused_as limits app files draft c r is (rw e at h))
    by false e = rw e (rw e at h)

-- ---- their edits

-- one more change
edits_push : (limits : Limits) (app : List ℕ) (files : Files) (done : Edits) (cs : List ReleaseChange) (i : ℕ) (c : ReleaseChange) (es : Edits)
    (e : List ℕ × Option (List ℕ)) → slice_get cs i ≡ Some c → HaveEdits limits app files done (take i cs) es
    → HasEdit limits app (draft_of app files (done ++ es)) c e → HaveEdits limits app files done (take (suc i) cs) (es ++ e ∷ [])
edits_push limits app files done [] i c es e at have has = cc
edits_push limits app files done (x ∷ xs) zero c [] e at have has =
    let same : x ≡ c = cc in
    let first : HasEdit limits app (draft_of app files done) c e =
    subst (λ (es : Edits). HasEdit limits app (draft_of app files es) c e) (append-nil done) has in
    (subst (λ (it : ReleaseChange). HasEdit limits app (draft_of app files done) it e) (sym same) first, tt)
edits_push limits app files done (x ∷ xs) zero c (y ∷ ys) e at have has = absurd have
edits_push limits app files done (x ∷ xs) (suc i) c [] e at have has = absurd have
edits_push limits app files done (x ∷ xs) (suc i) c (y ∷ ys) e at have has =
    let later : HasEdit limits app (draft_of app files ((done ++ y ∷ []) ++ ys)) c e =
    subst (λ (es : Edits). HasEdit limits app (draft_of app files es) c e) (sym (append_assoc done (y ∷ []) ys)) has in
    (have.0, edits_push limits app files (done ++ y ∷ []) xs i c ys e at have.1 later)

edits_next : (limits : Limits) (app : List ℕ) (files : Files) (cs : List ReleaseChange) (i : ℕ) (c : ReleaseChange) (es all : Edits)
    (e : List ℕ × Option (List ℕ)) → slice_get cs i ≡ Some c → HaveEdits limits app files [] (take i cs) es
    → HasEdit limits app (draft_of app files es) c e → all ≡ es ++ e ∷ [] → HaveEdits limits app files [] (take (i + 1) cs) all
edits_next limits app files cs i c es all e at have has is =
    let one : suc i ≡ i + 1 = omega arith in
    rw is (subst (λ n. HaveEdits limits app files [] (take n cs) (es ++ e ∷ [])) one (edits_push limits app files [] cs i c es e at have has))

-- all changes
pub edits_all : (limits : Limits) (app : List ℕ) (files : Files) (changes : List LineChange) (cs : List ReleaseChange) (es : Edits)
    → changes_seen changes ≡ Some cs → HaveEdits limits app files [] (take (length changes) cs) es → HaveEdits limits app files [] cs es
edits_all limits app files changes cs es e have =
    let count = seen_count changes cs e in
    subst (λ (l : List ReleaseChange). HaveEdits limits app files [] l es) (take_all (length changes) cs (omega (arith, count))) have

-- ---- refusals

-- a weaker statement on the reason
pub refused_more : (u : Unmade) (Is More : Reason → Type 0) → ((r : Reason) → Is r → More r) → IfRefused u Is → IfRefused u More
refused_more (Refused word detail) Is More f h = f (reason word.now detail) h
refused_more Memory Is More f h = h

has_reason : (u : Unmade) (r : Reason) (Is : Reason → Type 0) → reason_of u ≡ Some r → Is r → IfRefused u Is
has_reason (Refused word detail) r Is e h = let same : reason word.now detail ≡ r = cc in subst Is (sym same) h
has_reason Memory r Is e h = tt

-- the reason at an index
pub refused_at : (u v : Unmade) (i : ℕ) (Is : Reason → Type 0) → reason_of v ≡ option_map (at_index i) (reason_of u) → IfRefused u Is
    → IfRefused v (λ r. (why : Reason) × Is why × (r ≡ at_index i why))
refused_at (Refused word detail) (Refused word' detail') i Is e h =
    let same : reason word'.now detail' ≡ at_index i (reason word.now detail) = cc in (reason word.now detail, h, same)
refused_at Memory (Refused word' detail') i Is e h = cc
refused_at u Memory i Is e h = tt

first_refused : (limits : Limits) (app : List ℕ) (files : Files) (cs : List ReleaseChange) (i : ℕ) (c : ReleaseChange) (draft : Drafted) (u : Unmade)
    → slice_get cs i ≡ Some c → HaveEdits limits app files [] (take i cs) draft.edits → IsDraftOf files draft
    → IfRefused u (IsReasonAt limits app draft i c) → IfRefused u (IsFirstRefused limits app files cs)
first_refused limits app files cs i c draft (Refused word detail) at have counts (why, refused, is) =
    (i, c, at, draft.edits, have, why, refused_at_as limits app files draft i c why counts refused, is)
first_refused limits app files cs i c draft Memory at have counts h = tt

-- ---- what a change comes to

brings_read : (limits : Limits) (app locale : List ℕ) (payload : Payload) (p : Place) (file : List ℕ) → Reads app locale payload (Ok (p, file))
    → IsFileOf payload file → is_read limits (place_of app locale) payload ≡ true → BringsAt limits (place_of app locale) payload (Some file)
brings_read limits app locale payload p file reads is read =
    let long = short_read limits (place_of app locale) payload read in
    let short : is_over limits.bundle_bytes (payload_len payload) ≡ false = rw reads.0 at long in
    rw (reads.0, short) (reads.1, is)

-- a bundle that was read
pub put_drafts : (limits : Limits) (app locale : List ℕ) (payload : Payload) (incoming : Place × List ℕ) (old new : Drafted)
    (r : Result (Unit {0}) Unmade) → Reads app locale payload (Ok incoming) → IsFileOf payload incoming.1
    → is_read limits (place_of app locale) payload ≡ true
    → OnOk r ((is_over limits.bundle_bytes (length incoming.1) ≡ false) × (put_fault incoming.0.name old ≡ None) × Adds old (incoming.0.name, Some incoming.1) new)
    → IfErr r (λ unmade. IfRefused unmade (IsPutRefused limits old incoming.0 incoming.1))
    → Drafts limits app (PutsAt locale payload) old r new
put_drafts limits app locale payload (p, file) old new (Ok x) reads is read added refused =
    let brings = brings_read limits app locale payload p file reads is read in
    ((p.name, Some file), (p, file, reads.0, brings, added.1, added.0, refl), added.2)
put_drafts limits app locale payload (p, file) old new (Err unmade) reads is read added refused =
    let brings = brings_read limits app locale payload p file reads is read in
    refused_more unmade (IsPutRefused limits old p file) (IsRefusedChange limits app old (PutsAt locale payload))
    (λ r h. inr (p, file, reads.0, brings, h)) refused

-- a payload that wasn't read
pub unread_drafts : (limits : Limits) (app locale : List ℕ) (payload : Payload) (old new : Drafted) (unmade : Unmade)
    → Judges limits app locale payload (Err unmade) → Drafts limits app (PutsAt locale payload) old (Err unmade) new
unread_drafts limits app locale payload old new (Refused word detail) h = inl h
unread_drafts limits app locale payload old new Memory h = tt

-- ---- the change at an index

seen_or : (changes : List LineChange) (cs : List ReleaseChange) (i : ℕ) (d : LineChange) → changes_seen changes ≡ Some cs → i < length changes
    → (c : ReleaseChange) × (change_seen (get_or changes i d) ≡ Some c) × (slice_get cs i ≡ Some c)
seen_or changes cs i d e within = seen_at changes cs i (get_or changes i d) e (slice_get-get_or changes i d within)

-- the changes so far, in a draft
abbrev pub SoFar : Limits → (app : List ℕ) → Files → List ReleaseChange → ℕ → Drafted → Type 0
SoFar limits app files cs i draft = HaveEdits limits app files [] (take i cs) draft.edits × IsDraftOf files draft

pub push_or : (limits : Limits) (app : List ℕ) (files : Files) (changes : List LineChange) (cs : List ReleaseChange) (i : ℕ) (d : LineChange)
    (old new : Drafted) → changes_seen changes ≡ Some cs → i < length changes → SoFar limits app files cs i old
    → ((c : ReleaseChange) → change_seen (get_or changes i d) ≡ Some c
    → (edit : List ℕ × Option (List ℕ)) × HasEdit limits app old c edit × Adds old edit new)
    → SoFar limits app files cs (i + 1) new
push_or limits app files changes cs i d old new e within so_far drafts =
    let seen = seen_or changes cs i d e within in
    let drafted = drafts seen.0 seen.1 in
    let has = edit_as limits app files old seen.0 drafted.0 so_far.1 drafted.1 in
    (edits_next limits app files cs i seen.0 old.edits new.edits drafted.0 seen.2 so_far.0 has drafted.2.edits, drafted.2.counts files so_far.1)

pub refuse_or : (limits : Limits) (app : List ℕ) (files : Files) (changes : List LineChange) (cs : List ReleaseChange) (i : ℕ) (d : LineChange)
    (old : Drafted) (u : Unmade) → changes_seen changes ≡ Some cs → i < length changes → SoFar limits app files cs i old
    → ((c : ReleaseChange) → change_seen (get_or changes i d) ≡ Some c → IfRefused u (IsReasonAt limits app old i c))
    → IfRefused u (IsFirstRefused limits app files cs)
refuse_or limits app files changes cs i d old u e within so_far refuses =
    let seen = seen_or changes cs i d e within in
    first_refused limits app files cs i seen.0 old u seen.2 so_far.0 so_far.1 (refuses seen.0 seen.1)

-- a change above the limit
pub full_at : (limits : Limits) (app : List ℕ) (draft : Drafted) (i : ℕ) (c : ReleaseChange) (u v : Unmade) → 4096 ≤ i
    → reason_of u ≡ Some (only (codes "Full")) → reason_of v ≡ option_map (at_index i) (reason_of u) → IfRefused v (IsReasonAt limits app draft i c)
full_at limits app draft i c u v above e at =
    let over : nat_lt i 4096 ≡ false = grind (arith, nat_tests) in
    let full : IsRefusedAt limits app draft i c (only (codes "Full")) = rw over refl in
    refused_at u v i (IsRefusedAt limits app draft i c) at (has_reason u (only (codes "Full")) (IsRefusedAt limits app draft i c) e full)

-- a change that is refused within the limit
pub not_full_at : (limits : Limits) (app : List ℕ) (draft : Drafted) (i : ℕ) (c : ReleaseChange) (u v : Unmade) → i < 4096
    → IfRefused u (IsRefusedChange limits app draft c) → reason_of v ≡ option_map (at_index i) (reason_of u) → IfRefused v (IsReasonAt limits app draft i c)
not_full_at limits app draft i c u v below refused at =
    let under : nat_lt i 4096 ≡ true = grind (arith, nat_tests) in
    let is : (r : Reason) → IsRefusedChange limits app draft c r → IsRefusedAt limits app draft i c r = λ r h. rw under h in
    refused_at u v i (IsRefusedAt limits app draft i c) at (refused_more u (IsRefusedChange limits app draft c) (IsRefusedAt limits app draft i c) is refused)

-- ---- a release

pub unreleased_first : (limits : Limits) (old : Kept) (app a : List ℕ) (r : Result (List ℕ) AppFault) (cs : List ReleaseChange) (u : Unmade)
    → r ≡ Ok a → IfRefused u (IsFirstRefused limits app (files_of a old.packages) cs) → IfRefused u (IsUnreleased limits old app r cs)
unreleased_first limits old app a r cs u is h =
    subst (λ (it : Result (List ℕ) AppFault). IfRefused u (IsUnreleased limits old app it cs)) (sym is)
    (refused_more u (IsFirstRefused limits app (files_of a old.packages) cs) (IsUnreleased limits old app (Ok a) cs) (λ why first. inl first) h)

pub unreleased_sum : (limits : Limits) (old : Kept) (app a : List ℕ) (r : Result (List ℕ) AppFault) (cs : List ReleaseChange) (u : Unmade)
    (es : Edits) → r ≡ Ok a → HaveEdits limits app (files_of a old.packages) [] cs es → IfRefused u (IsSumRefused limits old a es)
    → IfRefused u (IsUnreleased limits old app r cs)
unreleased_sum limits old app a r cs u es is have h =
    subst (λ (it : Result (List ℕ) AppFault). IfRefused u (IsUnreleased limits old app it cs)) (sym is)
    (refused_more u (IsSumRefused limits old a es) (IsUnreleased limits old app (Ok a) cs) (λ why sum. inr (es, have, sum)) h)

pub releases : (limits : Limits) (old new : Kept) (app : List ℕ) (cs : List ReleaseChange) (draft : Drafted) → app_of app ≡ Ok draft.app
    → HaveEdits limits app (files_of draft.app old.packages) [] cs draft.edits → length cs ≤ 4096
    → sum_refusal limits (files_of draft.app old.packages) (edited draft.edits (files_of draft.app old.packages)) (apps_of old.packages) ≡ None
    → files_of draft.app new.packages ≡ edited draft.edits (files_of draft.app old.packages) → OthersStay draft.app old.packages new.packages
    → new.parents ≡ old.parents → new.version ≡ next_version old.version → IsReleased limits old app cs new
releases limits old new app cs draft is have few free files others parents version = record {
  own = draft.app;
  is = is;
  few = few;
  edits = draft.edits;
  all = have;
  files = files;
  free = rw files free;
  others = others;
  parents = parents;
  version = version;
}

-- the reply to a release that isn't made
pub release_untold : {E : Type 0} (r : Result (Unit {0}) E) (limits : Limits) (old new : Kept) (app : List ℕ) (changes : List LineChange)
    (u : Unmade) (text : List ℕ) → OnOk r (IsTold u text)
    → ((cs : List ReleaseChange) → changes_seen changes ≡ Some cs → IfRefused u (IsUnreleased limits old app (app_of app) cs))
    → new ≡ old → OnOk r ((cs : List ReleaseChange) → changes_seen changes ≡ Some cs → ReleaseReply limits old app cs text new)
release_untold (Ok x) limits old new app changes (Refused word detail) text told refused same =
    λ cs e. inl (reason word.now detail, refused cs e, told, same)
release_untold (Ok x) limits old new app changes Memory text told refused same = absurd told
release_untold (Err e) limits old new app changes u text told refused same = tt
