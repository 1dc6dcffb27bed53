-- The locales that an engine keeps open.
use Rattle.std.proofs.Common.{◌≡◌, ◌≢◌, ◌<◌, ◌≤◌, ◌⊎◌, ℕ, zero, suc, List, [], ◌∷◌, Bool, true, Option, Some, None, IfSome, Ok, replicate, set, refl, ap, sym, ◌∙◌, subst, arith, inl, inr}
use Rattle.std.specs.List.{slice_get}
use Rattle.rb_parents.specs.Trail.{Bundles, ParentsOf}
use Rattle.rb_fallback.specs.Stops.{AreStopsOf, CountsTrail}
use Rattle.rb_packages.specs.Packages.{Files, OthersStay, Stored, files_of, icudata_of, list_of}
use Rattle.rb_packages.specs.Shelf.{bundle_at}
use Rattle.rb_engine.specs.Answer.{Response, lookup_in}
use Rattle.rb_engine.specs.OpenLocale.{names_of, opened_stop}
use Rattle.rb_engine.specs.Place.{place_of}
use Rattle.rb_engine.specs.Steps.{exceeds_from}
use Rattle.rb_engine.specs.Version.{is_current, last_version, next_version}
use Rattle.rb_engine.specs.inner.KeptLocales.{AreKept, IsAnsweredFor, IsKept, IsOpenAt, IsOpenFor, IsOpenOver, IsOpenWithin, TakesMoreFor}
use Rattle.rb_engine.specs.inner.LastChanges.{AreUpTo, HasChanged, group_of, version_in}
use Rattle.rb_engine.specs.declared.request.Reply.{Reply}
use Rattle.rb_engine.specs.declared.request.Reply.TheVariants.{Done}
use Rattle.rb_engine.specs.declared.versions.Versions.{Versions}
use Rattle.rb_engine.specs.declared.open_locale.OpenLocale.{OpenLocale}
use Rattle.rb_engine.specs.declared.open_locales.Slot.{Slot}
use Rattle.rb_engine.specs.declared.place.Place.{Place}
use Rattle.rb_engine.proofs.LastChanges.{same_or, version_other, version_same}
use Rattle.rb_engine.proofs.StayingOpen.{current_is}

-- ---- after a call
slot_change : (slot : Slot) (app : List ℕ) (p q : Stored) (ps : ParentsOf) (versions : List ℕ) (v w : ℕ) → w ≡ next_version v → OthersStay app p q
    → AreUpTo versions v → IsKept slot p ps versions v → IsKept slot q ps (set versions (group_of app) w) w
slot_change slot app p q ps versions v w e o u s = record {
  read = s.read;
  open_now = λ c. by c (same_or (group_of slot.place.app) (group_of app));
  not_later = λ l. omega (arith, l, s.not_later l, e);
}
  where
    by : is_current slot.opened.version (version_in (set versions (group_of app) w) slot.place.app) ≡ true
        → (group_of slot.place.app ≡ group_of app) ⊎ (group_of slot.place.app ≢ group_of app) → IsOpenAt slot.opened q ps slot.place
    by c (inl same) =
        let here = version_same versions app w slot.place.app u.all same in
        let now : is_current slot.opened.version w ≡ true = subst (λ (x : ℕ). is_current slot.opened.version x ≡ true) here c in
        let (is, low) = current_is slot.opened.version w now in
        let early : slot.opened.version ≤ v = s.not_later (omega (arith, is, low)) in
        absurd (omega (arith, is, low, early, e))
    by c (inr n) =
        let here = version_other versions app w slot.place.app n in
        let before : is_current slot.opened.version (version_in versions slot.place.app) ≡ true =
        subst (λ (x : ℕ). is_current slot.opened.version x ≡ true) here c in
        subst (λ (fs : Files). IsOpenOver slot.opened fs ps slot.place.name) (sym (o.files slot.place.app (λ same. n (ap group_of same)))) (s.open_now before)

-- a change of an application closes no locale of another group
pub kept_change : (slots : List (Option Slot)) (app : List ℕ) (p q : Stored) (ps : ParentsOf) (versions : List ℕ) (v w : ℕ) → w ≡ next_version v
    → OthersStay app p q → AreUpTo versions v → AreKept slots p ps versions v → AreKept slots q ps (set versions (group_of app) w) w
kept_change slots app p q ps versions v w e o u k = λ i slot at. slot_change slot app p q ps versions v w e o u (k i slot at)

pub kept_after : (slots : List (Option Slot)) (p q : Stored) (ps : ParentsOf) (x y : Versions) → HasChanged p q x y → AreUpTo x.groups x.latest
    → AreKept slots p ps x.groups x.latest → AreKept slots q ps y.groups y.latest
kept_after slots p q ps x y h u k =
    subst (λ (gs : List ℕ). AreKept slots q ps gs y.latest) (sym h.groups) (kept_change slots h.app p q ps x.groups x.latest y.latest h.latest h.others u k)

-- a call changes something if and only if its reply says so
pub kept_reply : (slots : List (Option Slot)) (p q : Stored) (ps : ParentsOf) (x y : Versions) (r : Reply) → (r ≡ Done → HasChanged p q x y)
    → (r ≢ Done → (q ≡ p) × (y ≡ x)) → AreUpTo x.groups x.latest → AreKept slots p ps x.groups x.latest → AreKept slots q ps y.groups y.latest
kept_reply slots p q ps x y Done f g u k = kept_after slots p q ps x y (f refl) u k
kept_reply slots p q ps x y r f g u k =
    let (same, still) = g (λ e. cc) in
    subst (λ (z : Versions). AreKept slots q ps z.groups z.latest) (sym still) (subst (λ (s : Stored). AreKept slots s ps x.groups x.latest) (sym same) k)

-- ---- slots
pub no_slot : (n i : ℕ) (slot : Slot) → slice_get (replicate n None) i ≡ Some (Some slot) → ⊥
no_slot zero i slot e = cc
no_slot (suc n) zero slot e = cc
no_slot (suc n) (suc i) slot e = no_slot n i slot e

pub open_for : (slot : Slot) (packages : Stored) (ps : ParentsOf) (versions : List ℕ) (latest version : ℕ) (app locale : List ℕ)
    → IsKept slot packages ps versions latest → slot.place.app ≡ app → slot.place.name ≡ locale → version ≡ version_in versions app
    → is_current slot.opened.version version ≡ true → IsOpenFor slot packages ps app locale
open_for slot packages ps versions latest version app locale s a n e current =
    let same : version ≡ version_in versions slot.place.app = e ∙ sym (ap (version_in versions) a) in
    record {
      read = subst (λ (x : List ℕ). place_of x locale ≡ Ok slot.place) a (subst (λ (x : List ℕ). place_of slot.place.app x ≡ Ok slot.place) n s.read);
      open_there = s.open_now (subst (λ (x : ℕ). is_current slot.opened.version x ≡ true) same current);
    }

-- a lookup from there, over shelves with the files of the application and of ICUDATA
module _ (slot : Slot) (packages : Stored) (ps : ParentsOf) (app locale path : List ℕ) (own icu : Bundles)
    (a : IsOpenFor slot packages ps app locale) (is_own : own ≡ bundle_at (list_of slot.place.app packages))
    (is_icu : icu ≡ bundle_at (icudata_of packages)) where
  pub answered_for : (response : Response) → response ≡ lookup_in own icu ps slot.place.name path → IsAnsweredFor response packages ps app locale path
  answered_for response e = record {
    place = slot.place;
    read = a.read;
    answer = rw (← is_own, ← is_icu) e;
  }

  pub takes_for : (more : Bool) (left : Option ℕ) → exceeds_from left own icu ps slot.place.name path ≡ more
      → TakesMoreFor more left packages ps app locale path
  takes_for more left e = record {
    place = slot.place;
    read = a.read;
    takes = rw (← is_own, ← is_icu) e;
  }

pub some_answered : {A : Type 0} (o : Option A) (P Q : A → Type 0) → ((x : A) → P x → Q x) → IfSome o P → IfSome o Q
some_answered None P Q f a = a
some_answered (Some x) P Q f a = f x a

-- the place to which the names lead is the one that is known
pub answered_at : (response : Response) (packages : Stored) (ps : ParentsOf) (app locale path : List ℕ) (place : Place)
    → IsAnsweredFor response packages ps app locale path → app ≡ place.app → locale ≡ place.name → place_of place.app place.name ≡ Ok place
    → response ≡ lookup_in (bundle_at (list_of place.app packages)) (bundle_at (icudata_of packages)) ps place.name path
answered_at response packages ps app locale path place a same_app same_name own =
    let read : place_of app place.name ≡ Ok a.place = subst (λ (x : List ℕ). place_of app x ≡ Ok a.place) same_name a.read in
    let reads : Ok a.place ≡ Ok place = sym (subst (λ (x : List ℕ). place_of x place.name ≡ Ok a.place) same_app read) ∙ own in
    let same : a.place ≡ place = cc in
    subst (λ (p : Place). response ≡ lookup_in (bundle_at (list_of p.app packages)) (bundle_at (icudata_of packages)) ps p.name path) same a.answer

-- a new slot
pub opened_is : (opened : OpenLocale) (packages : Stored) (ps : ParentsOf) (versions : List ℕ) (latest version : ℕ) (place : Place)
    → opened.version ≡ version → (version < last_version → version ≤ latest)
    → place_of place.app place.name ≡ Ok place
    → AreStopsOf (opened_stop opened (files_of place.app packages)) (bundle_at (list_of place.app packages)) ps place.name
    → CountsTrail (names_of opened) (bundle_at (list_of place.app packages)) ps place.name
    → IsKept (record { place = place; opened = opened }) packages ps versions latest
opened_is opened packages ps versions latest version place same past read stops names = record {
  read = read;
  open_now = λ c. record { stops = stops; names = names };
  not_later = λ l. omega (arith, same, past (omega (arith, same, l)));
}

pub get_set : {A : Type 0} (l : List A) (i j : ℕ) (x y : A) → slice_get (set l i x) j ≡ Some y → (y ≡ x) ⊎ (slice_get l j ≡ Some y)
get_set [] i j x y e = inr e
get_set (a ∷ l) zero zero x y e = inl cc
get_set (a ∷ l) zero (suc j) x y e = inr e
get_set (a ∷ l) (suc i) zero x y e = inr e
get_set (a ∷ l) (suc i) (suc j) x y e = get_set l i j x y e

pub kept_put : (slots : List (Option Slot)) (index : ℕ) (slot : Slot) (packages : Stored) (ps : ParentsOf) (versions : List ℕ) (latest : ℕ)
    → IsKept slot packages ps versions latest → AreKept slots packages ps versions latest
    → AreKept (set slots index (Some slot)) packages ps versions latest
kept_put slots index slot packages ps versions latest s k = λ i other at. by other i (get_set slots index i (Some slot) (Some other) at)
  where
    by : (other : Slot) (i : ℕ) → (Some other ≡ Some slot) ⊎ (slice_get slots i ≡ Some (Some other)) → IsKept other packages ps versions latest
    by other i (inl e) = let same : slot ≡ other = cc in subst (λ (x : Slot). IsKept x packages ps versions latest) same s
    by other i (inr e) = k i other e

-- with a limit or none
pub open_within : {opened : OpenLocale} {files : Files} {ps : ParentsOf} {n : List ℕ} (left : Option ℕ) → IsOpenOver opened files ps n
    → IsOpenWithin left opened files ps n
open_within None o = record { stops = o.stops; names = tt }
open_within (Some steps) o = record { stops = o.stops; names = o.names }
