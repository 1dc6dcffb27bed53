-- The items that an engine keeps for its lookups.
use Rattle.std.proofs.Common.{◌≡◌, ◌≢◌, ◌<◌, ◌≤◌, ◌⊎◌, ℕ, List, Bool, true, false, Option, Some, Ok, nat_lt, set, refl, ap, sym, ◌∙◌, subst, arith, inl, inr}
use Rattle.std.proofs.lemmas.Bool.{ltb-false, le-ltb}
use Rattle.std.specs.List.{slice_get}
use Rattle.rb_tree.specs.Path.{is_path, segments}
use Rattle.rb_parents.specs.Trail.{Bundles, ParentsOf}
use Rattle.rb_fallback.specs.Search.{Hit}
use Rattle.rb_fallback.specs.Steps.{look_steps}
use Rattle.rb_packages.specs.Packages.{Files, OthersStay, Stored, files_of, icudata_files, icudata_of, list_of, shelf_of}
use Rattle.rb_packages.specs.Shelf.{bundle_at}
use Rattle.rb_engine.specs.Answer.{Finds, lookup_in}
use Rattle.rb_engine.specs.Place.{place_of}
use Rattle.rb_engine.specs.Steps.{takes_more_from}
use Rattle.rb_engine.specs.Version.{is_current, last_version, next_version}
use Rattle.rb_engine.specs.inner.KeptItems.{AreItemsKept, IsAnswer, IsAtSpot, IsItemKept, IsWithinSteps}
use Rattle.rb_engine.specs.inner.KeptLocales.{IsAnsweredFor, TakesMoreFor}
use Rattle.rb_engine.specs.inner.LastChanges.{AreUpTo, HasChanged, group_of, version_in}
use Rattle.rb_engine.specs.declared.request.Reply.{Reply}
use Rattle.rb_engine.specs.declared.request.Reply.TheVariants.{Done}
use Rattle.rb_engine.specs.declared.versions.Versions.{Versions}
use Rattle.rb_engine.specs.declared.kept_items.KeptItem.{KeptItem}
use Rattle.rb_engine.proofs.KeptOpen.{get_set}
use Rattle.rb_engine.proofs.LastChanges.{same_or, version_other, version_same}
use Rattle.rb_engine.proofs.StayingOpen.{current_is}

-- ---- after a call
-- the lookup of an item over these files
abbrev Answers : KeptItem → ParentsOf → Files → Files → Type 0
Answers item ps own icudata =
    ((hit : Hit) (valid : List ℕ) → IsAtSpot item.spot own icudata hit valid
    → lookup_in (bundle_at (shelf_of own)) (bundle_at (shelf_of icudata)) ps item.place.name item.path ≡ Finds hit valid)
    × (takes_more_from item.steps (bundle_at (shelf_of own)) (bundle_at (shelf_of icudata)) ps item.place.name item.path ≡ false)

item_change : (item : KeptItem) (app : List ℕ) (p q : Stored) (ps : ParentsOf) (versions : List ℕ) (v w : ℕ) → w ≡ next_version v → OthersStay app p q
    → AreUpTo versions v → IsItemKept item p ps versions v → IsItemKept item q ps (set versions (group_of app) w) w
item_change item app p q ps versions v w e o u s = record {
  read = s.read;
  answers_now = λ c. by c (same_or (group_of item.place.app) (group_of app));
  not_later = λ l. omega (arith, l, s.not_later l, e);
}
  where
    by : is_current item.version (version_in (set versions (group_of app) w) item.place.app) ≡ true
        → (group_of item.place.app ≡ group_of app) ⊎ (group_of item.place.app ≢ group_of app) → IsAnswer item q ps × IsWithinSteps item q ps
    by c (inl same) =
        let here = version_same versions app w item.place.app u.all same in
        let now : is_current item.version w ≡ true = subst (λ (x : ℕ). is_current item.version x ≡ true) here c in
        let (is, low) = current_is item.version w now in
        let early : item.version ≤ v = s.not_later (omega (arith, is, low)) in
        absurd (omega (arith, is, low, early, e))
    by c (inr n) =
        let here = version_other versions app w item.place.app n in
        let before : is_current item.version (version_in versions item.place.app) ≡ true =
        subst (λ (x : ℕ). is_current item.version x ≡ true) here c in
        let then : Answers item ps (files_of item.place.app p) (icudata_files p) = s.answers_now before in
        subst (λ (fs : Files). Answers item ps fs (icudata_files q)) (sym (o.files item.place.app (λ same. n (ap group_of same))))
        (subst (λ (fs : Files). Answers item ps (files_of item.place.app p) fs) (sym o.icudata_bytes) then)

-- a change of an application leaves the items of other groups
pub items_change : (slots : List (Option KeptItem)) (app : List ℕ) (p q : Stored) (ps : ParentsOf) (versions : List ℕ) (v w : ℕ) → w ≡ next_version v
    → OthersStay app p q → AreUpTo versions v → AreItemsKept slots p ps versions v → AreItemsKept slots q ps (set versions (group_of app) w) w
items_change slots app p q ps versions v w e o u k = λ i item at. item_change item app p q ps versions v w e o u (k i item at)

pub items_after : (slots : List (Option KeptItem)) (p q : Stored) (ps : ParentsOf) (x y : Versions) → HasChanged p q x y → AreUpTo x.groups x.latest
    → AreItemsKept slots p ps x.groups x.latest → AreItemsKept slots q ps y.groups y.latest
items_after slots p q ps x y h u k =
    subst (λ (gs : List ℕ). AreItemsKept slots q ps gs y.latest) (sym h.groups) (items_change slots h.app p q ps x.groups x.latest y.latest h.latest h.others u k)

-- a call changes something if and only if its reply says so
pub items_reply : (slots : List (Option KeptItem)) (p q : Stored) (ps : ParentsOf) (x y : Versions) (r : Reply) → (r ≡ Done → HasChanged p q x y)
    → (r ≢ Done → (q ≡ p) × (y ≡ x)) → AreUpTo x.groups x.latest → AreItemsKept slots p ps x.groups x.latest → AreItemsKept slots q ps y.groups y.latest
items_reply slots p q ps x y Done f g u k = items_after slots p q ps x y (f refl) u k
items_reply slots p q ps x y r f g u k =
    let (same, still) = g (λ e. cc) in
    subst (λ (z : Versions). AreItemsKept slots q ps z.groups z.latest) (sym still) (subst (λ (s : Stored). AreItemsKept slots s ps x.groups x.latest) (sym same) k)

-- ---- slots
pub item_is : (item : KeptItem) (packages : Stored) (ps : ParentsOf) (versions : List ℕ) (latest version : ℕ) → item.version ≡ version
    → (version < last_version → version ≤ latest) → place_of item.place.app item.place.name ≡ Ok item.place → IsAnswer item packages ps
    → IsWithinSteps item packages ps → IsItemKept item packages ps versions latest
item_is item packages ps versions latest version same past read answer few = record {
  read = read;
  answers_now = λ c. (answer, few);
  not_later = λ l. omega (arith, same, past (omega (arith, same, l)));
}

pub item_put : (slots : List (Option KeptItem)) (index : ℕ) (item : KeptItem) (packages : Stored) (ps : ParentsOf) (versions : List ℕ) (latest : ℕ)
    → IsItemKept item packages ps versions latest → AreItemsKept slots packages ps versions latest
    → AreItemsKept (set slots index (Some item)) packages ps versions latest
item_put slots index item packages ps versions latest s k = λ i other at. by other i (get_set slots index i (Some item) (Some other) at)
  where
    by : (other : KeptItem) (i : ℕ) → (Some other ≡ Some item) ⊎ (slice_get slots i ≡ Some (Some other)) → IsItemKept other packages ps versions latest
    by other i (inl e) = let same : item ≡ other = cc in subst (λ (x : KeptItem). IsItemKept x packages ps versions latest) same s
    by other i (inr e) = k i other e

-- ---- steps
-- what takes few steps takes few of more
pub takes_few : (few steps : ℕ) (own icu : Bundles) (ps : ParentsOf) (name path : List ℕ) → few ≤ steps
    → takes_more_from few own icu ps name path ≡ false → takes_more_from steps own icu ps name path ≡ false
takes_few few steps own icu ps name path l e = by (is_path path) refl
  where
    by : (b : Bool) → is_path path ≡ b → takes_more_from steps own icu ps name path ≡ false
    by false t = rw t refl
    by true t =
        let taken = look_steps own icu ps name (segments path) in
        let h : nat_lt few taken ≡ false = rw t at e in
        let m : taken ≤ few = ltb-false few taken h in
        rw t (le-ltb steps taken (omega arith))

pub item_takes_few : (item : KeptItem) (packages : Stored) (ps : ParentsOf) (app locale path : List ℕ) (steps : ℕ) → item.place.app ≡ app
    → item.place.name ≡ locale → item.path ≡ path → place_of item.place.app item.place.name ≡ Ok item.place → IsWithinSteps item packages ps
    → item.steps ≤ steps → TakesMoreFor false (Some steps) packages ps app locale path
item_takes_few item packages ps app locale path steps a n p read few l =
    let own = bundle_at (list_of item.place.app packages) in
    let icu = bundle_at (icudata_of packages) in
    record {
      place = item.place;
      read = subst (λ (x : List ℕ). place_of x locale ≡ Ok item.place) a (subst (λ (x : List ℕ). place_of item.place.app x ≡ Ok item.place) n read);
      takes =
          subst (λ (x : List ℕ). takes_more_from steps own icu ps item.place.name x ≡ false) p
          (takes_few item.steps steps own icu ps item.place.name item.path l few);
    }

-- what is at the spot is what the lookup finds
pub item_answers : (item : KeptItem) (packages : Stored) (ps : ParentsOf) (app locale path : List ℕ) (own icudata : Files) (hit : Hit) (valid : List ℕ)
    → item.place.app ≡ app → item.place.name ≡ locale → item.path ≡ path → place_of item.place.app item.place.name ≡ Ok item.place
    → own ≡ files_of item.place.app packages → icudata ≡ icudata_files packages → IsAnswer item packages ps
    → IsAtSpot item.spot own icudata hit valid → IsAnsweredFor (Finds hit valid) packages ps app locale path
item_answers item packages ps app locale path own icudata hit valid a n p read is_own is_icudata answer at =
    let there : IsAtSpot item.spot (files_of item.place.app packages) (icudata_files packages) hit valid =
    subst (λ (fs : Files). IsAtSpot item.spot fs (icudata_files packages) hit valid) is_own
    (subst (λ (fs : Files). IsAtSpot item.spot own fs hit valid) is_icudata at) in
    record {
      place = item.place;
      read = subst (λ (x : List ℕ). place_of x locale ≡ Ok item.place) a (subst (λ (x : List ℕ). place_of item.place.app x ≡ Ok item.place) n read);
      answer = sym (answer hit valid there)
          ∙ ap (lookup_in (bundle_at (list_of item.place.app packages)) (bundle_at (icudata_of packages)) ps item.place.name) p;
    }
