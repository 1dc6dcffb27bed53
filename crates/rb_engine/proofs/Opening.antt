-- The stops of a locale that is opened.
use Rattle.std.proofs.Common.{◌≡◌, ◌≤◌, ◌+◌, ◌||◌, nat_lt, ℕ, List, [], ◌∷◌, ◌++◌, length, map, take, Bool, true, false, cond, Option, Some, None, Result, Ok, Err, IfOk, IfErr}
use Rattle.std.proofs.Common.{refl, sym, ap, ◌∙◌, subst, option_map, is_some, append-nil}
use Rattle.std.specs.Option.{option_and_then}
use Rattle.std.specs.List.{slice_get}
use Rattle.std.specs.Map.{lookup}
use Rattle.std.specs.Str.{bytes_eq}
use Rattle.std.proofs.lemmas.List.{map_push}
use Rattle.std.proofs.lemmas.List.Elements.{filter-append}
use Rattle.std.proofs.lemmas.Option.{slice_get-map}
use Rattle.rb_tree.specs.Resource.{Resource}
use Rattle.rb_tree.specs.SourceTree.{SourceTree}
use Rattle.rb_tree.specs.Path.{is_path, segments}
use Rattle.rb_tree.proofs.Paths.{path_test}
use Rattle.rb_format.specs.File.{source_tree_of, tree_of}
use Rattle.rb_parents.specs.Answers.{trail_of}
use Rattle.rb_parents.specs.Family.{family_pairs, parent_of}
use Rattle.rb_parents.specs.declared.parents.Parents.{Parents}
use Rattle.rb_parents.specs.Trail.{Bundles, ParentsOf, names, trail, is_stop, stop_tree, stops, stops_at}
use Rattle.rb_parents.proofs.Trails.{stop_is}
use Rattle.rb_parents.specs.declared.fault.TrailFault.{TrailFault}
use Rattle.rb_parents.specs.declared.fault.TrailFault.TheVariants as bad
use Rattle.rb_fallback.specs.Search.{by_stops, by_trail, first_stop, level, look_up}
use Rattle.rb_fallback.specs.Stops.{AreStopsOf, CountsTrail, stop_among, with_tree}
use Rattle.rb_fallback.specs.declared.found.Found.{Found}
use Rattle.rb_fallback.specs.declared.fault.LookError.{LookError}
use Rattle.rb_fallback.specs.declared.fault.LookError.TheVariants as error
use Rattle.rb_fallback.proofs.GivenStops.{fault_look}
use Rattle.rb_fallback.proofs.SameStops.{from_more, from_stop}
use Rattle.rb_packages.specs.LentItem.{lent_tree}
use Rattle.rb_packages.specs.declared.lent.LentItem.{LentItem}
use Rattle.rb_packages.specs.Packages.{Files, Stored, files_of, icudata_of, list_of, shelf_of}
use Rattle.rb_packages.specs.Positions.{IsIndexOf, files_at_index}
use Rattle.rb_packages.specs.Shelf.{bundle_at}
use Rattle.rb_packages.proofs.Lists.{bundle_at-shelf_of}
use Rattle.rb_engine.specs.Answer.{Refuses, answer_over, look_refusal, lookup_at, lookup_in, search_response}
use Rattle.rb_engine.specs.Ask.{Looks}
use Rattle.rb_engine.specs.Kept.{Kept, state_of}
use Rattle.rb_engine.specs.LookResponse.{look_response}
use Rattle.rb_engine.specs.Place.{place_of}
use Rattle.rb_engine.specs.LookFaults.{look_fault_of, trail_refusal}
use Rattle.rb_engine.specs.OpenLocale.{CountsNames, IsOpenLocale, RefusesAll, named_tree, names_of, opened_stop, stop_indices}
use Rattle.rb_engine.specs.inner.Opening.{HasStops}
use Rattle.rb_engine.specs.declared.open_locale.OpenLocale.{OpenLocale}
use Rattle.rb_engine.specs.declared.place.Place.{Place}
use Rattle.rb_engine.specs.declared.place.PlaceFault.{PlaceFault}
use Rattle.rb_engine.specs.declared.request.LookFault.{LookFault}
use Rattle.rb_engine.specs.declared.request.LookFault.TheVariants as fault
use Rattle.rb_engine.proofs.Lookups.{lookup_at_place}
use Rattle.rb_engine.proofs.StepLemmas.{app-place_of}

abbrev bundles : Files → Bundles
bundles files = bundle_at (shelf_of files)

-- ---- one stop more
stop_with : (b : Bundles) (n : List ℕ) (s : SourceTree) → b n ≡ Some s → is_stop b n ≡ true → with_tree b n ≡ Some (n, s.tree)
stop_with b n s is stop =
    ap (λ o. option_map (λ t. (n, t)) (stop_tree o)) is
    ∙ ap (λ v. option_map (λ t. (n, t)) (cond v (Some s.tree) None)) (sym (ap stops_at is) ∙ stop)

pub stop_more : (old new : OpenLocale) (files : Files) (ns : List (List ℕ)) (n : List ℕ) (index : ℕ) → is_stop (bundles files) n ≡ true
    → IsIndexOf files n index → stop_indices new ≡ stop_indices old ++ index ∷ [] → HasStops old files ns → HasStops new files (ns ++ n ∷ [])
stop_more old new files ns n index stop (file, at, found) more h =
    let b = bundles files in
    let there : b n ≡ Some (source_tree_of file) = bundle_at-shelf_of files n ∙ ap (option_map source_tree_of) found in
    let same : named_tree files index ≡ with_tree b n = ap (option_map (λ e. (e.0, tree_of e.1))) at ∙ sym (stop_with b n (source_tree_of file) there stop) in
    let all : stops b (ns ++ n ∷ []) ≡ stops b ns ++ n ∷ [] =
    filter-append (is_stop b) ns (n ∷ []) ∙ ap (λ (v : Bool). stops b ns ++ cond v (n ∷ []) []) stop in
    ap (map (named_tree files)) more
    ∙ map_push (named_tree files) (stop_indices old) index
    ∙ ap (λ l. l ++ named_tree files index ∷ []) h
    ∙ ap (λ x. map (with_tree b) (stops b ns) ++ x ∷ []) same
    ∙ sym (map_push (with_tree b) (stops b ns) n)
    ∙ ap (map (with_tree b)) (sym all)

pub stop_not : (opened : OpenLocale) (files : Files) (ns : List (List ℕ)) (n : List ℕ) → is_stop (bundles files) n ≡ false
    → HasStops opened files ns → HasStops opened files (ns ++ n ∷ [])
stop_not opened files ns n passed h =
    let b = bundles files in
    let all : stops b (ns ++ n ∷ []) ≡ stops b ns ++ [] =
    filter-append (is_stop b) ns (n ∷ []) ∙ ap (λ (v : Bool). stops b ns ++ cond v (n ∷ []) []) passed in
    h ∙ ap (map (with_tree b)) (sym (append-nil (stops b ns)) ∙ sym all)

-- a stop has a bundle
pub stop_has : (files : Files) (n : List ℕ) → lookup (bytes_eq n) files ≡ None → is_stop (bundles files) n ≡ false
stop_has files n none = ap stops_at (bundle_at-shelf_of files n ∙ ap (option_map source_tree_of) none)

-- what is known of a name that was visited
pub stop_seen : (o : Option LentItem) (b : Option SourceTree) → option_map lent_tree o ≡ stop_tree b → is_some o ≡ stops_at b
stop_seen o b e = same o ∙ ap is_some e ∙ stop_is b
  where
    same : (o : Option LentItem) → is_some o ≡ is_some (option_map lent_tree o)
    same None = refl
    same (Some item) = refl

-- the names from the first stop on, with one name more
pub one_name : (b : Bundles) (ns : List (List ℕ)) (n : List ℕ) (before : ℕ) (is : Bool) → before ≡ length (from_stop b ns) → is ≡ is_stop b n
    → cond (nat_lt 0 before || is) (before + 1) 0 ≡ length (from_stop b (ns ++ n ∷ []))
one_name b ns n before is e s =
    ap (λ (k : ℕ). cond (nat_lt 0 k || is) (k + 1) 0) e
    ∙ ap (λ (c : Bool). cond (nat_lt 0 (length (from_stop b ns)) || c) (length (from_stop b ns) + 1) 0) s
    ∙ sym (from_more b ns n)

-- ---- all stops
abbrev flat : {A : Type 0} → Option (Option A) → Option A
flat None = None
flat (Some o) = o

and_then_flat : {A B : Type 0} (f : A → Option B) (o : Option A) → option_and_then f o ≡ flat (option_map f o)
and_then_flat f None = refl
and_then_flat f (Some a) = refl

pub stops_are : (opened : OpenLocale) (files : Files) (ns : List (List ℕ)) → HasStops opened files ns
    → (i : ℕ) → opened_stop opened files i ≡ stop_among (bundles files) ns i
stops_are opened files ns h i =
    let b = bundles files in
    and_then_flat (named_tree files) (slice_get (stop_indices opened) i)
    ∙ ap flat (sym (slice_get-map (named_tree files) (stop_indices opened) i) ∙ ap (λ l. slice_get l i) h ∙ slice_get-map (with_tree b) (stops b ns) i)
    ∙ sym (and_then_flat (with_tree b) (slice_get (stops b ns) i))

-- ---- what a lookup answers if there is no open locale
pub refused_at : (own icu : Bundles) (ps : ParentsOf) (n path : List ℕ) (f : LookError) → is_path path ≡ true → length path ≤ 1024
    → level own ps n (segments path) ≡ Err f → lookup_in own icu ps n path ≡ Refuses (look_fault_of f)
refused_at own icu ps n path f good short e =
    let found : Err f ≡ look_up own icu ps n (segments path) = fault_look own icu ps n path ((path_test path).0 good) short f e in
    ap (λ b. cond b (search_response (first_stop own ps n) (look_up own icu ps n (segments path))) (Refuses fault.BadPath)) good
    ∙ ap (search_response (first_stop own ps n)) (sym found)

pub trail_refused : (own icu : Bundles) (ps : ParentsOf) (n path : List ℕ) (e : TrailFault) → trail own ps n ≡ trail_of (Err e)
    → is_path path ≡ true → length path ≤ 1024 → lookup_in own icu ps n path ≡ Refuses (trail_refusal e)
trail_refused own icu ps n path bad.Chain is good short =
    refused_at own icu ps n path error.Chain good short (ap (λ t. by_trail own t (segments path)) is)
trail_refused own icu ps n path bad.BadParent is good short =
    refused_at own icu ps n path error.BadParent good short (ap (λ t. by_trail own t (segments path)) is)

none_level : (own : Bundles) (ns ss : List (List ℕ)) → stops own ns ≡ [] → by_trail own (names ns) ss ≡ Err error.NoBundle
none_level own ns ss e = ap (λ l. by_stops own l ss) e

pub none_refused : (own icu : Bundles) (ps : ParentsOf) (n path : List ℕ) (ns : List (List ℕ)) → trail own ps n ≡ names ns → stops own ns ≡ []
    → is_path path ≡ true → length path ≤ 1024 → lookup_in own icu ps n path ≡ Refuses fault.NoBundle
none_refused own icu ps n path ns is none good short =
    refused_at own icu ps n path error.NoBundle good short
    (ap (λ t. by_trail own t (segments path)) is ∙ none_level own ns (segments path) none)

map_none : {A B : Type 0} (f : A → B) (l : List A) → [] ≡ map f l → l ≡ []
map_none f [] e = refl
map_none f (x ∷ l) e = cc

-- no stops are there
pub count_none : (opened : OpenLocale) (files : Files) (ns : List (List ℕ)) → opened.count ≡ 0 → HasStops opened files ns → stops (bundles files) ns ≡ []
count_none opened files ns e h = map_none (with_tree (bundles files)) (stops (bundles files) ns) (sym (ap (λ k. map (named_tree files) (take k opened.stops)) e) ∙ h)

-- nor are any among no files
pub files_none : (ns : List (List ℕ)) → stops (bundles []) ns ≡ []
files_none [] = refl
files_none (n ∷ ns) = files_none ns

-- ---- an open locale
pub opens : (opened : OpenLocale) (files : Files) (ps : ParentsOf) (n : List ℕ) (ns : List (List ℕ)) → trail (bundles files) ps n ≡ names ns
    → HasStops opened files ns → AreStopsOf (opened_stop opened files) (bundles files) ps n
opens opened files ps n ns is h = record { ns = ns; trail = is; stops = stops_are opened files ns h }

module _ (packages : Stored) (parents : Parents) (version : ℕ) where
  abbrev pub kept : Kept
  kept = record { packages = packages; parents = family_pairs parents; version = version }

  pub is_open : (opened : OpenLocale) (app locale : List ℕ) (p : Place) → place_of app locale ≡ Ok p
      → files_at_index packages opened.app ≡ files_of p.app packages
      → AreStopsOf (opened_stop opened (files_of p.app packages)) (bundle_at (list_of p.app packages)) (parent_of parents) p.name
      → IsOpenLocale opened kept app locale
  is_open opened app locale p h f s =
      let same : p.app ≡ app = app-place_of app locale p h in
      record {
        place = p;
        read = h;
        files = f ∙ ap (λ a. files_of a packages) same;
        stops = subst (λ (a : List ℕ). AreStopsOf (opened_stop opened (files_of a packages)) (bundle_at (list_of a packages)) (parent_of parents) p.name) same s;
      }

  -- the place that was read is the only one
  pub counts : (opened : OpenLocale) (app locale : List ℕ) (p : Place) → place_of app locale ≡ Ok p
      → CountsTrail (names_of opened) (bundle_at (list_of p.app packages)) (parent_of parents) p.name → CountsNames opened kept app locale
  counts opened app locale p h e = λ q read.
      let ok : Ok p ≡ Ok q = sym h ∙ read in
      let there : p ≡ q = cc in
      let same : p.app ≡ app = app-place_of app locale p h in
      subst (λ (x : Place). CountsTrail (names_of opened) (bundle_at (list_of app packages)) (parent_of parents) x.name) there
      (subst (λ (a : List ℕ). CountsTrail (names_of opened) (bundle_at (list_of a packages)) (parent_of parents) p.name) same e)

  pub is_refused : (app locale : List ℕ) (p : Place) (e : LookFault) → place_of app locale ≡ Ok p
      → ((path : List ℕ) → is_path path ≡ true → length path ≤ 1024
      → lookup_in (bundle_at (list_of p.app packages)) (bundle_at (icudata_of packages)) (parent_of parents) p.name path ≡ Refuses e)
      → RefusesAll kept app locale e
  is_refused app locale p e h f = λ path good short. sym (lookup_at_place (state_of kept).start app locale path p packages h) ∙ f path good short

  pub is_unread : (app locale : List ℕ) (e : PlaceFault) → place_of app locale ≡ Err e → RefusesAll kept app locale (look_refusal e)
  is_unread app locale e h = λ path good short. ap (λ r. lookup_at (state_of kept).start ((state_of kept).lists app) r path) h

  pub is_answered : {M : Type 0} (seen : M → Resource) (m : Result (Found M) LookFault) (opened : OpenLocale) (app locale path : List ℕ)
      → IsOpenLocale opened kept app locale
      → ((n : List ℕ) → AreStopsOf (opened_stop opened (files_at_index packages opened.app)) (bundle_at (shelf_of (files_at_index packages opened.app)))
      (parent_of parents) n → look_response seen m
      ≡ lookup_in (bundle_at (shelf_of (files_at_index packages opened.app))) (bundle_at (icudata_of packages)) (parent_of parents) n path)
      → look_response seen m ≡ answer_over (state_of kept).start ((state_of kept).lists app) (Looks app locale path)
  is_answered seen m opened app locale path a f =
      let stops = subst (λ (fs : Files). AreStopsOf (opened_stop opened fs) (bundle_at (shelf_of fs)) (parent_of parents) a.place.name) (sym a.files) a.stops in
      f a.place.name stops
      ∙ ap (λ (fs : Files). lookup_in (bundle_at (shelf_of fs)) (bundle_at (icudata_of packages)) (parent_of parents) a.place.name path) a.files
      ∙ ap (λ r. lookup_at (state_of kept).start ((state_of kept).lists app) r path) (sym a.read)

-- ---- results
pub ok_both : {A E : Type 0} {P Q R : A → Type 0} (r : Result A E) → ((a : A) → P a → Q a → R a) → IfOk r P → IfOk r Q → IfOk r R
ok_both (Ok a) f p q = f a p q
ok_both (Err e) f p q = tt

pub err_then : {A E : Type 0} {P Q : E → Type 0} (r : Result A E) → ((e : E) → P e → Q e) → IfErr r P → IfErr r Q
err_then (Ok a) f p = tt
err_then (Err e) f p = f e p
