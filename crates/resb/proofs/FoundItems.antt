-- The place at which a lookup that finds an item searches, and the tree of the item there.
use Rattle.std.proofs.Common.{◌≡◌, ◌≢◌, inl, inr, ℕ, Bool, true, false, List, Option, Some, None, Result, Ok, Err, refl, sym, subst}
use Rattle.rb_tree.specs.Path.{IsPath, is_path, segments}
use Rattle.rb_tree.proofs.Paths.{path_test}
use Rattle.rb_parents.specs.Family.{parent_in}
use Rattle.rb_fallback.specs.Search.{Hit, look_up, first_stop}
use Rattle.rb_fallback.specs.declared.fault.LookError.{LookError}
use Rattle.rb_locales.specs.Locale.{name}
use Rattle.rb_packages.specs.App.{app_of}
use Rattle.rb_packages.specs.Packages.{Files, files_of, icudata_files, icudata_of, list_of, shelf_of}
use Rattle.rb_packages.specs.Shelf.{Shelf, bundle_at}
use Rattle.rb_engine.specs.Answer.{Response, Replies, Refuses, Start, Finds, lookup_at, lookup_from, search_response}
use Rattle.rb_engine.specs.Kept.{Kept, state_of}
use Rattle.rb_engine.specs.Place.{place_of}
use Rattle.rb_engine.specs.declared.place.Place.{Place}
use Rattle.rb_engine.proofs.StepLemmas.{app-place_of}
use Rattle.resb.specs.ItemTexts.{CopiesItem, CopiesItemWithin, CopiesTree, CopiesTreeOf}

search_found : (first : Option (List ℕ)) (answer : Result Hit LookError) (hit : Hit) (valid : List ℕ) → Finds hit valid ≡ search_response first answer
    → answer ≡ Ok hit
search_found first (Err e) hit valid h = cc
search_found None (Ok other) hit valid h = cc
search_found (Some stop) (Ok other) hit valid h = cc

-- an item that is found was searched for at a place
record FoundAt (start : Start) (shelf : Shelf) (app locale path : List ℕ) (hit : Hit) : Type 0 where
  place : Place
  is : place_of app locale ≡ Ok place
  good : IsPath path
  search : look_up (bundle_at shelf) (bundle_at start.icudata) start.parents place.name (segments path) ≡ Ok hit

found_in : (start : Start) (shelf : Shelf) (app locale path : List ℕ) (hit : Hit) (valid : List ℕ) (p : Place) → place_of app locale ≡ Ok p
    → Finds hit valid ≡ lookup_from start shelf p.name path → FoundAt start shelf app locale path hit
found_in start shelf app locale path hit valid p is h = by (is_path path) refl
  where
    by : (b : Bool) → is_path path ≡ b → FoundAt start shelf app locale path hit
    by true e = record {
      place = p;
      is = is;
      good = (path_test path).0 e;
      search = search_found (first_stop (bundle_at shelf) start.parents p.name)
          (look_up (bundle_at shelf) (bundle_at start.icudata) start.parents p.name (segments path)) hit valid (rw e at h);
    }
    by false e = let none = rw e at h in cc

-- a statement on a result from its cases
by_result : {A E : Type 0} (r : Result A E) (Holds : Result A E → Type 0) → ((a : A) → r ≡ Ok a → Holds (Ok a)) → ((e : E) → r ≡ Err e → Holds (Err e))
    → Holds r
by_result (Ok a) Holds ok err = ok a refl
by_result (Err e) Holds ok err = err e refl

found_at : (start : Start) (shelf : Shelf) (app locale path : List ℕ) (hit : Hit) (valid : List ℕ)
    → Finds hit valid ≡ lookup_at start shelf (place_of app locale) path → FoundAt start shelf app locale path hit
found_at start shelf app locale path hit valid =
    by_result (place_of app locale) (λ r. Finds hit valid ≡ lookup_at start shelf r path → FoundAt start shelf app locale path hit)
    (λ p is h. found_in start shelf app locale path hit valid p is h) (λ e is h. cc)

-- a copy of the tree of an item that is found in these files, with these parents
abbrev Copied : (path : List ℕ) → Hit → (n count room : ℕ) → (copy : List ℕ) → (own icu : Files) → (pairs : List (List ℕ × List ℕ)) → (name : List ℕ)
    → Type 0
Copied path hit n count room copy own icu pairs name =
    IsPath path → look_up (bundle_at (shelf_of own)) (bundle_at (shelf_of icu)) (parent_in pairs) name (segments path) ≡ Ok hit
    → CopiesTreeOf (bundle_at (shelf_of own)) (parent_in pairs) name path hit n count room copy

place_is : (app locale a n : List ℕ) (p : Place) → app_of app ≡ Ok a → name locale ≡ Some n → place_of app locale ≡ Ok p
    → record { app = a; name = n } ≡ p
place_is app locale a n p own named is = let made = rw (own, named) at is in cc

pub named_copy : (kept : Kept) (app locale path a l : List ℕ) (own icu : Files) (pairs : List (List ℕ × List ℕ)) (hit : Hit)
    (n count room : ℕ) (copy : List ℕ) → app_of app ≡ Ok a → name locale ≡ Some l → own ≡ files_of a kept.packages
    → icu ≡ icudata_files kept.packages → pairs ≡ kept.parents → Copied path hit n count room copy own icu pairs l
    → (p : Place) → place_of app locale ≡ Ok p
    → Copied path hit n count room copy (files_of p.app kept.packages) (icudata_files kept.packages) kept.parents p.name
named_copy kept app locale path a l own icu pairs hit n count room copy is named e f g told p at =
    rw (← place_is app locale a l p is named at, ← e, ← f, ← g) told

-- the tree of the item that a lookup finds
pub found_tree : (kept : Kept) (app locale path : List ℕ) (hit : Hit) (valid : List ℕ) (n count room : ℕ) (copy : List ℕ)
    → Finds hit valid ≡ lookup_at (state_of kept).start (list_of app kept.packages) (place_of app locale) path
    → ((p : Place) → place_of app locale ≡ Ok p → IsPath path
    → look_up (bundle_at (list_of p.app kept.packages)) (bundle_at (icudata_of kept.packages)) (parent_in kept.parents) p.name (segments path) ≡ Ok hit
    → CopiesTreeOf (bundle_at (list_of p.app kept.packages)) (parent_in kept.parents) p.name path hit n count room copy)
    → CopiesTree kept app locale path (Finds hit valid) n count room copy
found_tree kept app locale path hit valid n count room copy h told =
    let found = found_at (state_of kept).start (list_of app kept.packages) app locale path hit valid h in
    let p = found.place in
    let search = subst
    (λ (a : List ℕ). look_up (bundle_at (list_of a kept.packages)) (bundle_at (icudata_of kept.packages)) (parent_in kept.parents) p.name (segments path) ≡ Ok hit)
    (sym (app-place_of app locale p found.is)) found.search in
    (p, found.is, told p found.is found.good search)

-- an item that isn't above the limit is copied
pub whole_item : (limit : ℕ) (r : Response) (n count room : ℕ) (copy : List ℕ) → n ≢ 79 → CopiesItemWithin limit r n count room copy
    → CopiesItem r n count room copy
whole_item limit (Replies reply) n count room copy low h = h
whole_item limit (Refuses fault) n count room copy low h = h
whole_item limit (Finds hit valid) n count room copy low (inl (long, above)) = absurd (low long)
whole_item limit (Finds hit valid) n count room copy low (inr (within, copied)) = copied
