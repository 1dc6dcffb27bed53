-- Defines the answer to an application from its bundles, and its bundles afterwards. A lookup is the search of
-- rb_fallback (ICU's `ures_getByKeyWithFallback`); the requests are a rule of this project.
use Rattle.std.specs.Prelude.{ℕ, List, [], ◌∷◌, ◌++◌, ◌||◌, map, if◌then◌else◌, Option, Some, None, Result, Ok, Err}
use Rattle.rb_tree.specs.SourceTree.{SourceTree}
use Rattle.rb_tree.specs.Path.{is_path, segments}
use Rattle.rb_parents.specs.Trail.{Bundles, ParentsOf}
use Rattle.rb_fallback.specs.Search.{Hit, look_up, first_stop}
use Rattle.rb_fallback.specs.declared.fault.LookError.{LookError}
use Rattle.rb_packages.specs.App.{app_of}
use Rattle.rb_engine.specs.Place.{place_of, app_refusal}
use Rattle.rb_packages.specs.Shelf.{Shelf, bundle_at, holds, is_full, replaced, removed}
use Rattle.rb_engine.specs.Ask.{Content, spelled, denoted, Ask, Installs, Replaces, Removes, Lists, Looks}
use Rattle.rb_engine.specs.LookFaults.{look_fault_of}
use Rattle.rb_packages.specs.declared.app.AppFault.{AppFault}
use Rattle.rb_engine.specs.declared.place.Place.{Place}
use Rattle.rb_engine.specs.declared.place.PlaceFault.{PlaceFault}
use Rattle.rb_engine.specs.declared.place.PlaceFault.TheVariants as place
use Rattle.rb_engine.specs.declared.request.Reply.{Reply}
use Rattle.rb_engine.specs.declared.request.Reply.TheVariants.{Done, Names, BadApp, Reserved, BadLocale, BadText}
use Rattle.rb_engine.specs.declared.request.Reply.TheVariants.{BadFile, Exists, Absent, Full}
use Rattle.rb_engine.specs.declared.request.LookFault.{LookFault}
use Rattle.rb_engine.specs.declared.request.LookFault.TheVariants as fault

-- the state at the start: the common bundles of ICUDATA, and the explicit parents
pub record Start : Type 0 where
  pub icudata : Shelf
  pub parents : ParentsOf

-- an answer: a reply; an item with the name of the trail's first stop; or the reason why there is none
pub data Response : Type 0 where
  Replies : Reply → Response
  Finds : Hit → (valid : List ℕ) → Response
  Refuses : LookFault → Response

-- ---- the application's bundles afterwards

-- a bundle is added at the end if its name is new and the limit isn't reached
abbrev pub added : Place → SourceTree → Shelf → Shelf
added p source shelf = if holds p.name shelf || is_full shelf then shelf else shelf ++ (p.name, source) ∷ []

abbrev pub installed : Result Place PlaceFault → Content → Shelf → Shelf
installed (Ok p) (spelled (Some source)) shelf = added p source shelf
installed (Ok p) (denoted (Some source)) shelf = added p source shelf
installed r content shelf = shelf

abbrev pub exchanged : Result Place PlaceFault → Content → Shelf → Shelf
exchanged (Ok p) (spelled (Some source)) shelf = replaced p.name source shelf
exchanged (Ok p) (denoted (Some source)) shelf = replaced p.name source shelf
exchanged r content shelf = shelf

abbrev pub taken_out : Result Place PlaceFault → Shelf → Shelf
taken_out (Err e) shelf = shelf
taken_out (Ok p) shelf = removed p.name shelf

abbrev pub bundles_after : Ask → Shelf → Shelf
bundles_after (Installs app locale content) shelf = installed (place_of app locale) content shelf
bundles_after (Replaces app locale content) shelf = exchanged (place_of app locale) content shelf
bundles_after (Removes app locale) shelf = taken_out (place_of app locale) shelf
bundles_after ask shelf = shelf

-- ---- the reply

abbrev pub refusal : PlaceFault → Reply
refusal place.BadApp = BadApp
refusal place.Reserved = Reserved
refusal place.BadLocale = BadLocale

abbrev pub add_reply : Place → Shelf → Reply
add_reply p shelf = if holds p.name shelf then Exists else if is_full shelf then Full else Done

abbrev pub install_reply : Result Place PlaceFault → Content → Shelf → Reply
install_reply (Err e) content shelf = refusal e
install_reply (Ok p) (denoted None) shelf = BadFile
install_reply (Ok p) (spelled (Some source)) shelf = add_reply p shelf
install_reply (Ok p) (denoted (Some source)) shelf = add_reply p shelf
install_reply (Ok p) content shelf = BadText

abbrev pub replace_reply : Result Place PlaceFault → Content → Shelf → Reply
replace_reply (Err e) content shelf = refusal e
replace_reply (Ok p) (denoted None) shelf = BadFile
replace_reply (Ok p) (spelled (Some source)) shelf = if holds p.name shelf then Done else Absent
replace_reply (Ok p) (denoted (Some source)) shelf = if holds p.name shelf then Done else Absent
replace_reply (Ok p) content shelf = BadText

abbrev pub remove_reply : Result Place PlaceFault → Shelf → Reply
remove_reply (Err e) shelf = refusal e
remove_reply (Ok p) shelf = if holds p.name shelf then Done else Absent

abbrev pub list_reply : Result (List ℕ) AppFault → Shelf → Reply
list_reply (Err e) shelf = refusal (app_refusal e)
list_reply (Ok a) shelf = Names (map (λ e. e.0) shelf)

-- ---- a lookup

abbrev pub look_refusal : PlaceFault → LookFault
look_refusal place.BadApp = fault.BadApp
look_refusal place.Reserved = fault.Reserved
look_refusal place.BadLocale = fault.BadLocale

-- the valid locale is the first stop of the trail; without a stop nothing is found
abbrev pub search_response : Option (List ℕ) → Result Hit LookError → Response
search_response valid (Err e) = Refuses (look_fault_of e)
search_response None (Ok hit) = Refuses fault.NoBundle
search_response (Some valid) (Ok hit) = Finds hit valid

-- an invalid path is rejected before the search
abbrev pub lookup_in : Bundles → Bundles → ParentsOf → List ℕ → List ℕ → Response
lookup_in own icu parents name path =
    if is_path path then search_response (first_stop own parents name) (look_up own icu parents name (segments path))
    else Refuses fault.BadPath

abbrev pub lookup_from : Start → Shelf → List ℕ → List ℕ → Response
lookup_from start shelf name path = lookup_in (bundle_at shelf) (bundle_at start.icudata) start.parents name path

abbrev pub lookup_at : Start → Shelf → Result Place PlaceFault → List ℕ → Response
lookup_at start shelf (Err e) path = Refuses (look_refusal e)
lookup_at start shelf (Ok p) path = lookup_from start shelf p.name path

-- ---- the answer from these bundles

abbrev pub answer_over : Start → Shelf → Ask → Response
answer_over start shelf (Installs app locale content) = Replies (install_reply (place_of app locale) content shelf)
answer_over start shelf (Replaces app locale content) = Replies (replace_reply (place_of app locale) content shelf)
answer_over start shelf (Removes app locale) = Replies (remove_reply (place_of app locale) shelf)
answer_over start shelf (Lists app) = Replies (list_reply (app_of app) shelf)
answer_over start shelf (Looks app locale path) = lookup_at start shelf (place_of app locale) path

-- the bundles after a list of calls
abbrev pub bundles_after_all : Shelf → List Ask → Shelf
bundles_after_all shelf [] = shelf
bundles_after_all shelf (ask ∷ asks) = bundles_after_all (bundles_after ask shelf) asks

-- the answer to an application that asked this before, starting without bundles
abbrev pub answer : Start → List Ask → Ask → Response
answer start asked ask = answer_over start (bundles_after_all [] asked) ask
