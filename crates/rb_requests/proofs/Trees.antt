-- The replies to requests for trees, by what a lookup finds.
use Rattle.std.proofs.Common.{◌≡◌, ℕ, Bool, true, false, inl, inr, List, Option, Some, None, codes, Result, Ok, Err, refl, sym, ◌∙◌, ap, subst}
use Rattle.rb_tree.specs.Path.{IsPath, is_path, segments}
use Rattle.rb_tree.proofs.Paths.{path_test}
use Rattle.rb_parents.specs.Family.{parent_in}
use Rattle.rb_parents.specs.Trail.{Bundles, ParentsOf}
use Rattle.rb_fallback.specs.Search.{Hit, look_up, first_stop}
use Rattle.rb_fallback.specs.declared.fault.LookError.{LookError}
use Rattle.rb_inherit.specs.Lookups.{IsTreeOf}
use Rattle.rb_locales.specs.Locale.{name}
use Rattle.rb_packages.specs.App.{app_of}
use Rattle.rb_packages.specs.Packages.{Files, files_of, icudata_files, icudata_of, list_of, shelf_of}
use Rattle.rb_packages.specs.Shelf.{Shelf, bundle_at}
use Rattle.rb_replies.specs.Extended.{tree_line}
use Rattle.rb_engine.specs.Answer.{Start, Finds, lookup_at, lookup_from, search_response, answer_over}
use Rattle.rb_engine.specs.Ask.{Ask, LooksUp}
use Rattle.rb_engine.specs.Kept.{Kept, state_of}
use Rattle.rb_engine.specs.Place.{place_of}
use Rattle.rb_engine.specs.declared.place.Place.{Place}
use Rattle.rb_engine.proofs.StepLemmas.{app-place_of}
use Rattle.rb_requests.specs.Steps.{Answers, CallIsJudged}
use Rattle.rb_requests.specs.TreeReply.{FoundReply, TreeReply}
use Rattle.rb_requests.specs.Within.{limited_line}
use Rattle.rb_requests.specs.declared.limits.Limits.{Limits}
use Rattle.rb_requests.proofs.CallSteps.{by_result}
use Rattle.rb_requests.proofs.ReplyLimits.{limited_by}

-- ---- the line of a tree

pub tree_placed : (limits : Limits) (own : Bundles) (parents : ParentsOf) (n path : List ℕ) (hit : Hit) (valid tree text : List ℕ)
    → IsTreeOf own parents n path (λ written. tree ≡ written) hit → text ≡ limited_line limits.reply_bytes (tree_line hit.actual valid tree)
    → FoundReply limits own parents n path hit valid text
tree_placed limits own parents n path hit valid tree text is told =
    elim (limited_by limits.reply_bytes (tree_line hit.actual valid tree) text told) [
      | inl (whole, short) ↦ inl (tree, is, whole, short)
      | inr (some, error) ↦ inr (codes "ReplyTooLong", inr (inr (some, refl)), error)
    ]

-- ---- what a lookup finds

search_found : (first : Option (List ℕ)) (answer : Result Hit LookError) (hit : Hit) (valid : List ℕ) → Finds hit valid ≡ search_response first answer
    → answer ≡ Ok hit
search_found first (Err e) hit valid h = cc
search_found None (Ok other) hit valid h = cc
search_found (Some stop) (Ok other) hit valid h = cc

-- an item that is found was searched for at a place
record FoundAt (start : Start) (shelf : Shelf) (app locale path : List ℕ) (hit : Hit) : Type 0 where
  place : Place
  is : place_of app locale ≡ Ok place
  good : IsPath path
  search : look_up (bundle_at shelf) (bundle_at start.icudata) start.parents place.name (segments path) ≡ Ok hit

found_in : (start : Start) (shelf : Shelf) (app locale path : List ℕ) (hit : Hit) (valid : List ℕ) (p : Place) → place_of app locale ≡ Ok p
    → Finds hit valid ≡ lookup_from start shelf p.name path → FoundAt start shelf app locale path hit
found_in start shelf app locale path hit valid p is h = by (is_path path) refl
  where
    by : (b : Bool) → is_path path ≡ b → FoundAt start shelf app locale path hit
    by true e = record {
      place = p;
      is = is;
      good = (path_test path).0 e;
      search = search_found (first_stop (bundle_at shelf) start.parents p.name)
          (look_up (bundle_at shelf) (bundle_at start.icudata) start.parents p.name (segments path)) hit valid (rw e at h);
    }
    by false e = let none = rw e at h in cc

found_at : (start : Start) (shelf : Shelf) (app locale path : List ℕ) (hit : Hit) (valid : List ℕ)
    → Finds hit valid ≡ lookup_at start shelf (place_of app locale) path → FoundAt start shelf app locale path hit
found_at start shelf app locale path hit valid =
    by_result (place_of app locale) (λ r. Finds hit valid ≡ lookup_at start shelf r path → FoundAt start shelf app locale path hit)
    (λ p is h. found_in start shelf app locale path hit valid p is h) (λ e is h. cc)

looked : (limits : Limits) (kept : Kept) (app locale path : List ℕ) (hit : Hit) (valid : List ℕ)
    → CallIsJudged limits kept (LooksUp app locale path) (Answers (Finds hit valid)) kept
    → Finds hit valid ≡ lookup_at (state_of kept).start (list_of app kept.packages) (place_of app locale) path
looked limits kept app locale path hit valid (incoming, brings, inl refused) = let word = refused.word in cc
looked limits kept app locale path hit valid (incoming, brings, inr answered) =
    let same : Finds hit valid ≡ answered.response = let answer = answered.answer in cc in
    same ∙ answered.answered.right
    ∙ ap (λ (ask : Ask). answer_over (state_of kept).start (list_of app kept.packages) ask) answered.answered.means

-- the reply for an item that is found in these files, with these parents
abbrev Told : Limits → (path : List ℕ) → Hit → (valid text : List ℕ) → (own icu : Files) → (pairs : List (List ℕ × List ℕ)) → (n : List ℕ) → Type 0
Told limits path hit valid text own icu pairs n =
    IsPath path → look_up (bundle_at (shelf_of own)) (bundle_at (shelf_of icu)) (parent_in pairs) n (segments path) ≡ Ok hit
    → FoundReply limits (bundle_at (shelf_of own)) (parent_in pairs) n path hit valid text

place_is : (app locale a n : List ℕ) (p : Place) → app_of app ≡ Ok a → name locale ≡ Some n → place_of app locale ≡ Ok p
    → record { app = a; name = n } ≡ p
place_is app locale a n p own named is = let made = rw (own, named) at is in cc

pub named_found : (limits : Limits) (kept : Kept) (app locale path a n : List ℕ) (own icu : Files) (pairs : List (List ℕ × List ℕ)) (hit : Hit)
    (valid text : List ℕ) → app_of app ≡ Ok a → name locale ≡ Some n → own ≡ files_of a kept.packages → icu ≡ icudata_files kept.packages
    → pairs ≡ kept.parents → Told limits path hit valid text own icu pairs n → (p : Place) → place_of app locale ≡ Ok p
    → Told limits path hit valid text (files_of p.app kept.packages) (icudata_files kept.packages) kept.parents p.name
named_found limits kept app locale path a n own icu pairs hit valid text is named e f g told p at =
    let mine = subst (λ (files : Files). Told limits path hit valid text files icu pairs n) e told in
    let all = subst (λ (files : Files). Told limits path hit valid text (files_of a kept.packages) files pairs n) f mine in
    let family = subst (λ (ps : List (List ℕ × List ℕ)). Told limits path hit valid text (files_of a kept.packages) (icudata_files kept.packages) ps n) g all in
    subst (λ (q : Place). Told limits path hit valid text (files_of q.app kept.packages) (icudata_files kept.packages) kept.parents q.name)
    (place_is app locale a n p is named at) family

-- the reply to a request for the tree of an item that a lookup finds
pub tree_found : (limits : Limits) (kept : Kept) (app locale path : List ℕ) (hit : Hit) (valid text : List ℕ)
    → CallIsJudged limits kept (LooksUp app locale path) (Answers (Finds hit valid)) kept
    → ((p : Place) → place_of app locale ≡ Ok p → IsPath path
    → look_up (bundle_at (list_of p.app kept.packages)) (bundle_at (icudata_of kept.packages)) (parent_in kept.parents) p.name (segments path) ≡ Ok hit
    → FoundReply limits (bundle_at (list_of p.app kept.packages)) (parent_in kept.parents) p.name path hit valid text)
    → TreeReply limits kept app locale path text
tree_found limits kept app locale path hit valid text judged told =
    let found = found_at (state_of kept).start (list_of app kept.packages) app locale path hit valid
    (looked limits kept app locale path hit valid judged) in
    let p = found.place in
    let search = subst
    (λ (a : List ℕ). look_up (bundle_at (list_of a kept.packages)) (bundle_at (icudata_of kept.packages)) (parent_in kept.parents) p.name (segments path) ≡ Ok hit)
    (sym (app-place_of app locale p found.is)) found.search in
    (Answers (Finds hit valid), judged, (p, found.is, told p found.is found.good search))
