-- Lookups from an open locale with a limit on their steps, or none.
use Rattle.std.proofs.Common.{◌≡◌, ℕ, Bool, List, Option, IfSome, ap, sym, ◌∙◌, subst}
use Rattle.std.proofs.lemmas.Option.{IfSome_then}
use Rattle.rb_parents.specs.Family.{parent_of}
use Rattle.rb_parents.specs.Trail.{Bundles}
use Rattle.rb_parents.specs.declared.parents.Parents.{Parents}
use Rattle.rb_packages.specs.Packages.{Files, Stored, icudata_of, list_of, shelf_of}
use Rattle.rb_packages.specs.Positions.{files_at_index}
use Rattle.rb_packages.specs.Shelf.{bundle_at}
use Rattle.rb_engine.specs.Answer.{Response, answer_over, lookup_at, lookup_in}
use Rattle.rb_engine.specs.Ask.{Looks}
use Rattle.rb_engine.specs.Kept.{state_of}
use Rattle.rb_engine.specs.OpenLocale.{CountsNames, IsOpenLocale}
use Rattle.rb_engine.specs.Place.{place_of}
use Rattle.rb_engine.specs.Steps.{exceeds, exceeds_from}
use Rattle.rb_engine.specs.inner.KeptLocales.{IsOpenWithin}
use Rattle.rb_engine.specs.declared.open_locale.OpenLocale.{OpenLocale}
use Rattle.rb_engine.proofs.Opening.{kept}

-- over a shelf with the files of the application at the locale's index, and that of ICUDATA
module _ (packages : Stored) (parents : Parents) (version : ℕ) (opened : OpenLocale) (app locale path : List ℕ)
    (a : IsOpenLocale opened (kept packages parents version) app locale) (files : Files) (icu : Bundles)
    (same : files ≡ files_at_index packages opened.app) (is_icu : icu ≡ bundle_at (icudata_of packages)) where
  pub open_within : (left : Option ℕ) → IfSome left (λ _. CountsNames opened (kept packages parents version) app locale)
      → IsOpenWithin left opened files (parent_of parents) a.place.name
  open_within left n =
      subst (λ (fs : Files). IsOpenWithin left opened fs (parent_of parents) a.place.name) (sym (same ∙ a.files))
      (record { stops = a.stops; names = IfSome_then left n (λ _ k. k a.place a.read) })

  pub takes_open : (more : Bool) (left : Option ℕ) → exceeds_from left (bundle_at (shelf_of files)) icu (parent_of parents) a.place.name path ≡ more
      → exceeds left (state_of (kept packages parents version)).start ((state_of (kept packages parents version)).lists app) (place_of app locale) path
      ≡ more
  takes_open more left e =
      let start = (state_of (kept packages parents version)).start in
      ap (λ r. exceeds left start (list_of app packages) r path) a.read
      ∙ ap (λ (fs : Files). exceeds_from left (bundle_at (shelf_of fs)) (bundle_at (icudata_of packages)) (parent_of parents) a.place.name path) (sym (same ∙ a.files))
      ∙ ap (λ b. exceeds_from left (bundle_at (shelf_of files)) b (parent_of parents) a.place.name path) (sym is_icu)
      ∙ e

  pub answered_open : (response : Response) → response ≡ lookup_in (bundle_at (shelf_of files)) icu (parent_of parents) a.place.name path
      → response ≡ answer_over (state_of (kept packages parents version)).start ((state_of (kept packages parents version)).lists app) (Looks app locale path)
  answered_open response e =
      let start = (state_of (kept packages parents version)).start in
      e
      ∙ ap (λ b. lookup_in (bundle_at (shelf_of files)) b (parent_of parents) a.place.name path) is_icu
      ∙ ap (λ (fs : Files). lookup_in (bundle_at (shelf_of fs)) (bundle_at (icudata_of packages)) (parent_of parents) a.place.name path) (same ∙ a.files)
      ∙ ap (λ r. lookup_at start (list_of app packages) r path) (sym a.read)
