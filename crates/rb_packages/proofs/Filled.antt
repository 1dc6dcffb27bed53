-- Each application that is there has a bundle.
use Rattle.std.proofs.Common.{◌≡◌, ◌≢◌, ℕ, Bool, true, false, cond, List, [], ◌∷◌, ◌++◌, Option, Some, None, Result, Ok, Err, IfOk, OnOk, OnErr}
use Rattle.std.proofs.Common.{option_map, is_some, refl, sym, ◌∙◌, ap, subst}
use Rattle.std.specs.List.{IsDistinct}
use Rattle.std.specs.Map.{lookup, set_value, keys_of}
use Rattle.std.specs.Str.{bytes_eq}
use Rattle.std.proofs.lemmas.Slice.Eq.{bytes_eq-Decides}
use Rattle.std.proofs.lemmas.Map.Made.{lookup-map_values, keys_of-map_values}
use Rattle.indexmap.specs.IndexMap.{IndexMap}
use Rattle.rb_packages.specs.Packages.{Files, Stored}
use Rattle.rb_packages.specs.Usage.{AllHaveBundles, AreThereOnce}
use Rattle.rb_packages.specs.Index.{Rows, entries_of, files_at, files_by_app, KeepsOthers, IsBare}

push_is_some : (xs : Files) (x : List ℕ × List ℕ) → xs ++ x ∷ [] ≢ []
push_is_some [] x h = absurd cc
push_is_some (y ∷ ys) x h = absurd cc

set_is_some : (name : List ℕ) (files : Files) (file old : List ℕ) → lookup (bytes_eq name) files ≡ Some old → set_value (bytes_eq name) files file ≢ []
set_is_some name [] file old there h = absurd cc
set_is_some name (e ∷ es) file old there h = by (bytes_eq name e.0) h
  where
    by : (b : Bool) → cond b ((e.0, file) ∷ es) (e ∷ set_value (bytes_eq name) es file) ≢ []
    by true k = absurd cc
    by false k = absurd cc

module _ {S : Type 0} where
  in_rows : (app : List ℕ) (rows : Rows S) → lookup (bytes_eq app) (files_by_app rows) ≡ option_map (λ m. m.entries) (lookup (bytes_eq app) rows)
  in_rows app rows = lookup-map_values _ (bytes_eq app) rows

  pub filled_at : (app : List ℕ) (rows : Rows S) → AllHaveBundles (files_by_app rows) → ¬ IsBare (lookup (bytes_eq app) rows)
  filled_at app rows all h = all app (in_rows app rows ∙ h)

  -- a package without files has none
  pub bare_files : (o : Option (IndexMap (List ℕ) (List ℕ) S)) → IsBare o → entries_of o ≡ []
  bare_files None h = refl
  bare_files (Some bundles) h = cc

  -- if one application's package changes, and has files then, all that are there have some
  pub all_after : (app : List ℕ) (old new : Rows S) → AllHaveBundles (files_by_app old) → KeepsOthers app old new
      → ¬ IsBare (lookup (bytes_eq app) new) → AllHaveBundles (files_by_app new)
  all_after app old new all keeps here other h = by (bytes_eq app other) refl
    where
      by : (b : Bool) → bytes_eq app other ≡ b → ⊥
      by true t =
          let same : app ≡ other = (bytes_eq-Decides app other).0 t in
          here (sym (in_rows app new) ∙ ap (λ a. lookup (bytes_eq a) (files_by_app new)) same ∙ h)
      by false t =
          let apart : other ≢ app = λ e. let same : bytes_eq app other ≡ true = (bytes_eq-Decides app other).1 (sym e) in cc in
          all other (in_rows other old ∙ ap (option_map (λ m. m.entries)) (sym (keeps other apart)) ∙ sym (in_rows other new) ∙ h)

  filled_by : (app : List ℕ) (rows : Rows S) → files_at app rows ≢ [] → ¬ IsBare (lookup (bytes_eq app) rows)
  filled_by app rows some h = some (bare_files (lookup (bytes_eq app) rows) h)

  module _ (app : List ℕ) (old new : Rows S) (all : AllHaveBundles (files_by_app old)) (keeps : KeepsOthers app old new) where
    stayed : files_by_app new ≡ files_by_app old → AllHaveBundles (files_by_app new)
    stayed e = subst AllHaveBundles (sym e) all

    pub all_after_install : {A B : Type 0} (r : Result A B) (file : List ℕ × List ℕ) → OnOk r (files_at app new ≡ files_at app old ++ file ∷ [])
        → OnErr r (files_by_app new ≡ files_by_app old) → AllHaveBundles (files_by_app new)
    all_after_install (Ok a) file own stays = all_after app old new all keeps (filled_by app new (λ e. push_is_some (files_at app old) file (sym own ∙ e)))
    all_after_install (Err b) file own stays = stayed stays

    pub all_after_replace : {B : Type 0} (r : Result (List ℕ) B) (name file : List ℕ)
        → IfOk r (λ b. lookup (bytes_eq name) (files_at app old) ≡ Some b)
        → OnOk r (files_at app new ≡ set_value (bytes_eq name) (files_at app old) file)
        → OnErr r (files_by_app new ≡ files_by_app old) → AllHaveBundles (files_by_app new)
    all_after_replace (Ok a) name file there own stays =
        all_after app old new all keeps (filled_by app new (λ e. set_is_some name (files_at app old) file a there (sym own ∙ e)))
    all_after_replace (Err b) name file there own stays = stayed stays

    pub all_after_remove : {A B : Type 0} (r : Result A B) → OnOk r (¬ IsBare (lookup (bytes_eq app) new))
        → OnErr r (files_by_app new ≡ files_by_app old) → AllHaveBundles (files_by_app new)
    all_after_remove (Ok a) filled stays = all_after app old new all keeps filled
    all_after_remove (Err b) filled stays = stayed stays

  pub are_there_once : {stored : Stored} {icudata : Files} (rows : Rows S) → record { icudata = icudata; owned = files_by_app rows } ≡ stored
      → IsDistinct bytes_eq (keys_of rows) → AllHaveBundles (files_by_app rows) → AreThereOnce stored
  are_there_once rows e once filled =
      subst AreThereOnce e (record { once = subst (IsDistinct bytes_eq) (sym (keys_of-map_values (λ m. m.entries) rows)) once; filled = filled })
