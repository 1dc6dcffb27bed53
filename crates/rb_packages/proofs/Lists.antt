-- The files of a package as its bundles, and the index of all applications as the files of each.
use Rattle.std.proofs.Common.{◌≡◌, ◌≢◌, ℕ, Bool, true, false, List, [], ◌∷◌, ◌++◌, length, Option, Some, None, Result, Ok, Err, is_some, option_map}
use Rattle.std.proofs.Common.{option_copied, map, nat_le, ◌+◌, ◌≤◌, ◌<◌, cond, IfErr, IfNone, IfSome, Bor, refl, sym, ◌∙◌, ap, arith}
use Rattle.std.specs.Option.{unwrap_or}
use Rattle.std.specs.Map.{lookup, set_value, remove_entry, keys_of}
use Rattle.std.specs.Str.{bytes_eq}
use Rattle.std.proofs.lemmas.Slice.Eq.{bytes_eq-Decides}
use Rattle.std.proofs.lemmas.Bool.{false_from_ne_true}
use Rattle.std.proofs.lemmas.Bool.Decides.{nat_tests}
use Rattle.std.proofs.lemmas.List.{length-map, map_push}
use Rattle.std.proofs.lemmas.Map.Made.{lookup-map_values, keys_of-map_values}
use Rattle.indexmap.specs.IndexMap.{IndexMap, UpdatesBy}
use Rattle.rb_format.specs.File.{source_tree_of}
use Rattle.rb_packages.specs.Shelf.{bundle_at, holds, is_full, replaced, removed}
use Rattle.rb_packages.specs.Packages.{Files, Stored, shelf_of, files_of, list_of, file_at, icudata_files, icudata_of}
use Rattle.rb_packages.specs.Packages.{install_fault, load_fault, IsJudged, OthersStay}
use Rattle.rb_packages.specs.Lent.{files_lent}
use Rattle.rb_packages.specs.Usage.{apps_of, more_apps}
use Rattle.rb_packages.specs.declared.fault.PackFault.{PackFault}
use Rattle.rb_packages.specs.declared.fault.PackFault.TheVariants.{Twice, Exists, Full, Memory}
use Rattle.rb_packages.specs.Index.{Rows, entries_of, files_at, files_by_app, KeepsOthers, IsBare}

other_bytes : (a b : List ℕ) → b ≢ a → bytes_eq a b ≡ false
other_bytes a b n = false_from_ne_true (bytes_eq a b) (λ h. n (sym ((bytes_eq-Decides a b).0 h)))

-- ---- the bundles of a package's files

pub bundle_at-shelf_of : (files : Files) (name : List ℕ) → bundle_at (shelf_of files) name ≡ option_map source_tree_of (lookup (bytes_eq name) files)
bundle_at-shelf_of files name = lookup-map_values source_tree_of (bytes_eq name) files

holds-shelf_of : (files : Files) (name : List ℕ) (b : Bool) → is_some (lookup (bytes_eq name) files) ≡ b → holds name (shelf_of files) ≡ b
holds-shelf_of files name b h = ap is_some (bundle_at-shelf_of files name) ∙ by (lookup (bytes_eq name) files) ∙ h
  where
    by : (o : Option (List ℕ)) → is_some (option_map source_tree_of o) ≡ is_some o
    by None = refl
    by (Some file) = refl

pub shelf_of-push : (files : Files) (name file : List ℕ) → shelf_of (files ++ (name, file) ∷ []) ≡ shelf_of files ++ (name, source_tree_of file) ∷ []
shelf_of-push files name file = map_push _ files (name, file)

shelf_of-set_value : (files : Files) (name file : List ℕ)
    → shelf_of (set_value (bytes_eq name) files file) ≡ replaced name (source_tree_of file) (shelf_of files)
shelf_of-set_value [] name file = refl
shelf_of-set_value (e ∷ es) name file = by (shelf_of-set_value es name file) (bytes_eq name e.0) refl
  where
    by : shelf_of (set_value (bytes_eq name) es file) ≡ replaced name (source_tree_of file) (shelf_of es) → (b : Bool) → bytes_eq name e.0 ≡ b
        → shelf_of (set_value (bytes_eq name) (e ∷ es) file) ≡ replaced name (source_tree_of file) (shelf_of (e ∷ es))
    by rest true h = rw h (ap (λ n. (n, source_tree_of file) ∷ shelf_of es) (sym ((bytes_eq-Decides name e.0).0 h)))
    by rest false h = rw h (ap (λ l. (e.0, source_tree_of e.1) ∷ l) rest)

shelf_of-remove_entry : (files : Files) (name : List ℕ) → shelf_of (remove_entry (bytes_eq name) files) ≡ removed name (shelf_of files)
shelf_of-remove_entry [] name = refl
shelf_of-remove_entry (e ∷ es) name = by (shelf_of-remove_entry es name) (bytes_eq name e.0) refl
  where
    by : shelf_of (remove_entry (bytes_eq name) es) ≡ removed name (shelf_of es) → (b : Bool) → bytes_eq name e.0 ≡ b
        → shelf_of (remove_entry (bytes_eq name) (e ∷ es)) ≡ removed name (shelf_of (e ∷ es))
    by rest true h = rw h refl
    by rest false h = rw h (ap (λ l. (e.0, source_tree_of e.1) ∷ l) rest)

-- ---- the files of each application

module _ {S : Type 0} where
  -- what all applications' files say of one
  lookup-files_by_app : (app : List ℕ) (rows : Rows S) → unwrap_or (lookup (bytes_eq app) (files_by_app rows)) [] ≡ files_at app rows
  lookup-files_by_app app rows = ap (λ o. unwrap_or o []) (lookup-map_values _ (bytes_eq app) rows) ∙ by (lookup (bytes_eq app) rows)
    where
      by : (o : Option (IndexMap (List ℕ) (List ℕ) S)) → unwrap_or (option_map (λ m. m.entries) o) [] ≡ entries_of o
      by None = refl
      by (Some bundles) = refl

  -- a package that is written with the same files
  pub files_by_app-set_value : (app : List ℕ) (rows : Rows S) (old new : IndexMap (List ℕ) (List ℕ) S) → lookup (bytes_eq app) rows ≡ Some old
      → new.entries ≡ old.entries → files_by_app (set_value (bytes_eq app) rows new) ≡ files_by_app rows
  files_by_app-set_value app [] old new h e = refl
  files_by_app-set_value app (r ∷ rs) old new h e = by (files_by_app-set_value app rs old new) (bytes_eq app r.0) refl
    where
      by : (lookup (bytes_eq app) rs ≡ Some old → new.entries ≡ old.entries → files_by_app (set_value (bytes_eq app) rs new) ≡ files_by_app rs) → (b : Bool)
          → bytes_eq app r.0 ≡ b → files_by_app (set_value (bytes_eq app) (r ∷ rs) new) ≡ files_by_app (r ∷ rs)
      by rest true t =
          let here : Some r.1 ≡ Some old = rw t at h in
          let same : r.1 ≡ old = cc in
          rw t (ap (λ l. (r.0, l) ∷ files_by_app rs) (e ∙ ap (λ m. m.entries) (sym same)))
      by rest false t =
          let later : lookup (bytes_eq app) rs ≡ Some old = rw t at h in
          rw t (ap (λ l. (r.0, r.1.entries) ∷ l) (rest later e))

  -- if one application's package is put, changed or taken out, every other's files stay
  pub other_files : (app : List ℕ) (old new : IndexMap (List ℕ) (IndexMap (List ℕ) (List ℕ) S) S) (bundles : Option (IndexMap (List ℕ) (List ℕ) S))
      → UpdatesBy bytes_eq (bytes_eq app) old new bundles → KeepsOthers app old.entries new.entries
  other_files app old new bundles h other n = h.2 other (other_bytes app other n)

-- ---- faults

pub there : (name : List ℕ) (files : Files) → is_some (lookup (bytes_eq name) files) ≡ true → install_fault name (shelf_of files) ≡ Some Exists
there name files h = rw (holds-shelf_of files name true h) refl

pub there_twice : (name : List ℕ) (files : Files) → is_some (lookup (bytes_eq name) files) ≡ true → load_fault name (shelf_of files) ≡ Some Twice
there_twice name files h = rw (holds-shelf_of files name true h) refl

pub not_twice : (name : List ℕ) (files : Files) → is_some (lookup (bytes_eq name) files) ≡ false → load_fault name (shelf_of files) ≡ None
not_twice name files h = rw (holds-shelf_of files name false h) refl

is_full-shelf_of : (files : Files) (b : Bool) → nat_le 4096 (length files) ≡ b → is_full (shelf_of files) ≡ b
is_full-shelf_of files b h = ap (nat_le 4096) (length-map files _) ∙ h

pub full : (name : List ℕ) (files : Files) → is_some (lookup (bytes_eq name) files) ≡ false → 4096 ≤ length files
    → install_fault name (shelf_of files) ≡ Some Full
full name files h many = rw (holds-shelf_of files name false h, is_full-shelf_of files true (grind (arith, nat_tests, many))) refl

pub room : (name : List ℕ) (files : Files) → is_some (lookup (bytes_eq name) files) ≡ false → length files < 4096
    → install_fault name (shelf_of files) ≡ None
room name files h few = rw (holds-shelf_of files name false h, is_full-shelf_of files false (grind (arith, nat_tests, few))) refl

pub judged_add : (r : Result (Unit {0}) (PackFault × List ℕ)) (bundle : List ℕ) (fault : Option PackFault) → fault ≡ None
    → IfErr r (λ e. e ≡ (Memory, bundle)) → IsJudged fault r
judged_add (Ok u) bundle fault f h = f
judged_add (Err e) bundle fault f h = rw f (ap (λ (p : PackFault × List ℕ). p.0) h)

-- one more application if it has no files
pub more_apps_by : {S : Type 0} (o : Option (IndexMap (List ℕ) (List ℕ) S)) → ¬ IsBare o → more_apps (entries_of o) ≡ cond (is_some o) 0 1
more_apps_by None filled = refl
more_apps_by (Some bundles) filled = by bundles.entries refl
  where
    by : (files : Files) → bundles.entries ≡ files → more_apps files ≡ 0
    by [] e = absurd (filled (ap Some e))
    by (f ∷ fs) e = refl

-- ---- what packages are seen as

module _ {S : Type 0} {stored : Stored} {icudata : Files} (rows : Rows S) (e : record { icudata = icudata; owned = files_by_app rows } ≡ stored) where
  pub files_seen : (app : List ℕ) → files_of app stored ≡ files_at app rows
  files_seen app = ap (files_of app) (sym e) ∙ lookup-files_by_app app rows

  pub list_seen : (app : List ℕ) → list_of app stored ≡ shelf_of (files_at app rows)
  list_seen app = ap shelf_of (files_seen app)

  pub file_seen : (app name file : List ℕ) → lookup (bytes_eq name) (files_at app rows) ≡ Some file → file_at app name stored ≡ Some file
  file_seen app name file h = ap (lookup (bytes_eq name)) (files_seen app) ∙ h

  bundle_seen : (app name : List ℕ) (o : Option (List ℕ)) → lookup (bytes_eq name) (files_at app rows) ≡ o
      → bundle_at (list_of app stored) name ≡ option_map source_tree_of o
  bundle_seen app name o h =
      ap (λ l. bundle_at l name) (list_seen app) ∙ bundle_at-shelf_of (files_at app rows) name ∙ ap (option_map source_tree_of) h

  pub found_seen : (app name file : List ℕ) → lookup (bytes_eq name) (files_at app rows) ≡ Some file
      → bundle_at (list_of app stored) name ≡ Some (source_tree_of file)
  found_seen app name file h = bundle_seen app name (Some file) h

  pub absent_seen : (app name : List ℕ) → lookup (bytes_eq name) (files_at app rows) ≡ None → bundle_at (list_of app stored) name ≡ None
  absent_seen app name h = bundle_seen app name None h

  pub apps_seen : apps_of stored ≡ length rows
  apps_seen = ap apps_of (sym e) ∙ length-map rows _

  pub icudata_seen : icudata_of stored ≡ shelf_of icudata
  icudata_seen = ap icudata_of (sym e)

  pub fault_seen : {A : Type 0} (app name : List ℕ) (r : Result A (PackFault × List ℕ)) → IsJudged (install_fault name (shelf_of (files_at app rows))) r
      → IsJudged (install_fault name (list_of app stored)) r
  fault_seen app name r h = rw (list_seen app) h

  pub names_seen : (app : List ℕ) (files : Files) → files_at app rows ≡ files → map (λ p. p.0) (list_of app stored) ≡ keys_of files
  names_seen app files h = ap (map (λ p. p.0)) (list_seen app ∙ ap shelf_of h) ∙ keys_of-map_values source_tree_of files

  -- what they are seen as after a change of one application's files
  module _ (app : List ℕ) (new : Rows S) where
    abbrev changed : Stored
    changed = record { icudata = icudata; owned = files_by_app new }

    -- if another application's files stay, so do its bundles
    pub others_seen : KeepsOthers app rows new → OthersStay app stored changed
    others_seen stays = record {
      icudata = ap icudata_of e;
      icudata_bytes = ap icudata_files e;
      others = λ other n. ap shelf_of (lookup-files_by_app other new ∙ ap entries_of (stays other n)) ∙ sym (list_seen other);
      files = λ other n. lookup-files_by_app other new ∙ ap entries_of (stays other n) ∙ sym (files_seen other);
    }

    pub apps_kept : length new ≡ length rows → apps_of changed ≡ apps_of stored
    apps_kept h = length-map new _ ∙ h ∙ sym apps_seen

    pub apps_left : length rows ≡ length new + more_apps (files_at app new) → apps_of stored ≡ apps_of changed + more_apps (files_of app changed)
    apps_left h = rw (apps_seen, length-map new _, lookup-files_by_app app new) h

    pub apps_added : ¬ IsBare (lookup (bytes_eq app) rows) → length new ≡ length rows + cond (is_some (lookup (bytes_eq app) rows)) 0 1
        → apps_of changed ≡ apps_of stored + more_apps (files_of app stored)
    apps_added filled h = rw (length-map new _, apps_seen, files_seen app, more_apps_by (lookup (bytes_eq app) rows) filled) h

    pub apps_changed : ¬ IsBare (lookup (bytes_eq app) rows)
        → length new + more_apps (files_at app new) ≡ length rows + cond (is_some (lookup (bytes_eq app) rows)) 0 1
        → apps_of changed + more_apps (files_of app changed) ≡ apps_of stored + more_apps (files_of app stored)
    apps_changed filled h =
        rw (length-map new _, apps_seen, lookup-files_by_app app new, files_seen app, more_apps_by (lookup (bytes_eq app) rows) filled) h

    pub files_changed : (change : Files → Files) → files_at app new ≡ change (files_at app rows) → files_of app changed ≡ change (files_of app stored)
    files_changed change h = lookup-files_by_app app new ∙ h ∙ ap change (sym (files_seen app))

    list_changed : (files : Files) → files_at app new ≡ files → list_of app changed ≡ shelf_of files
    list_changed files h = ap shelf_of (lookup-files_by_app app new ∙ h)

    pub pushed_seen : (name file : List ℕ) → files_at app new ≡ files_at app rows ++ (name, file) ∷ []
        → list_of app changed ≡ list_of app stored ++ (name, source_tree_of file) ∷ []
    pushed_seen name file h =
        list_changed _ h
        ∙ shelf_of-push (files_at app rows) name file
        ∙ ap (λ l. l ++ (name, source_tree_of file) ∷ []) (sym (list_seen app))

    pub replaced_seen : (name file : List ℕ) → files_at app new ≡ set_value (bytes_eq name) (files_at app rows) file
        → list_of app changed ≡ replaced name (source_tree_of file) (list_of app stored)
    replaced_seen name file h =
        list_changed _ h
        ∙ shelf_of-set_value (files_at app rows) name file
        ∙ ap (replaced name (source_tree_of file)) (sym (list_seen app))

    pub removed_seen : (name : List ℕ) → files_at app new ≡ remove_entry (bytes_eq name) (files_at app rows)
        → list_of app changed ≡ removed name (list_of app stored)
    removed_seen name h = list_changed _ h ∙ shelf_of-remove_entry (files_at app rows) name ∙ ap (removed name) (sym (list_seen app))

-- ---- lookups in an index

pub if_none : {A P Q : Type 0} (r : Option A) → (P → Q) → IfNone r P → IfNone r Q
if_none None f h = f h
if_none (Some a) f h = tt

pub if_some : {A : Type 0} {P Q : A → Type 0} (r : Option A) → ((a : A) → P a → Q a) → IfSome r P → IfSome r Q
if_some None f h = tt
if_some (Some a) f h = f a h

pub lent_files : {S : Type 0} (r : Option (Bor (IndexMap (List ℕ) (List ℕ) S))) → files_lent r ≡ entries_of (option_copied r)
lent_files None = refl
lent_files (Some bundles) = refl
