-- The sizes of files after changes, and the names and lengths that a draft begins with.
use Rattle.std.proofs.Common.{◌≡◌, ℕ, ◌+◌, Bool, true, false, List, [], ◌∷◌, ◌++◌, Option, None, Some, length, min, option_map, append-nil, append_assoc, refl, sym, ap, ◌∙◌}
use Rattle.std.specs.List.{fold, sum_by, AllByRecursion, IsDistinct}
use Rattle.std.specs.Map.{lookup, keys_of, values_of, remove_entry}
use Rattle.std.specs.Str.{bytes_eq}
use Rattle.std.proofs.lemmas.Bool.{false_from_ne_true}
use Rattle.std.proofs.lemmas.List.{length-map}
use Rattle.std.proofs.lemmas.Map.Made.{lookup-map_values}
use Rattle.std.proofs.lemmas.Slice.Eq.{bytes_eq-Decides}
use Rattle.indexmap.specs.IndexMap.{insert_entry, insert_all}
use Rattle.rb_packages.specs.Packages.{Files}
use Rattle.rb_packages.specs.Release.{Edits, Sizes, Drafted, IsDraftOf, edited, edited_at, sizes_of}
use Rattle.rb_packages.specs.Usage.{bytes_of}
use Rattle.rb_packages.proofs.Sums.{sum_to}

-- another change after others
pub edited-push : (es : Edits) (e : List ℕ × Option (List ℕ)) (files : Files) → edited (es ++ e ∷ []) files ≡ edited_at e.0 e.1 (edited es files)
edited-push [] e files = refl
edited-push (x ∷ xs) e files = edited-push xs e (edited_at x.0 x.1 files)

pub sizes_of-insert : (files : Files) (name file : List ℕ)
    → sizes_of (insert_entry bytes_eq files name file) ≡ insert_entry bytes_eq (sizes_of files) name (length file)
sizes_of-insert [] name file = refl
sizes_of-insert (e ∷ es) name file = by (sizes_of-insert es name file) (bytes_eq name e.0) refl
  where
    by : sizes_of (insert_entry bytes_eq es name file) ≡ insert_entry bytes_eq (sizes_of es) name (length file) → (b : Bool) → bytes_eq name e.0 ≡ b
        → sizes_of (insert_entry bytes_eq (e ∷ es) name file) ≡ insert_entry bytes_eq (sizes_of (e ∷ es)) name (length file)
    by rest true h = rw h refl
    by rest false h = rw h (ap (λ l. (e.0, length e.1) ∷ l) rest)

pub sizes_of-remove : (files : Files) (name : List ℕ) → sizes_of (remove_entry (bytes_eq name) files) ≡ remove_entry (bytes_eq name) (sizes_of files)
sizes_of-remove [] name = refl
sizes_of-remove (e ∷ es) name = by (sizes_of-remove es name) (bytes_eq name e.0) refl
  where
    by : sizes_of (remove_entry (bytes_eq name) es) ≡ remove_entry (bytes_eq name) (sizes_of es) → (b : Bool) → bytes_eq name e.0 ≡ b
        → sizes_of (remove_entry (bytes_eq name) (e ∷ es)) ≡ remove_entry (bytes_eq name) (sizes_of (e ∷ es))
    by rest true h = rw h refl
    by rest false h = rw h (ap (λ l. (e.0, length e.1) ∷ l) rest)

-- ---- a draft of changes of files

module _ (files : Files) (old new : Drafted) where
  after : (e : List ℕ × Option (List ℕ)) → new.edits ≡ old.edits ++ e ∷ [] → edited new.edits files ≡ edited_at e.0 e.1 (edited old.edits files)
  after e h = ap (λ es. edited es files) h ∙ edited-push old.edits e files

  pub put_drafted : (name file : List ℕ) → IsDraftOf files old → new.edits ≡ old.edits ++ (name, Some file) ∷ []
      → new.sizes ≡ insert_entry bytes_eq old.sizes name (length file) → IsDraftOf files new
  put_drafted name file is added size =
      size
      ∙ ap (λ l. insert_entry bytes_eq l name (length file)) is
      ∙ sym (sizes_of-insert (edited old.edits files) name file)
      ∙ ap sizes_of (sym (after (name, Some file) added))

  pub removal_drafted : (name : List ℕ) → IsDraftOf files old → new.edits ≡ old.edits ++ (name, None) ∷ []
      → new.sizes ≡ remove_entry (bytes_eq name) old.sizes → IsDraftOf files new
  removal_drafted name is added size =
      size
      ∙ ap (remove_entry (bytes_eq name)) is
      ∙ sym (sizes_of-remove (edited old.edits files) name)
      ∙ ap sizes_of (sym (after (name, None) added))

-- what a draft says of the files that there would be
pub lookup-sizes_of : (files : Files) (name : List ℕ) → lookup (bytes_eq name) (sizes_of files) ≡ option_map length (lookup (bytes_eq name) files)
lookup-sizes_of files name = lookup-map_values length (bytes_eq name) files

pub length-sizes_of : (files : Files) → length (sizes_of files) ≡ length files
length-sizes_of files = length-map files _

sum_from : (a : ℕ) (files : Files) → fold (λ s e. s + e.1) a (sizes_of files) ≡ fold (λ s e. s + length e.1) a files
sum_from a [] = refl
sum_from a (e ∷ es) = sum_from (a + length e.1) es

pub sum-sizes_of : (files : Files) → sum_by (λ e. e.1) (sizes_of files) ≡ bytes_of files
sum-sizes_of files = sum_from 0 files

-- ---- distinct names, stored one after another

-- a name that none of these have
abbrev IsNew : List ℕ → Sizes → Type 0
IsNew name sizes = AllByRecursion (λ e. bytes_eq name e.0 ≡ false) sizes

at_end : (sizes : Sizes) (name : List ℕ) (len : ℕ) → IsNew name sizes → insert_entry bytes_eq sizes name len ≡ sizes ++ (name, len) ∷ []
at_end [] name len new = refl
at_end (e ∷ es) name len new = rw new.0 (ap (λ l. e ∷ l) (at_end es name len new.1))

other_way : (a b : List ℕ) → bytes_eq a b ≡ false → bytes_eq b a ≡ false
other_way a b h = false_from_ne_true (bytes_eq b a) (λ e. by ((bytes_eq-Decides b a).0 e))
  where
    by : b ≡ a → ⊥
    by e =
        let same : bytes_eq a b ≡ true = (bytes_eq-Decides a b).1 (sym e) in
        cc

new-push : (sizes : Sizes) (e : List ℕ × ℕ) (name : List ℕ) → IsNew name sizes → bytes_eq name e.0 ≡ false → IsNew name (sizes ++ e ∷ [])
new-push [] e name new other = (other, tt)
new-push (x ∷ xs) e name new other = (new.0, new-push xs e name new.1 other)

abbrev AreNew : Sizes → Sizes → Type 0
AreNew sizes there = AllByRecursion (λ e. IsNew e.0 there) sizes

all_new-push : (sizes there : Sizes) (e : List ℕ × ℕ) → AreNew sizes there → AllByRecursion (λ name. bytes_eq e.0 name ≡ false) (keys_of sizes)
    → AreNew sizes (there ++ e ∷ [])
all_new-push [] there e new others = tt
all_new-push (x ∷ xs) there e new others =
    (new-push there e x.0 new.0 (other_way e.0 x.0 others.0), all_new-push xs there e new.1 others.1)

one_after_another : (there sizes : Sizes) → AreNew sizes there → IsDistinct bytes_eq (keys_of sizes) → insert_all bytes_eq there sizes ≡ there ++ sizes
unfolding IsDistinct
one_after_another there [] new distinct = sym (append-nil there)
one_after_another there (e ∷ es) new distinct =
    ap (λ l. insert_all bytes_eq l es) (at_end there e.0 e.1 new.0)
    ∙ one_after_another (there ++ e ∷ []) es (all_new-push es there e new.1 distinct.0) distinct.1
    ∙ append_assoc there (e ∷ []) es

nothing_there : (sizes : Sizes) → AreNew sizes []
nothing_there [] = tt
nothing_there (e ∷ es) = (tt, nothing_there es)

pub all_stored : (sizes : Sizes) → IsDistinct bytes_eq (keys_of sizes) → insert_all bytes_eq [] sizes ≡ sizes
all_stored sizes distinct = one_after_another [] sizes (nothing_there sizes) distinct

-- ---- the sum of lengths

added : (a : ℕ) (sizes : Sizes) → fold (λ s x. s + x) a (values_of sizes) ≡ fold (λ s e. s + e.1) a sizes
added a [] = refl
added a (e ∷ es) = added (a + e.1) es

pub lens_to : (most : ℕ) (sizes : Sizes) → fold (λ s x. min (s + x) most) 0 (values_of sizes) ≡ min (sum_by (λ e. e.1) sizes) most
lens_to most sizes = sum_to (λ x. x) most (values_of sizes) ∙ ap (λ n. min n most) (added 0 sizes)
