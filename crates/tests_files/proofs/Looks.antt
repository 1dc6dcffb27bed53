-- A look at each child of a tree, and at each number of a list.
use Rattle.std.proofs.Common.{◌≡◌, ◌<◌, ◌≤◌, ◌+◌, ◌⊎◌, inl, inr, ℕ, suc, List, [], ◌∷◌, length, Some, Option, refl, ap, sym, subst, arith, ◌∙◌}
use Rattle.std.proofs.Math.Nat.{eq-or-lt_of_le}
use Rattle.std.specs.Prelude.{slice_get}
use Rattle.std.specs.List.{AllByRecursion}
use Rattle.std.specs.Map.{values_of}
use Rattle.rb_tree.specs.Keys.{items, pairs}
use Rattle.rb_tree.specs.Resource.{Resource, Resources, no_trees, tree_and, Members, no_entries, entry_and}
use Rattle.rb_printer.specs.Sound.{IsSound, AreSound, EachSound}

-- each element before the index has the property
abbrev pub AllUpTo : {A : Type 0} → (A → Type 0) → List A → ℕ → Type 0
AllUpTo {A} P xs i = (j : ℕ) (x : A) → j < i → Some x ≡ slice_get xs j → P x

pub all_start : {A : Type 0} (P : A → Type 0) (xs : List A) → AllUpTo P xs 0
all_start P xs j x l e = absurd (omega arith)

some_is : {A : Type 0} (x y : A) → ◌≡◌ {A = Option A} (Some x) (Some y) → x ≡ y
some_is x y h = cc

pub all_more : {A : Type 0} (P : A → Type 0) (xs : List A) (i : ℕ) (y : A) → AllUpTo P xs i → Some y ≡ slice_get xs i → P y → AllUpTo P xs (i + 1)
all_more P xs i y before at now j x l e = by (eq-or-lt_of_le (let r : j ≤ i = omega arith in r))
  where
    by : (j ≡ i) ⊎ (j < i) → P x
    by (inl f) = subst P (some_is y x (at ∙ ap (slice_get xs) (sym f) ∙ sym e)) now
    by (inr f) = before j x f e

pub items_sound : (ts : Resources) (i : ℕ) → length (items ts) ≤ i → AllUpTo IsSound (items ts) i → AreSound ts
items_sound ts i past h = all ts (λ j u l e. h j u (omega arith) e)
  where
    all : (us : Resources) → ((j : ℕ) (u : Resource) → j < length (items us) → Some u ≡ slice_get (items us) j → IsSound u) → AreSound us
    all no_trees k = tt
    all (tree_and u us) k = (k 0 u (omega arith) refl, all us (λ j v l e. k (suc j) v (omega arith) e))

pub entries_sound : (es : Members) (i : ℕ) → length (pairs es) ≤ i → AllUpTo IsSound (values_of (pairs es)) i → EachSound es
entries_sound es i past h = all es (λ j u l e. h j u (omega arith) e)
  where
    all : (fs : Members) → ((j : ℕ) (u : Resource) → j < length (pairs fs) → Some u ≡ slice_get (values_of (pairs fs)) j → IsSound u) → EachSound fs
    all no_entries k = tt
    all (entry_and l u fs) k = (k 0 u (omega arith) refl, all fs (λ j v l e. k (suc j) v (omega arith) e))

pub list_all : {A : Type 0} (P : A → Type 0) (xs : List A) (i : ℕ) → length xs ≤ i → AllUpTo P xs i → AllByRecursion P xs
list_all {A = A} P xs i past h = all xs (λ j x l e. h j x (omega arith) e)
  where
    all : (ys : List A) → ((j : ℕ) (y : A) → j < length ys → Some y ≡ slice_get ys j → P y) → AllByRecursion P ys
    all [] k = tt
    all (y ∷ ys) k = (k 0 y (omega arith) refl, all ys (λ j z l e. k (suc j) z (omega arith) e))
