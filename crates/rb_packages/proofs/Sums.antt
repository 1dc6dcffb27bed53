-- Sums that stop at a greatest number, and the total length of files.
use Rattle.std.proofs.Common.{◌≡◌, ℕ, ◌+◌, ◌≤◌, Bool, true, false, List, [], ◌∷◌, ◌++◌, Some, length, map, min, refl, ap, ◌∙◌, arith}
use Rattle.std.specs.List.{fold, sum_by}
use Rattle.std.specs.Map.{lookup, values_of, set_value, remove_entry}
use Rattle.std.specs.Str.{bytes_eq}
use Rattle.std.proofs.lemmas.List.Sums.{sum_by-append, sum_by-cons}
use Rattle.rb_packages.specs.Packages.{Files}
use Rattle.rb_packages.specs.Usage.{bytes_of}

-- a sum from a start is that from 0 and the start
fold-start : {X : Type 0} (f : X → ℕ) (a : ℕ) (xs : List X) → fold (λ s x. s + f x) a xs ≡ a + sum_by f xs
fold-start f a [] = omega arith
fold-start f a (x ∷ xs) = omega (arith, fold-start f (a + f x) xs, fold-start f (0 + f x) xs)

fold_to : {X : Type 0} (f : X → ℕ) (most a : ℕ) (xs : List X) → a ≤ most
    → fold (λ s x. min (s + f x) most) a xs ≡ min (fold (λ s x. s + f x) a xs) most
fold_to f most a [] h = omega arith
fold_to f most a (x ∷ xs) h =
    omega (arith, fold_to f most (min (a + f x) most) xs (omega arith), fold-start f (min (a + f x) most) xs, fold-start f (a + f x) xs)

-- if each step stops at the greatest number, the sum does
pub sum_to : {X : Type 0} (f : X → ℕ) (most : ℕ) (xs : List X) → fold (λ s x. min (s + f x) most) 0 xs ≡ min (sum_by f xs) most
sum_to f most xs = fold_to f most 0 xs (omega arith)

added_up : (a : ℕ) (files : Files) → fold (λ s x. s + x) a (map length (values_of files)) ≡ fold (λ s e. s + length e.1) a files
added_up a [] = refl
added_up a (e ∷ es) = added_up (a + length e.1) es

-- the lengths of files, added up to a greatest number
pub bytes_to : (most : ℕ) (files : Files) → fold (λ s x. min (s + x) most) 0 (map length (values_of files)) ≡ min (bytes_of files) most
bytes_to most files = sum_to (λ x. x) most (map length (values_of files)) ∙ ap (λ n. min n most) (added_up 0 files)

-- ---- the bytes of files

abbrev len_of : List ℕ × List ℕ → ℕ
len_of e = length e.1

-- with one more
pub bytes-push : (files : Files) (name file : List ℕ) → bytes_of (files ++ (name, file) ∷ []) ≡ bytes_of files + length file
bytes-push files name file = let more = sum_by-append len_of files ((name, file) ∷ []) in omega arith

-- with another in the place of one
pub bytes-set : (files : Files) (name file old : List ℕ) → lookup (bytes_eq name) files ≡ Some old
    → bytes_of (set_value (bytes_eq name) files file) + length old ≡ bytes_of files + length file
bytes-set [] name file old h = absurd cc
bytes-set (e ∷ es) name file old h = by (bytes-set es name file old) (bytes_eq name e.0) refl
  where
    by : (lookup (bytes_eq name) es ≡ Some old → bytes_of (set_value (bytes_eq name) es file) + length old ≡ bytes_of es + length file) → (b : Bool)
        → bytes_eq name e.0 ≡ b → bytes_of (set_value (bytes_eq name) (e ∷ es) file) + length old ≡ bytes_of (e ∷ es) + length file
    by rest true t =
        let here : Some e.1 ≡ Some old = rw t at h in
        let same : e.1 ≡ old = cc in
        let len : length e.1 ≡ length old = ap length same in
        let before = sum_by-cons len_of e es in
        let after = sum_by-cons len_of (e.0, file) es in
        rw t (omega arith)
    by rest false t =
        let later : lookup (bytes_eq name) es ≡ Some old = rw t at h in
        let more = rest later in
        let before = sum_by-cons len_of e es in
        let after = sum_by-cons len_of e (set_value (bytes_eq name) es file) in
        rw t (omega arith)

-- without one
pub bytes-remove : (files : Files) (name old : List ℕ) → lookup (bytes_eq name) files ≡ Some old
    → bytes_of (remove_entry (bytes_eq name) files) + length old ≡ bytes_of files
bytes-remove [] name old h = absurd cc
bytes-remove (e ∷ es) name old h = by (bytes-remove es name old) (bytes_eq name e.0) refl
  where
    by : (lookup (bytes_eq name) es ≡ Some old → bytes_of (remove_entry (bytes_eq name) es) + length old ≡ bytes_of es) → (b : Bool)
        → bytes_eq name e.0 ≡ b → bytes_of (remove_entry (bytes_eq name) (e ∷ es)) + length old ≡ bytes_of (e ∷ es)
    by rest true t =
        let here : Some e.1 ≡ Some old = rw t at h in
        let same : e.1 ≡ old = cc in
        let len : length e.1 ≡ length old = ap length same in
        let before = sum_by-cons len_of e es in
        rw t (omega arith)
    by rest false t =
        let later : lookup (bytes_eq name) es ≡ Some old = rw t at h in
        let more = rest later in
        let before = sum_by-cons len_of e es in
        let after = sum_by-cons len_of e (remove_entry (bytes_eq name) es) in
        rw t (omega arith)
