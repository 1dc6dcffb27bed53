-- Units that are appended to a list, one by one.
use Rattle.std.proofs.Common.{◌≡◌, ◌+◌, ◌-◌, ◌<◌, ◌≤◌, ℕ, List, [], ◌∷◌, ◌++◌, length, take, drop, get_or, slice_index, nat_le, true}
use Rattle.std.proofs.Common.{ap, sym, ◌∙◌, arith, length-drop}
use Rattle.std.specs.List.{list_all}
use Rattle.std.proofs.lemmas.List.{get_or-drop, length-take-le, take_more}
use Rattle.std.proofs.lemmas.List.Sums.{AllPass-from_list_all}
use Rattle.std.proofs.lemmas.Bool.{leb-true}
use Rattle.rb_tree.specs.Resource.{Resource}
use Rattle.rb_tree.specs.Parts.{HasUnits, kind_of, len_of, units_of}
use Rattle.rb_locales.proofs.Narrowed.{units_len}
use Rattle.rb_fallback.specs.Alias.{is_plain}
use Rattle.rb_locales.proofs.Canonical.{both_true}

pub plain_low : (t : Resource) (i : ℕ) → HasUnits (kind_of t) → list_all is_plain (units_of t) ≡ true → i < len_of t → slice_index (units_of t) i < 256
plain_low t i u p h =
    let within : i < length (units_of t) = omega (arith, units_len t u) in
    let b : nat_le (slice_index (units_of t) i) 126 ≡ true = (both_true _ _ (AllPass-from_list_all is_plain (units_of t) p i 0 within)).1 in
    omega (arith, leb-true (slice_index (units_of t) i) 126 b)

pub unit_on : (t : Resource) (at i : ℕ) (xs : List ℕ) → HasUnits (kind_of t) → at ≤ i → i < len_of t → xs ≡ take (i - at) (drop at (units_of t))
    → xs ++ slice_index (units_of t) i ∷ [] ≡ take (i + 1 - at) (drop at (units_of t))
unit_on t at i xs u l h e =
    let x = drop at (units_of t) in
    let more : i - at < length x = omega (arith, length-drop at (units_of t), units_len t u) in
    let place : at + (i - at) ≡ i = omega arith in
    let read : get_or x (i - at) 0 ≡ slice_index (units_of t) i = get_or-drop at (units_of t) (i - at) 0 ∙ ap (slice_index (units_of t)) place in
    ap (λ l. l ++ slice_index (units_of t) i ∷ []) e
    ∙ ap (λ (y : ℕ). take (i - at) x ++ y ∷ []) (sym read)
    ∙ sym (take_more x (i - at) 0 more)
    ∙ ap (λ (k : ℕ). take k x) (let k : i - at + 1 ≡ i + 1 - at = omega arith in k)

pub unit_count : (t : Resource) (at i : ℕ) (xs : List ℕ) → HasUnits (kind_of t) → i ≤ len_of t → xs ≡ take (i - at) (drop at (units_of t))
    → length xs ≡ i - at
unit_count t at i xs u l e = ap length e ∙ length-take-le (i - at) (drop at (units_of t)) (omega (arith, length-drop at (units_of t), units_len t u))
