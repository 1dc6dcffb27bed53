-- Bytes that are tested by blocks.
use Rattle.std.proofs.Common.{◌≡◌, ◌+◌, ◌-◌, ◌<◌, ◌≤◌, ℕ, List, Bool, true, false, take, drop, length, get_or, arith, inl, inr, refl, ◌∙◌}
use Rattle.std.specs.List.{list_any}
use Rattle.std.proofs.lemmas.Bool.{cases_lt}
use Rattle.std.proofs.lemmas.List.{length-take, length-drop, get_or-take, get_or-drop}
use Rattle.std.proofs.lemmas.List.Folds.{list_any_at}

-- none of a block passes, so none up to its end does
pub none_more : (p : ℕ → Bool) (xs : List ℕ) (at n : ℕ) → at + n ≤ length xs → ((k : ℕ) → k < at → p (get_or xs k 0) ≡ false)
    → list_any p (take n (drop at xs)) ≡ false → (k : ℕ) → k < at + n → p (get_or xs k 0) ≡ false
none_more p xs at n inside before clear k h = elim (cases_lt k at) [
  | inl l ↦ before k l
  | inr g ↦ by (p (get_or xs k 0)) refl g
]
  where
    by : (b : Bool) → p (get_or xs k 0) ≡ b → at ≤ k → p (get_or xs k 0) ≡ false
    by false e g = e
    by true e g =
        let block = take n (drop at xs) in
        let size = length-take n (drop at xs) in
        let rest = length-drop at xs in
        let there : k - at < length block = omega arith in
        let place : at + (k - at) ≡ k = omega arith in
        let same : get_or block (k - at) 0 ≡ get_or xs k 0 = rw place at (get_or-take n (drop at xs) (k - at) 0 (omega arith) ∙ get_or-drop at xs (k - at) 0) in
        let hit = list_any_at p block (k - at) 0 there (rw same e) in
        absurd (cc)
