-- Proves how many cells are marked, and what writing a cell changes.
use Rattle.std.proofs.Common.{◌≡◌, ◌≢◌, ℕ, zero, suc, ◌<◌, ◌≤◌, Bool, true, false, cond, eqb, List, length, get_or, set, replicate, refl, ap, arith}
use Rattle.std.proofs.Common.{subst, inl, inr, get_or-set_other, get_or-set_same}
use Rattle.std.proofs.Math.Nat.{eq-or-lt_of_le}
use Rattle.std.proofs.lemmas.Bool.Decides.{nat_tests}
use Rattle.rb_validator.specs.inner.Marks.{marked}

pub marked_le : (cells : List ℕ) (n : ℕ) → marked cells n ≤ n
marked_le cells zero = omega arith
marked_le cells (suc n) = let h = marked_le cells n in cases (eqb (get_or cells n 0) 0) (marked cells n) h
  where
    cases : (b : Bool) (m : ℕ) → m ≤ n → cond b m (suc m) ≤ suc n
    cases true m h = omega arith
    cases false m h = omega arith

pub marked_none : (cells : List ℕ) (n : ℕ) → ((i : ℕ) → get_or cells i 0 ≡ 0) → marked cells n ≡ 0
marked_none cells zero h = refl
marked_none cells (suc n) h = rw (h n) (marked_none cells n h)

marked_beyond : (cells : List ℕ) (p v n : ℕ) → n ≤ p → marked (set cells p v) n ≡ marked cells n
marked_beyond cells p v zero h = refl
marked_beyond cells p v (suc n) h =
    let ne : n ≢ p = omega arith in
    rw (get_or-set_other cells p n v 0 ne, marked_beyond cells p v n (omega arith)) refl

test_zero : (x : ℕ) → x ≢ 0 → eqb x 0 ≡ false
test_zero x h = grind (arith, nat_tests)

-- a cell that was not marked is
pub marked_more : (cells : List ℕ) (p v n : ℕ) → p < n → p < length cells → get_or cells p 0 ≡ 0 → v ≢ 0 → marked (set cells p v) n ≡ suc (marked cells n)
marked_more cells p v zero h l e f = absurd (omega arith)
marked_more cells p v (suc n) h l e f = elim (eq-or-lt_of_le {n = p} {m = n} (omega arith)) [
  | inl q ↦
      let here : get_or (set cells p v) n 0 ≡ v = subst (λ (x : ℕ). get_or (set cells p v) x 0 ≡ v) q (get_or-set_same cells p v 0 l) in
      let was : get_or cells n 0 ≡ 0 = subst (λ (x : ℕ). get_or cells x 0 ≡ 0) q e in
      let t : eqb v 0 ≡ false = test_zero v f in
      rw (here, was, t) (ap suc (marked_beyond cells p v n (omega arith)))
  | inr q ↦
      let ne : n ≢ p = omega arith in
      rw (get_or-set_other cells p n v 0 ne, marked_more cells p v n q l e f) (both (eqb (get_or cells n 0) 0) (marked cells n))
]
  where
    both : (b : Bool) (m : ℕ) → cond b (suc m) (suc (suc m)) ≡ suc (cond b m (suc m))
    both true m = refl
    both false m = refl

pub all_zero : (n i : ℕ) → ◌≡◌ {A = ℕ} (get_or (replicate n 0) i 0) 0
all_zero zero i = refl
all_zero (suc n) zero = refl
all_zero (suc n) (suc i) = all_zero n i
