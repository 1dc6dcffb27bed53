-- A search by halving among rising keys.
use Rattle.std.proofs.Common.{◌≡◌, ℕ, ◌+◌, ◌<◌, ◌≤◌, List, ap, ◌∙◌, arith, inl, inr}
use Rattle.std.specs.Ordering.{nat_cmp, ordering_reverse}
use Rattle.std.specs.declared.cmp.Ordering.{Ordering}
use Rattle.std.specs.declared.cmp.Ordering.TheVariants.{Less, Equal, Greater}
use Rattle.std.specs.Cmp.Lexicographic.{slice_cmp, nat_list_cmp_total}
use Rattle.std.specs.FinMap.{slice_cmp-IsAntisymmetric, nat_cmp-IsAntisymmetric}
use Rattle.std.proofs.lemmas.Bool.{cases_eq, cases_lt}

abbrev pub Below : List ℕ → List ℕ → Type 0
Below a b = slice_cmp nat_cmp a b ≡ Less

abbrev pub Rises : (ℕ → List ℕ) → ℕ → Type 0
Rises key n = (j k : ℕ) → j < k → k < n → Below (key j) (key k)

-- the keys before low are below the wanted one, and those from high on are above it
pub record IsHalved (key : ℕ → List ℕ) (n : ℕ) (wanted : List ℕ) (low high : ℕ) : Type 0 where
  pub order : low ≤ high
  pub inside : high ≤ n
  pub below : (j : ℕ) → j < low → Below (key j) wanted
  pub above : (j : ℕ) → high ≤ j → j < n → Below wanted (key j)

pub halved_start : (key : ℕ → List ℕ) (n : ℕ) (wanted : List ℕ) → IsHalved key n wanted 0 n
halved_start key n wanted = record {
  order = omega arith;
  inside = omega arith;
  below = λ j h. absurd (omega arith);
  above = λ j h l. absurd (omega arith);
}

pub halved_left : (key : ℕ → List ℕ) (n : ℕ) (wanted : List ℕ) (low high mid : ℕ) → Rises key n → IsHalved key n wanted low high → low ≤ mid → mid < high
    → Below wanted (key mid) → IsHalved key n wanted low mid
halved_left key n wanted low high mid rises h p q less = record {
  order = p;
  inside = let i = h.inside in omega arith;
  below = h.below;
  above = λ j r s. elim (cases_eq j mid) [
    | inl same ↦ rw same less
    | inr other ↦ nat_list_cmp_total.trans wanted (key mid) (key j) less (rises mid j (omega arith) s)
  ];
}

pub halved_right : (key : ℕ → List ℕ) (n : ℕ) (wanted : List ℕ) (low high mid : ℕ) → Rises key n → IsHalved key n wanted low high → low ≤ mid → mid < high
    → Below (key mid) wanted → IsHalved key n wanted (mid + 1) high
halved_right key n wanted low high mid rises h p q less = record {
  order = omega arith;
  inside = h.inside;
  below = λ j r. elim (cases_eq j mid) [
    | inl same ↦ rw same less
    | inr other ↦ nat_list_cmp_total.trans (key j) (key mid) wanted (rises j mid (omega arith) (let i = h.inside in omega arith)) less
  ];
  above = h.above;
}

pub not_self : (a : List ℕ) → Below a a → ⊥
not_self a e = reversed (slice_cmp nat_cmp a a) e (nat_list_cmp_total.antisymm a a)
  where
    reversed : (o : Ordering) → o ≡ Less → o ≡ ordering_reverse o → ⊥
    reversed other e r = cc

pub halved_none : (key : ℕ → List ℕ) (n : ℕ) (wanted : List ℕ) (low high : ℕ) → IsHalved key n wanted low high → high ≤ low → (j : ℕ) → j < n → key j ≡ wanted
    → ⊥
halved_none key n wanted low high h p j q same =
    elim (cases_lt j low) [
      | inl lt ↦ not_self wanted (rw same at (h.below j lt))
      | inr le ↦ not_self wanted (rw same at (h.above j (omega arith) q))
    ]

pub equal_is : (a b : List ℕ) → slice_cmp nat_cmp a b ≡ Equal → a ≡ b
equal_is = slice_cmp-IsAntisymmetric nat_cmp-IsAntisymmetric

-- a key that is above the wanted one, from the other side
pub greater_is : (a b : List ℕ) → slice_cmp nat_cmp a b ≡ Greater → Below b a
greater_is a b e = nat_list_cmp_total.antisymm b a ∙ ap ordering_reverse e

-- no key before one that rises to it is equal
pub earlier_differ : (key : ℕ → List ℕ) (n m : ℕ) (wanted : List ℕ) → Rises key n → m < n → key m ≡ wanted → (j : ℕ) → j < m → key j ≡ wanted → ⊥
earlier_differ key n m wanted rises l e j h d = not_self wanted (rw (d, e) at (rises j m h l))
