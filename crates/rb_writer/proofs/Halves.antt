-- Proves which numbers fit in half words.
use Rattle.std.proofs.Common.{◌≡◌, ℕ, suc, ◌^◌, ◌<◌, Bool, true, false, List, [], ◌∷◌, length, refl, ap, arith, inl, inr}
use Rattle.std.specs.Prelude.{All, IsTrue, ◌↔◌}
use Rattle.std.proofs.lemmas.Bool.{lt-ltb, le-ltb, cases_lt, false_from_ne_true}
use Rattle.std.proofs.lemmas.List.Elements.{All-cons}
use Rattle.rb_writer.specs.Values.{are_halves}

all_fit : (ns : List ℕ) → All (λ x. x < 2 ^ 16) ns → are_halves ns ≡ true
all_fit [] h = refl
all_fit (n ∷ ns) h = let low : n < 65536 = h 0 0 (omega arith) in
    rw (lt-ltb n 65536 low) (all_fit ns (λ k d g. h (suc k) d (omega arith)))

pub first_fits : (n : ℕ) (ns : List ℕ) → are_halves (n ∷ ns) ≡ true → (n < 65536) × (are_halves ns ≡ true)
first_fits n ns e =
    elim (cases_lt n 65536) [
      | inl low ↦ (low, rw (lt-ltb n 65536 low) at e)
      | inr high ↦ (let f : are_halves (n ∷ ns) ≡ false = rw (le-ltb n 65536 high) refl in absurd cc)
    ]

fit_all : (ns : List ℕ) → are_halves ns ≡ true → All (λ x. x < 2 ^ 16) ns
fit_all [] e = λ k d h. absurd (omega arith)
fit_all (n ∷ ns) e = let f = first_fits n ns e in All-cons (λ x. x < 2 ^ 16) n ns f.0 (fit_all ns f.1)

-- what tells whether offsets fit half words tells whether they do with their count
pub fits : (b : Bool) (items given offsets : List ℕ) → (IsTrue b ↔ ((length given < 2 ^ 16) × All (λ x. x < 2 ^ 16) given)) → given ≡ offsets
    → length items ≡ length offsets → are_halves (length items ∷ offsets) ≡ b
fits true items given offsets h e n =
    let p = h.0 refl in
    let low : length items < 2 ^ 16 = (let q = p.0 in omega (arith, n, ap length e, q)) in
    all_fit (length items ∷ offsets) (All-cons (λ x. x < 2 ^ 16) (length items) offsets low (rw e at p.1))
fits false items given offsets h e n = false_from_ne_true (are_halves (length items ∷ offsets)) (λ f.
    let p = first_fits (length items) offsets f in
    let low : length given < 2 ^ 16 = (let q = p.0 in omega (arith, n, ap length e, q)) in
    let all : All (λ x. x < 2 ^ 16) given = rw e (fit_all offsets p.1) in
    let never : false ≡ true = h.1 (low, all) in absurd cc)
