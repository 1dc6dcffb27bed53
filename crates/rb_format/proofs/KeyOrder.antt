-- A key compared with the bytes before the first NUL, byte by byte.
use Rattle.std.proofs.Common.{◌≡◌, ◌==◌, ◌≢◌, ℕ, zero, suc, ◌+◌, ◌-◌, ◌*◌, ◌<◌, ◌≤◌, List, [], ◌∷◌, length, take, drop, Option, Some, None}
use Rattle.std.proofs.Common.{Bool, true, false, not, cond, IsTrue, is_some, nat_lt, slice_index_or, get_or}
use Rattle.std.proofs.Common.{refl, sym, ap, subst, ◌∙◌, arith, inl, inr}
use Rattle.std.specs.Prelude.{position}
use Rattle.std.specs.List.{take_while, prefix_len}
use Rattle.std.specs.Ordering.{nat_cmp, ordering_then}
use Rattle.std.specs.declared.cmp.Ordering.{Ordering}
use Rattle.std.specs.declared.cmp.Ordering.TheVariants.{Less, Equal, Greater}
use Rattle.std.specs.Cmp.Lexicographic.{slice_cmp}
use Rattle.std.proofs.lemmas.Bool.{cases_eq, cases_lt, le-ltb, lt-ltb}
use Rattle.std.proofs.lemmas.Bool.Decides.{nat_tests}
use Rattle.std.proofs.lemmas.List.{drop_all, length-drop, get_or-take, get_or-drop}
use Rattle.std.proofs.lemmas.List.Sums.{take_while-cons}
use Rattle.std.proofs.Math.Seq.{drop-cons}
use Rattle.rb_format.specs.Place as places
use Rattle.rb_format.specs.Place.{key_front, key_ok, layout_of}

-- the bytes before the first NUL
abbrev pub front : List ℕ → List ℕ
front run = take_while (λ b. not (b == 0)) run

abbrev pub HasNul : List ℕ → Type 0
HasNul run = prefix_len (λ b. not (b == 0)) run < length run

-- the first i bytes of a key are those of the run, and none of them is a NUL
pub record AgreeSoFar (key run : List ℕ) (i : ℕ) : Type 0 where
  pub ends : HasNul (drop i run)
  pub same : slice_cmp nat_cmp key (front run) ≡ slice_cmp nat_cmp (drop i key) (front (drop i run))

pub has_nul : (run : List ℕ) → IsTrue (is_some (position (λ b. b == 0) run)) → HasNul run
has_nul run h = elim (cases_lt (prefix_len (λ b. not (b == 0)) run) (length run)) [
  | inl l ↦ l
  | inr g ↦ let f = rw (le-ltb (prefix_len (λ b. not (b == 0)) run) (length run) g) at h in absurd cc
]

pub inside : (run : List ℕ) (i : ℕ) → HasNul (drop i run) → i < length run
inside run i h = elim (cases_lt i (length run)) [
  | inl l ↦ l
  | inr g ↦ absurd (none (drop i run) (drop_all i run g) h)
]
  where
    none : (rest : List ℕ) → rest ≡ [] → HasNul rest → ⊥
    none rest e h = let z : 0 < 0 = rw e at h in omega arith

not_nul : (b : ℕ) → b ≢ 0 → (b == 0) ≡ false
not_nul b h = grind (arith, nat_tests)

front_ends : (b : ℕ) (bs : List ℕ) → b ≡ 0 → front (b ∷ bs) ≡ []
front_ends b bs e = rw e refl

front_goes_on : (b : ℕ) (bs : List ℕ) → b ≢ 0 → front (b ∷ bs) ≡ b ∷ front bs
front_goes_on b bs h = let e = not_nul b h in take_while-cons (λ b. not (b == 0)) b bs ∙ rw e refl

nul_later : (b : ℕ) (bs : List ℕ) → b ≢ 0 → HasNul (b ∷ bs) → HasNul bs
nul_later b bs h l = let e = not_nul b h in let m : 1 + prefix_len (λ b. not (b == 0)) bs < suc (length bs) = rw e at l in omega arith

order_here : (o : Ordering) (rest : Ordering) → o ≢ Equal → o ≡ ordering_then o rest
order_here Less rest h = refl
order_here Equal rest h = absurd (h refl)
order_here Greater rest h = refl

same_byte : (b : ℕ) → nat_cmp b b ≡ Equal
same_byte b = grind (arith)

byte_differs : (a b : ℕ) → a ≢ b → nat_cmp a b ≢ Equal
byte_differs a b h e = grind (arith)

above_nul : (a b : ℕ) → a ≢ b → b ≡ 0 → nat_cmp a b ≡ Greater
above_nul a b d z = grind (arith)

-- the run's byte i is the NUL
pub key_is_longer : (key run : List ℕ) (i : ℕ) → AgreeSoFar key run i → i < length key → slice_index_or run i 0 ≡ 0
    → Greater ≡ slice_cmp nat_cmp key (front run)
key_is_longer key run i a l z =
    let k = drop-cons key i 0 l in
    let r = drop-cons run i 0 (inside run i a.ends) in
    sym (a.same ∙ rw (k, r) (ap (slice_cmp nat_cmp (slice_index_or key i 0 ∷ drop (suc i) key)) (front_ends (slice_index_or run i 0) (drop (suc i) run) z)))

pub byte_decides : (key run : List ℕ) (i : ℕ) (o : Ordering) → AgreeSoFar key run i → i < length key → slice_index_or run i 0 ≢ 0
    → slice_index_or key i 0 ≢ slice_index_or run i 0 → o ≡ nat_cmp (slice_index_or key i 0) (slice_index_or run i 0)
    → o ≡ slice_cmp nat_cmp key (front run)
byte_decides key run i o a l z d e =
    let k = drop-cons key i 0 l in
    let r = drop-cons run i 0 (inside run i a.ends) in
    let f = front_goes_on (slice_index_or run i 0) (drop (suc i) run) z in
    e ∙ order_here (nat_cmp (slice_index_or key i 0) (slice_index_or run i 0)) (slice_cmp nat_cmp (drop (suc i) key) (front (drop (suc i) run)))
    (byte_differs (slice_index_or key i 0) (slice_index_or run i 0) d)
    ∙ sym (a.same ∙ rw (k, r) (ap (slice_cmp nat_cmp (slice_index_or key i 0 ∷ drop (suc i) key)) f))

-- a difference decides also where the run's byte is the NUL: a byte of the key that isn't NUL is above it
pub difference_decides : (key run : List ℕ) (i : ℕ) (o : Ordering) → AgreeSoFar key run i → i < length key
    → slice_index_or key i 0 ≢ slice_index_or run i 0 → o ≡ nat_cmp (slice_index_or key i 0) (slice_index_or run i 0)
    → o ≡ slice_cmp nat_cmp key (front run)
difference_decides key run i o a l d e = elim (cases_eq (slice_index_or run i 0) 0) [
  | inl z ↦ e ∙ above_nul (slice_index_or key i 0) (slice_index_or run i 0) d z ∙ key_is_longer key run i a l z
  | inr z ↦ byte_decides key run i o a l z d e
]

pub byte_agrees : (key run : List ℕ) (i : ℕ) → AgreeSoFar key run i → i < length key → slice_index_or run i 0 ≢ 0
    → slice_index_or key i 0 ≡ slice_index_or run i 0 → AgreeSoFar key run (i + 1)
byte_agrees key run i a l z e =
    let k = drop-cons key i 0 l in
    let r = drop-cons run i 0 (inside run i a.ends) in
    let n : i + 1 ≡ suc i = omega arith in
    let f = front_goes_on (slice_index_or run i 0) (drop (suc i) run) z in
    let q : ordering_then (nat_cmp (slice_index_or key i 0) (slice_index_or run i 0)) (slice_cmp nat_cmp (drop (suc i) key) (front (drop (suc i) run)))
    ≡ slice_cmp nat_cmp (drop (suc i) key) (front (drop (suc i) run)) = rw (e, same_byte (slice_index_or run i 0)) refl in
    record {
      ends = rw n (nul_later (slice_index_or run i 0) (drop (suc i) run) z (subst HasNul r a.ends));
      same = rw n (a.same ∙ rw (k, r) (ap (slice_cmp nat_cmp (slice_index_or key i 0 ∷ drop (suc i) key)) f) ∙ q);
    }

-- the first n bytes agree, and the run's have no NUL
abbrev pub SameFirst : List ℕ → List ℕ → ℕ → Type 0
SameFirst key run n = (k : ℕ) → k < n → (get_or key k 0 ≡ get_or run k 0) × (get_or run k 0 ≢ 0)

-- blocks that agree, after bytes that agree
pub same_more : (key run : List ℕ) (at n : ℕ) → SameFirst key run at → SameFirst (take n (drop at key)) (take n (drop at run)) n → SameFirst key run (at + n)
same_more key run at n before block k h = elim (cases_lt k at) [
  | inl l ↦ before k l
  | inr g ↦
      let l : k - at < n = omega arith in
      let e : at + (k - at) ≡ k = omega arith in
      let there = λ (xs : List ℕ). get_or-take n (drop at xs) (k - at) 0 l ∙ get_or-drop at xs (k - at) 0 in
      let x : get_or (take n (drop at key)) (k - at) 0 ≡ get_or key k 0 = rw e at (there key) in
      let y : get_or (take n (drop at run)) (k - at) 0 ≡ get_or run k 0 = rw e at (there run) in
      rw (x, y) at (block (k - at) l)
]

pub agree_first : (key run : List ℕ) (n : ℕ) → HasNul run → n ≤ length key → SameFirst key run n → AgreeSoFar key run n
agree_first key run zero nul l same = record { ends = nul; same = refl }
agree_first key run (suc n) nul l same =
    let before = agree_first key run n nul (omega arith) (λ k h. same k (omega arith)) in
    let here = same n (omega arith) in
    let next : n + 1 ≡ suc n = omega arith in
    rw next at (byte_agrees key run n before (omega arith) here.1 here.0)

-- all bytes of the key agree
pub at_end : (key run : List ℕ) (i : ℕ) → AgreeSoFar key run i → i ≤ length key → length key ≤ i → AgreeSoFar key run (length key)
at_end key run i a l h = let e : i ≡ length key = omega arith in subst (AgreeSoFar key run) e a

pub key_ends : (key run : List ℕ) → AgreeSoFar key run (length key) → slice_index_or run (length key) 0 ≡ 0 → Equal ≡ slice_cmp nat_cmp key (front run)
key_ends key run a z =
    let i = length key in
    let k = drop_all i key (omega arith) in
    let r = drop-cons run i 0 (inside run i a.ends) in
    sym (a.same ∙ rw (k, r) (ap (slice_cmp nat_cmp []) (front_ends (slice_index_or run i 0) (drop (suc i) run) z)))

pub key_is_shorter : (key run : List ℕ) → AgreeSoFar key run (length key) → slice_index_or run (length key) 0 ≢ 0
    → Less ≡ slice_cmp nat_cmp key (front run)
key_is_shorter key run a z =
    let i = length key in
    let k = drop_all i key (omega arith) in
    let r = drop-cons run i 0 (inside run i a.ends) in
    sym (a.same ∙ rw (k, r) (ap (slice_cmp nat_cmp []) (front_goes_on (slice_index_or run i 0) (drop (suc i) run) z)))

-- a NUL below a bound ends the same bytes as it does without the bound
front_kept : (m : ℕ) (run : List ℕ) → HasNul (take m run) → (HasNul run) × (front (take m run) ≡ front run)
front_kept zero run h = absurd (omega arith)
front_kept (suc m) [] h = absurd (omega arith)
front_kept (suc m) (b ∷ bs) h = by (b == 0) refl (front_kept m bs)
  where
    by : (z : Bool) → (b == 0) ≡ z → (HasNul (take m bs) → (HasNul bs) × (front (take m bs) ≡ front bs))
        → (HasNul (b ∷ bs)) × (front (take (suc m) (b ∷ bs)) ≡ front (b ∷ bs))
    by true e rest = (rw e (omega arith), rw e refl)
    by false e rest =
        let later : 1 + prefix_len (λ b. not (b == 0)) (take m bs) < suc (length (take m bs)) = rw e at h in
        let r = rest (omega arith) in
        let here : 1 + prefix_len (λ b. not (b == 0)) bs < suc (length bs) = let l = r.0 in omega arith in
        let one = take_while-cons (λ b. not (b == 0)) b (take m bs) in
        let other = take_while-cons (λ b. not (b == 0)) b bs in
        (rw e here, rw (one, other, e) (ap (λ (xs : List ℕ). b ∷ xs) r.1))

chosen : (z : Bool) (x : List ℕ) → IsTrue (is_some (cond z (Some x) None)) → ◌≡◌ {A = Option (List ℕ)} (cond z (Some x) None) (Some x)
chosen true x h = refl
chosen false x h = absurd cc

key_front_there : (run : List ℕ) → IsTrue (is_some (key_front run)) → (HasNul run) × (key_front run ≡ Some (front run))
key_front_there run h = elim (cases_lt (prefix_len (λ b. not (b == 0)) run) (length run)) [
  | inl l ↦
      let e = lt-ltb (prefix_len (λ b. not (b == 0)) run) (length run) l in
      let k = rw e at h in
      (l, rw e (chosen (key_ok (front run)) (front run) k))
  | inr g ↦ let f = rw (le-ltb (prefix_len (λ b. not (b == 0)) run) (length run) g) at h in absurd cc
]

within_bounds : (low high : Bool) (k : Option (List ℕ)) → IsTrue (is_some (cond low None (cond high k None)))
    → (IsTrue (is_some k)) × (cond low None (cond high k None) ≡ k)
within_bounds true high k h = absurd cc
within_bounds false true k h = (h, refl)
within_bounds false false k h = absurd cc

-- if there is a key it is the bytes before the first NUL
pub key_there : (body : List ℕ) (k : ℕ) → IsTrue (is_some (places.key (layout_of body) body k))
    → (k ≤ length body) × (HasNul (drop k body)) × (places.key (layout_of body) body k ≡ Some (front (drop k body)))
unfolding places.key
key_there body k h =
    let y = layout_of body in
    let run = take (4 * y.keys_top - k) (drop k body) in
    let w = within_bounds (nat_lt k (4 * (1 + y.indexes))) (nat_lt k (4 * y.keys_top)) (key_front run) h in
    let f = key_front_there run w.0 in
    let n = front_kept (4 * y.keys_top - k) (drop k body) f.0 in
    let l = n.0 in
    (omega (arith, length-drop k body), n.0, w.1 ∙ f.1 ∙ ap Some n.1)

pub nul_there : (run : List ℕ) → HasNul run → IsTrue (is_some (position (λ b. b == 0) run))
nul_there run l = let e = lt-ltb (prefix_len (λ b. not (b == 0)) run) (length run) l in rw e refl
