-- Proves what comparing two keys reads, and how long a key is.
use Rattle.std.proofs.Common.{◌≡◌, ℕ, suc, ◌+◌, ◌-◌, ◌*◌, ◌≤◌, Bool, true, false, cond, ltb, List, [], ◌∷◌, length, drop}
use Rattle.std.proofs.Common.{take, Option, Some, None, refl, sym, ap, ◌∙◌, arith}
use Rattle.std.specs.Prelude.{◌==◌, position}
use Rattle.std.specs.List.{common_prefix_len}
use Rattle.std.specs.Ordering.{nat_cmp, ordering_then}
use Rattle.std.specs.Cmp.Lexicographic.{slice_cmp}
use Rattle.std.proofs.lemmas.Bool.Decides.{nat_tests}
use Rattle.std.proofs.lemmas.List.{length-take, length-drop}
use Rattle.rb_format.specs.declared.layout.Layout.{Layout}
use Rattle.rb_format.specs.Place.{key, key_ok, key_before, key_front}
use Rattle.rb_validator.specs.inner.Compared.{examined}
use Rattle.rb_validator.proofs.Orders.{then_same, cmp_same}

-- ---- a key is no longer than the data

before_low : (run s : List ℕ) (n : Option ℕ) → key_before run n ≡ Some s → length s ≤ length run
before_low run s None e = absurd cc
before_low run s (Some n) e = by (key_ok (take n run)) e
  where
    by : (t : Bool) → cond t (Some (take n run)) None ≡ Some s → length s ≤ length run
    by true e = let i : take n run ≡ s = cc in let l : length (take n run) ≡ length s = ap length i in omega (arith, length-take n run)
    by false e = absurd cc

pub key_low : (y : Layout) (body s : List ℕ) (k : ℕ) → key y body k ≡ Some s → length s ≤ length body
unfolding key
key_low y body s k e = by (ltb k (4 * (1 + y.indexes))) (ltb k (4 * y.keys_top)) e
  where
    by : (a b : Bool) → cond a None (cond b (key_front (take (4 * y.keys_top - k) (drop k body))) None) ≡ Some s → length s ≤ length body
    by true b e = absurd cc
    by false false e = absurd cc
    by false true e =
        let run = take (4 * y.keys_top - k) (drop k body) in
        let l = before_low run s (position (λ b. b == 0) run) e in
        omega (arith, length-take (4 * y.keys_top - k) (drop k body), length-drop k body)

-- ---- what two keys have in common

abbrev pub common : List ℕ → List ℕ → ℕ
common a b = common_prefix_len (λ x y. x == y) a b

-- the order of two keys is that of what is left of them
pub drop_common : (a b : List ℕ) → slice_cmp nat_cmp (drop (common a b) a) (drop (common a b) b) ≡ slice_cmp nat_cmp a b
drop_common [] b = refl
drop_common (x ∷ a) [] = refl
drop_common (x ∷ a) (y ∷ b) = by (drop_common a b) (x == y) refl
  where
    by : slice_cmp nat_cmp (drop (common a b) a) (drop (common a b) b) ≡ slice_cmp nat_cmp a b → (t : Bool) → (x == y) ≡ t
        → slice_cmp nat_cmp (drop (cond t (1 + common a b) 0) (x ∷ a)) (drop (cond t (1 + common a b) 0) (y ∷ b))
        ≡ ordering_then (nat_cmp x y) (slice_cmp nat_cmp a b)
    by h true e =
        let n : 1 + common a b ≡ suc (common a b) = omega arith in
        let i : x ≡ y = grind (arith, nat_tests, e) in
        rw n (h ∙ sym (then_same (nat_cmp x y) (slice_cmp nat_cmp a b) (cmp_same x y i)))
    by h false e = refl

-- no more is looked at than the second has
pub examined_low : (a b : List ℕ) → examined a b ≤ length b
examined_low a b = omega arith
