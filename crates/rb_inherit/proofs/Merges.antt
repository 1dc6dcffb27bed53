-- Finds the first layer with the least next key, asking the layers in order.
use Rattle.std.proofs.Common.{◌≡◌, ◌+◌, ◌≤◌, ℕ, List, true, false, Option, Some, None, refl, sym, ap, ◌∙◌, arith}
use Rattle.std.proofs.lemmas.Cmp.{nat_list_cmp_total, tied_itself}
use Rattle.std.specs.Ordering.{is_lt, nat_cmp, ordering_reverse}
use Rattle.std.specs.declared.cmp.Ordering.{Ordering}
use Rattle.std.specs.declared.cmp.Ordering.TheVariants.{Less, Equal, Greater}
use Rattle.std.specs.Cmp.Lexicographic.{slice_cmp}
use borrow.Author.Count.{below_more}
use Rattle.rb_inherit.specs.inner.Merging.{IsLeast, precedes}

abbrev compare : List ℕ → List ℕ → Ordering
compare x y = slice_cmp nat_cmp x y

not_itself : (a : Option (List ℕ)) → precedes a a ≡ false
not_itself None = refl
not_itself (Some k) = ap is_lt (tied_itself nat_list_cmp_total k)

not_reversed : (r : Ordering) → is_lt r ≡ true → is_lt (ordering_reverse r) ≡ false
not_reversed Less h = refl
not_reversed Equal h = absurd cc
not_reversed Greater h = absurd cc

not_back : (a b : Option (List ℕ)) → precedes a b ≡ true → precedes b a ≡ false
not_back None b h = absurd cc
not_back (Some x) None h = refl
not_back (Some x) (Some y) h = ap is_lt (nat_list_cmp_total.antisymm y x) ∙ not_reversed (compare x y) h

less_of : (x y z : List ℕ) (r s : Ordering) → compare x y ≡ r → compare z y ≡ s → is_lt r ≡ true → is_lt s ≡ false → is_lt (compare x z) ≡ true
less_of x y z Less Less e f h k = absurd cc
less_of x y z Less Equal e f h k =
    let o = nat_list_cmp_total in
    ap is_lt (o.antisymm x z ∙ (ap ordering_reverse (o.congr z y x f) ∙ (sym (o.antisymm x y) ∙ e)))
less_of x y z Less Greater e f h k =
    let o = nat_list_cmp_total in
    ap is_lt (o.trans x y z e (o.antisymm y z ∙ ap ordering_reverse f))
less_of x y z Equal s e f h k = absurd cc
less_of x y z Greater s e f h k = absurd cc

-- what precedes one precedes what that doesn't follow
before : (a b c : Option (List ℕ)) → precedes a b ≡ true → precedes c b ≡ false → precedes a c ≡ true
before None b c h k = absurd cc
before (Some x) b None h k = refl
before (Some x) None (Some z) h k = absurd cc
before (Some x) (Some y) (Some z) h k = less_of x y z (compare x y) (compare z y) refl refl h k

pub least_one : (key : ℕ → Option (List ℕ)) (from i : ℕ) → i ≤ from + 1 → IsLeast key from i from
least_one key from i h = record {
  begins = omega arith;
  others = λ j a b. let e : j ≡ from = omega arith in rw e (not_itself (key from));
  first = λ j a b. absurd (omega arith);
}

pub least_same : (key : ℕ → Option (List ℕ)) (from i m : ℕ) → IsLeast key from i m → precedes (key i) (key m) ≡ false → IsLeast key from (i + 1) m
least_same key from i m h e = record {
  begins = h.begins;
  others = λ j a b. below_more (λ (k : ℕ). from ≤ k → precedes (key k) (key m) ≡ false) i (λ k lt le. h.others k le lt) (λ le. e) j b a;
  first = h.first;
}

pub least_next : (key : ℕ → Option (List ℕ)) (from i m : ℕ) → IsLeast key from i m → from ≤ i → precedes (key i) (key m) ≡ true → IsLeast key from (i + 1) i
least_next key from i m h le e = record {
  begins = le;
  others = λ j a b. below_more (λ (k : ℕ). from ≤ k → precedes (key k) (key i) ≡ false) i
      (λ k lt over. not_back (key i) (key k) (before (key i) (key m) (key k) e (h.others k over lt))) (λ over. not_itself (key i)) j b a;
  first = λ j a b. before (key i) (key m) (key j) e (h.others j a b);
}

pub least_all : (key : ℕ → Option (List ℕ)) (from to i m : ℕ) → IsLeast key from i m → to ≤ i → IsLeast key from to m
least_all key from to i m h over = record { begins = h.begins; others = λ j a b. h.others j a (omega arith); first = h.first }
