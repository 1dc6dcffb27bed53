-- Proves the cases of a reading: with data and without, and two keys that compare as equal.
use Rattle.std.proofs.Common.{◌≡◌, ℕ, ◌<◌, ◌≤◌, Bool, true, false, cond, ltb, List, Result, Ok, Err, refl, ap, ◌∙◌, inl, inr}
use Rattle.std.specs.Prelude.{◌⊎◌}
use Rattle.std.specs.Ordering.{nat_cmp}
use Rattle.std.specs.Cmp.Lexicographic.{slice_cmp}
use Rattle.std.specs.FinMap.{slice_cmp-IsAntisymmetric, nat_cmp-IsAntisymmetric}
use Rattle.std.specs.declared.cmp.Ordering.TheVariants.{Equal}
use Rattle.std.proofs.lemmas.Bool.{ltb-false, ltb-true}
use Rattle.rb_format.specs.declared.fault.FileFault.{FileFault}
use Rattle.rb_format.specs.declared.fault.FileFault.TheVariants.{Offset}
use Rattle.rb_format.specs.declared.layout.Layout.{Layout}
use Rattle.rb_format.specs.declared.kind.ItemKind.{ItemKind}
use Rattle.rb_tree.specs.Resource.{Resource}
use Rattle.rb_format.specs.Item.{has_data, bare}
use Rattle.rb_format.specs.inner.FirstFault.{within, contents, value}
use Rattle.rb_format.proofs.Steps.{bind_ok, ok_is}

-- the value is there, or it is the one without data
choice : {A : Type 0} (b : Bool) (x y r : A) → cond b x y ≡ r → ((b ≡ true) × (x ≡ r)) ⊎ ((b ≡ false) × (y ≡ r))
choice true x y r e = inl (refl, e)
choice false x y r e = inr (refl, e)

pub value_cases : (y : Layout) (body : List ℕ) (child : ℕ → Result Resource FileFault) (o : ℕ) (k : ItemKind) (t : Resource) → value y body child o k ≡ Ok t
    → ((within y k o ≡ Ok true) × (contents y body child o k ≡ Ok t)) ⊎ ((within y k o ≡ Ok false) × (bare k o ≡ t))
unfolding value
value_cases y body child o k t e =
    let a = bind_ok (within y k o) (λ there. cond there (contents y body child o k) (Ok (bare k o))) t e in
    elim (choice a.0 (contents y body child o k) (Ok (bare k o)) (Ok t) a.2) [
      | inl p ↦ inl (a.1 ∙ ap Ok p.0, p.1)
      | inr p ↦ inr (a.1 ∙ ap Ok p.0, ok_is (bare k o) t p.1)
    ]

-- what `within` says by its three tests
abbrev tests : Bool → Bool → Bool → Result Bool FileFault
tests a b c = cond a (cond b (Err Offset) (cond c (Ok true) (Err Offset))) (Ok false)

there_tests : (a b c : Bool) → tests a b c ≡ Ok true → (a ≡ true) × (b ≡ false) × (c ≡ true)
there_tests true true c e = absurd cc
there_tests true false true e = (refl, refl, refl)
there_tests true false false e = absurd cc
there_tests false b c e = absurd cc

absent_test : (a b c : Bool) → tests a b c ≡ Ok false → a ≡ false
absent_test true true c e = absurd cc
absent_test true false true e = absurd cc
absent_test true false false e = absurd cc
absent_test false b c e = refl

pub within_there : (y : Layout) (k : ItemKind) (o : ℕ) → within y k o ≡ Ok true → (y.keys_top ≤ o) × (o < y.top)
within_there y k o e =
    let t = there_tests (has_data k o) (ltb o y.keys_top) (ltb o y.top) e in
    (ltb-false _ _ t.1, ltb-true _ _ t.2)

pub within_absent : (y : Layout) (k : ItemKind) (o : ℕ) → within y k o ≡ Ok false → has_data k o ≡ false
within_absent y k o e = absent_test (has_data k o) (ltb o y.keys_top) (ltb o y.top) e

pub within_data : (y : Layout) (k : ItemKind) (o : ℕ) → within y k o ≡ Ok true → has_data k o ≡ true
within_data y k o e = (there_tests (has_data k o) (ltb o y.keys_top) (ltb o y.top) e).0

pub equal_is : (a b : List ℕ) → slice_cmp nat_cmp a b ≡ Equal → a ≡ b
equal_is = slice_cmp-IsAntisymmetric nat_cmp-IsAntisymmetric
