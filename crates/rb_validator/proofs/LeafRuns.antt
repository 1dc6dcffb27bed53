-- Items of which it is known beforehand that they are leaves.
use Rattle.std.proofs.Common.{◌≡◌, ℕ, zero, suc, ◌+◌, ◌≤◌, ◌<◌, max, Bool, true, false, List, Result, Ok, Err, Some, refl, sym, ap, ◌∙◌, subst, arith}
use Rattle.std.specs.Prelude.{if◌then◌else◌, is_ok, nat_lt, None}
use Rattle.std.proofs.lemmas.Bool.{lt-ltb}
use Rattle.rb_tree.specs.Resource.{Resource, Resources, height, trees_height}
use Rattle.rb_format.specs.declared.layout.Layout.{Layout}
use Rattle.rb_format.specs.declared.kind.ItemKind.{ItemKind}
use Rattle.rb_format.specs.declared.kind.ItemKind.TheVariants.{Table, LongTable, Array}
use Rattle.rb_format.specs.declared.fault.FileFault.{FileFault}
use Rattle.rb_format.specs.declared.fault.FileFault.TheVariants.{Offset}
use Rattle.rb_format.specs.Geometry.{has_children}
use Rattle.rb_format.specs.Item.{kind_of, offset_of}
use Rattle.rb_format.specs.Place.{word_at}
use Rattle.rb_format.specs.inner.FirstFault.{fault_of, read, result_map, trees, within}
use Rattle.rb_validator.specs.inner.Leaves.{IsLeaf}
use Rattle.rb_validator.specs.inner.Marks.{IsKnown, IsRunKnown, run_of}
use Rattle.rb_validator.proofs.Shapes.{height_ok}
use Rattle.rb_validator.proofs.SpanHeights.{trees_ok}

some_same : (j k : ItemKind) → Some j ≡ Some k → j ≡ k
some_same j k e = cc

-- ---- what has no children is known

bounds_full : (a b : Bool) → Ok false ≡ (if a then Err Offset else (if b then Ok true else Err Offset)) → ⊥
bounds_full true b e = cc
bounds_full false true e = cc
bounds_full false false e = cc

offset_full : (y : Layout) (o : ℕ) (b : Bool) → b ≡ true
    → Ok false ≡ (if b then (if nat_lt o y.keys_top then Err Offset else (if nat_lt o y.top then Ok true else Err Offset)) else Ok false) → ⊥
offset_full y o true h e = bounds_full (nat_lt o y.keys_top) (nat_lt o y.top) e
offset_full y o false h e = cc

full_within : (y : Layout) (k : ItemKind) (o : ℕ) → has_children k ≡ true → 0 < o → Ok false ≡ within y k o → ⊥
full_within y Table o c h e = offset_full y o (nat_lt 0 o) (lt-ltb 0 o h) e
full_within y LongTable o c h e = offset_full y o (nat_lt 0 o) (lt-ltb 0 o h) e
full_within y Array o c h e = offset_full y o (nat_lt 0 o) (lt-ltb 0 o h) e
full_within y k o c h e = cc

pub empty_known : (y : Layout) (item : ℕ) (k : ItemKind) → kind_of item ≡ Some k → Ok false ≡ within y k (offset_of item) → (cells : List ℕ) → IsKnown cells item
empty_known y item k e w cells = λ j f c h.
    let same : k ≡ j = some_same k j (sym e ∙ f) in
    absurd (full_within y j (offset_of item) c h (subst (λ x. Ok false ≡ within y x (offset_of item)) same w))

pub bare_known : (item : ℕ) (k : ItemKind) → kind_of item ≡ Some k → has_children k ≡ false → (cells : List ℕ) → IsKnown cells item
bare_known item k e n cells = λ j f c h.
    let same : k ≡ j = some_same k j (sym e ∙ f) in
    absurd (let both : true ≡ false = sym c ∙ ap has_children (sym same) ∙ n in cc)

pub ok_none : {A : Type 0} (r : Result A FileFault) → is_ok r ≡ true → fault_of r ≡ None
ok_none (Ok a) e = refl
ok_none (Err d) e = cc

-- ---- a run of leaves

record HasHeight (r : Result Resources FileFault) (n : ℕ) : Type 0 where
  height : ℕ
  is : result_map trees_height r ≡ Ok height
  low : height ≤ 1
  some : 0 < n → height ≡ 1

leaf_trees : (child : ℕ → Result Resource FileFault) (item : ℕ → ℕ) (i n : ℕ)
    → ((w : ℕ) → i ≤ w → w < i + n → result_map height (child (item w)) ≡ Ok 1) → HasHeight (trees child item i n) n
unfolding trees
leaf_trees child item i zero each = record { height = 0; is = refl; low = omega arith; some = λ h. absurd (omega arith) }
leaf_trees child item i (suc m) each =
    let first = height_ok (child (item i)) 1 (each i (omega arith) (omega arith)) in
    let rest = leaf_trees child item (suc i) m (λ w l h. each w (omega arith) (omega arith)) in
    let others = trees_ok (trees child item (suc i) m) rest.height (sym rest.is) in
    record {
      height = max 1 rest.height;
      is = rw (first.1, others.1, first.2, others.2) refl;
      low = let l = rest.low in omega arith;
      some = λ h. let l = rest.low in omega arith;
    }

pub leaf_value : (y : Layout) (body : List ℕ) (left from n : ℕ) → 0 < left → 0 < n
    → ((w : ℕ) → from ≤ w → w < from + n → IsLeaf y body (word_at body w)) → Ok 1 ≡ result_map trees_height (run_of y body left from n)
leaf_value y body left from n l h each =
    let t = leaf_trees (λ w. read y body left w) (word_at body) from n (λ w a b. (each w a b).value left l) in
    sym (t.is ∙ ap Ok (t.some h))

pub leaf_known : (y : Layout) (body cells : List ℕ) (from n : ℕ) → ((w : ℕ) → from ≤ w → w < from + n → IsLeaf y body (word_at body w))
    → IsRunKnown body cells from n
leaf_known y body cells from n each = λ i l. (each (from + i) (omega arith) (omega arith)).known cells
