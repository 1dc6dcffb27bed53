use Rattle.std.proofs.Common.{◌≡◌, ℕ, ◌+◌, ◌-◌, ◌/◌, ◌<◌, ◌≤◌, List, Some, sym, ap, subst, ◌∙◌, arith}
use Rattle.std.specs.Prelude.{IfSome}
use Rattle.std.specs.Ordering.{nat_cmp}
use Rattle.std.specs.declared.cmp.Ordering.{Ordering}
use Rattle.std.specs.declared.cmp.Ordering.TheVariants.{Less, Equal, Greater}
use Rattle.std.specs.Cmp.Lexicographic.{slice_cmp}
use Rattle.rb_tree.specs.Resource.{Resource}
use Rattle.rb_format.specs.declared.geometry.TableParts.{TableParts}
use Rattle.rb_format.specs.Place.{word_at, key, layout_of}
use Rattle.rb_format.specs.Geometry.{key_offset}
use Rattle.rb_views.specs.inner.Stands.{TableStands}
use Rattle.rb_views.specs.Trees.{item_tree, key_from}
use Rattle.rb_views.proofs.Values.{values_length, lookup_found, lookup_absent, first_at, second_at}
use Rattle.rb_views.proofs.Containers.{table_key, table_rises}
use Rattle.rb_views.proofs.Halving.{IsHalved, halved_start, halved_left, halved_right, halved_none, equal_is, greater_is, earlier_differ}
use Rattle.rb_views.proofs.table.Table.get.Goals as goal

abbrev name : List ℕ → TableParts → ℕ → List ℕ
name body p i = key_from body (key_offset body p.keys i)

abbrev tree : List ℕ → TableParts → ℕ → Resource
tree body p i = item_tree body (word_at body (p.first + i))

-- the order of entry i's key, from a comparison with the key at its offset
ordered : (o : Ordering) (body : List ℕ) (p : TableParts) (i : ℕ) (wanted : List ℕ) → TableStands body p → i < p.count
    → IfSome (key (layout_of body) body (key_offset body p.keys i)) (λ stored. o ≡ slice_cmp nat_cmp wanted stored)
    → slice_cmp nat_cmp wanted (name body p i) ≡ o
ordered o body p i wanted h l e = let f = rw (table_key body p i h l) at e in sym f

halfway : (low high m : ℕ) → low < high → m ≡ low + (high - low) / 2 → (low ≤ m) × (m < high)
halfway low high m h e = (omega arith, omega arith)

pub loop-low-init : goal.loop-low-init
loop-low-init c =
    let s = c.args.self in
    let e : c.len-count.result ≡ s.parts.count = rw values_length at c.len-count.ensures in
    record {
      halved = subst (λ (h : ℕ). IsHalved (name s.body.now s.parts) s.parts.count c.args.key.now 0 h) (sym e)
          (halved_start (name s.body.now s.parts) s.parts.count c.args.key.now);
      inside = λ h. (omega arith, c.first_probe-middle.ensures.within h);
    }

pub compare-requires : goal.compare-requires
compare-requires c = let i = c.loop-low.invariant.halved.inside in let m = c.loop-low.invariant.inside c.loop-low-test.true in rw values_length (omega arith)

pub loop-low-preserved-in-Less : goal.loop-low-preserved-in-Less
loop-low-preserved-in-Less c =
    let s = c.args.self in
    let m = c.loop-low.middle in
    let within = c.loop-low.invariant.inside c.loop-low-test.true in
    let i = c.loop-low.invariant.halved.inside in
    let less = ordered Less s.body.now s.parts m c.args.key.now s.stands (omega arith) c.in-Less.ensures in
    record {
      halved = halved_left (name s.body.now s.parts) s.parts.count c.args.key.now c.loop-low.low c.loop-low.high m
          (λ i j h l. table_rises s.body.now s.parts i j s.stands h l) c.loop-low.invariant.halved (omega arith) (omega arith) less;
      inside = λ h. halfway c.loop-low.low m c.next_probe-middle.result h c.next_probe-middle.ensures;
    }

pub loop-low-preserved : goal.loop-low-preserved
loop-low-preserved c =
    let s = c.args.self in
    let m = c.loop-low.middle in
    let within = c.loop-low.invariant.inside c.loop-low-test.true in
    let i = c.loop-low.invariant.halved.inside in
    let greater = ordered Greater s.body.now s.parts m c.args.key.now s.stands (omega arith) c.in-Greater.ensures in
    record {
      halved = halved_right (name s.body.now s.parts) s.parts.count c.args.key.now c.loop-low.low c.loop-low.high m
          (λ i j h l. table_rises s.body.now s.parts i j s.stands h l) c.loop-low.invariant.halved (omega arith) (omega arith)
          (greater_is c.args.key.now (name s.body.now s.parts m) greater);
      inside = λ h. halfway (m + 1) c.loop-low.high c.next_probe-middle-in-Greater.result h c.next_probe-middle-in-Greater.ensures;
    }

pub item-requires : goal.item-requires
item-requires c = let i = c.loop-low.invariant.halved.inside in let m = c.loop-low.invariant.inside c.loop-low-test.true in rw values_length (omega arith)

pub returns-in-Equal-clause-tree : goal.returns-in-Equal-clause-tree
returns-in-Equal-clause-tree c =
    let s = c.args.self in
    let m = c.loop-low.middle in
    let within = c.loop-low.invariant.inside c.loop-low-test.true in
    let i = c.loop-low.invariant.halved.inside in
    let there : m < s.parts.count = omega arith in
    let same = ordered Equal s.body.now s.parts m c.args.key.now s.stands there c.in-Equal.ensures in
    let found : name s.body.now s.parts m ≡ c.args.key.now = sym (equal_is c.args.key.now (name s.body.now s.parts m) same) in
    c.item.ensures.tree ∙ second_at (name s.body.now s.parts) (tree s.body.now s.parts) s.parts.count m there
    ∙ sym (lookup_found c.args.key.now (name s.body.now s.parts) (tree s.body.now s.parts) s.parts.count m there found
    (earlier_differ (name s.body.now s.parts) s.parts.count m c.args.key.now (λ i j h l. table_rises s.body.now s.parts i j s.stands h l) there found))

pub returns-in-Equal-clause-place : goal.returns-in-Equal-clause-place
returns-in-Equal-clause-place c =
    let s = c.args.self in
    let m = c.loop-low.middle in
    let within = c.loop-low.invariant.inside c.loop-low-test.true in
    let i = c.loop-low.invariant.halved.inside in
    let there : m < s.parts.count = omega arith in
    let same = ordered Equal s.body.now s.parts m c.args.key.now s.stands there c.in-Equal.ensures in
    let found : c.args.key.now ≡ name s.body.now s.parts m = equal_is c.args.key.now (name s.body.now s.parts m) same in
    (m, first_at (name s.body.now s.parts) (tree s.body.now s.parts) s.parts.count m there ∙ ap Some (sym found), c.item.ensures.place)

pub returns-clause-tree : goal.returns-clause-tree
returns-clause-tree c =
    let s = c.args.self in
    sym (lookup_absent c.args.key.now (name s.body.now s.parts) (tree s.body.now s.parts) s.parts.count
    (halved_none (name s.body.now s.parts) s.parts.count c.args.key.now c.loop-low.low c.loop-low.high c.loop-low.invariant.halved (omega arith)))
