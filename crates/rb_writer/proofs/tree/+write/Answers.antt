use Rattle.std.proofs.Common.{arith, ap, ◌∙◌, refl, [], ◌∷◌, ◌<◌, length}
use Rattle.rb_tree.specs.Parts.{children_of, len_of}
use Rattle.rb_tree.specs.inner.Lower.{child_lower}
use Rattle.rb_tree.specs.View.{view_of}
use Rattle.rb_writer.specs.inner.Keyed.{HasPlace}
use Rattle.rb_writer.specs.inner.Standing.{ChildrenStand, EachLaid}
use Rattle.rb_writer.proofs.Nodes.{child_room, children_le, children_none, children_more, only_stands, keys_stay, string_stands, int_stands, ints_stand, binary_stands, alias_stands}
use Rattle.rb_writer.proofs.Tabled.{child_keys}
use Rattle.rb_writer.proofs.Containing.{array_stands, empty_array_stands, table_stands, empty_table_stands, array_room, table_room}
use Rattle.rb_writer.proofs.Trees.{laid_more, none_laid_yet, array_laid_whole, empty_array_laid, table_laid_whole, empty_table_laid}
use Rattle.rb_writer.proofs.tree.+write.Goals as goal

pub write_children-write_value-requires : goal.write_children-write_value-requires
write_children-write_value-requires t c =
    let lower = child_lower (view_of c.args.tree.now) (view_of c.at.result.now) c.loop-i.i c.at.ensures in (
      omega (arith, lower, c.decreases),
      (
        c.loop-i.invariant.0.drafted,
        (
          child_room _ _ _ _ _ _ _ (view_of c.at.result.now) c.loop-i.invariant.0 c.at.ensures c.requires.room,
          (
            keys_stay c.args.keys.now.area c.args.out.now c.loop-i.out c.args.keys.now c.requires.drafted c.loop-i.invariant.0.adds c.requires.keys,
            child_keys (λ k. HasPlace c.args.keys.now k) (view_of c.args.tree.now) (view_of c.at.result.now) c.loop-i.i c.requires.each c.at.ensures,
          ),
        ),
      ),
    )

pub write_children-loop-i-init : goal.write_children-loop-i-init
write_children-loop-i-init t c = rw (c.in_ok-reserve.ensures.items, c.take-items.ensures)
    (children_none _ _ _ c.requires.drafted, λ at a. none_laid_yet at c.args.out.now (children_of (view_of c.args.tree.now)))

pub write_children-loop-i-preserved : goal.write_children-loop-i-preserved
write_children-loop-i-preserved t c = rw c.in_ok-push.ensures.items (
  children_more _ _ c.loop-i.out _ _ _ c.loop-i.i c.in_ok-item.item (view_of c.at.result.now) c.loop-i.invariant.0 c.at.ensures c.in_ok-item.ensures.stands,
  λ at a. laid_more at _ c.loop-i.out _ _ _ c.loop-i.i c.in_ok-item.item (view_of c.at.result.now) (c.loop-i.invariant.1 at a) c.at.ensures
      (c.in_ok-item.ensures.laid at a),
)

pub write_value-returns-in_ok-write_units-in-String-clause-stands : goal.write_value-returns-in_ok-write_units-in-String-clause-stands
write_value-returns-in_ok-write_units-in-String-clause-stands t c = let p = c.in_ok-write_units-in-String.ensures.put c.args.keys.now.area c.requires.drafted in
    string_stands c.args.keys.now.area c.args.out.now _ c.in-String.units _ _ c.args.tree.now c.in-String.is
    (rw c.as_slice.ensures at p) c.item.ensures.kind c.item.ensures.offset

pub write_value-returns-in_ok-write_units-in-Alias-clause-stands : goal.write_value-returns-in_ok-write_units-in-Alias-clause-stands
write_value-returns-in_ok-write_units-in-Alias-clause-stands t c = let p = c.in_ok-write_units-in-Alias.ensures.put c.args.keys.now.area c.requires.drafted in alias_stands
    c.args.keys.now.area c.args.out.now _ c.in-Alias.units _ _ c.args.tree.now c.in-Alias.is
    (rw c.as_slice-in-Alias.ensures at p) c.item-in-Alias.ensures.kind c.item-in-Alias.ensures.offset

pub write_value-returns-in_ok-write_numbers-in-Ints-clause-stands : goal.write_value-returns-in_ok-write_numbers-in-Ints-clause-stands
write_value-returns-in_ok-write_numbers-in-Ints-clause-stands t c = let p = c.in_ok-write_numbers-in-Ints.ensures.put c.args.keys.now.area c.requires.drafted in ints_stand
    c.args.keys.now.area c.args.out.now _ c.in-Ints.numbers _ _ c.args.tree.now c.in-Ints.is
    (rw c.as_slice-in-Ints.ensures at p) c.item-in-Ints.ensures.kind c.item-in-Ints.ensures.offset

pub write_value-returns-in_ok-write_bytes-in-Binary-clause-stands : goal.write_value-returns-in_ok-write_bytes-in-Binary-clause-stands
write_value-returns-in_ok-write_bytes-in-Binary-clause-stands t c = let p = c.in_ok-write_bytes-in-Binary.ensures.put c.args.keys.now.area c.requires.drafted in
    binary_stands c.args.keys.now.area c.args.out.now _ c.in-Binary.bytes _ _ c.args.tree.now c.in-Binary.is
    (rw c.as_slice-in-Binary.ensures at p) c.item-in-Binary.ensures.kind c.item-in-Binary.ensures.offset

pub write_value-returns-in-Int-clause-stands : goal.write_value-returns-in-Int-clause-stands
write_value-returns-in-Int-clause-stands t c = int_stands c.args.keys.now.area c.args.out.now c.in-Int.number c.item-in-Int.result c.args.tree.now c.in-Int.is
    c.requires.drafted c.item-in-Int.ensures.kind (c.item-in-Int.ensures.offset ∙ c.get.ensures.value)

-- ---- without items

pub write_value-returns-in-Array-clause-stands : goal.write_value-returns-in-Array-clause-stands
write_value-returns-in-Array-clause-stands t c =
    let cs = children_of (view_of c.args.tree.now) in
    let s : ChildrenStand c.args.keys.now.area c.args.out.now c.args.out.now cs [] 0 = children_none c.args.keys.now.area c.args.out.now cs c.requires.drafted in
    empty_array_stands c.args.keys.now.area c.args.out.now c.args.out.now [] 0 c.item-in-Array.result c.in-Array.trees c.args.tree.now c.in-Array.is
    (rw c.in-Array.is at s) (omega (arith, c.len.ensures, c.if-len-eq0.true)) refl c.item-in-Array.ensures.kind c.item-in-Array.ensures.offset

pub write_value-returns-in-Array-clause-laid : goal.write_value-returns-in-Array-clause-laid
write_value-returns-in-Array-clause-laid t c =
    let s : EachLaid c.args.keys.now c.args.out.now c.args.out.now (children_of (view_of c.args.tree.now)) [] 0 =
    λ at a. none_laid_yet at c.args.out.now (children_of (view_of c.args.tree.now)) in
    empty_array_laid c.args.keys.now c.args.out.now c.args.out.now [] 0 c.item-in-Array.result c.in-Array.trees c.args.tree.now c.in-Array.is
    (rw c.in-Array.is at s) (omega (arith, c.len.ensures, c.if-len-eq0.true)) refl c.item-in-Array.ensures.word

pub write_value-returns-in-Table-clause-stands : goal.write_value-returns-in-Table-clause-stands
write_value-returns-in-Table-clause-stands t c =
    let cs = children_of (view_of c.args.tree.now) in
    let s : ChildrenStand c.args.keys.now.area c.args.out.now c.args.out.now cs [] 0 = children_none c.args.keys.now.area c.args.out.now cs c.requires.drafted in
    empty_table_stands c.args.keys.now.area c.args.out.now c.args.out.now [] 0 c.item-in-Table.result c.in-Table.entries c.args.tree.now c.in-Table.is
    (rw c.in-Table.is at s) (omega (arith, c.if-len-eq0-2.true)) refl c.item-in-Table.ensures.kind c.item-in-Table.ensures.offset

pub write_value-returns-in-Table-clause-laid : goal.write_value-returns-in-Table-clause-laid
write_value-returns-in-Table-clause-laid t c =
    let s : EachLaid c.args.keys.now c.args.out.now c.args.out.now (children_of (view_of c.args.tree.now)) [] 0 =
    λ at a. none_laid_yet at c.args.out.now (children_of (view_of c.args.tree.now)) in
    empty_table_laid c.args.keys.now c.args.out.now c.args.out.now [] 0 c.item-in-Table.result c.in-Table.entries c.args.tree.now c.in-Table.is
    (rw c.in-Table.is at s) (omega (arith, c.if-len-eq0-2.true)) refl refl c.item-in-Table.ensures.word

-- ---- an array of one item

pub write_value-write_value-requires : goal.write_value-write_value-requires
write_value-write_value-requires t c =
    let lower = child_lower (view_of c.args.tree.now) (view_of c.at.result.now) 0 c.at.ensures in
    let none = children_none c.args.keys.now.area c.args.out.now (children_of (view_of c.args.tree.now)) c.requires.drafted in (
      omega (arith, lower, c.decreases),
      (
        c.requires.drafted,
        (
          child_room _ _ _ _ _ _ _ (view_of c.at.result.now) none c.at.ensures (omega (arith, c.requires.room, children_le (view_of c.args.tree.now))),
          (
            c.requires.keys,
            child_keys (λ k. HasPlace c.args.keys.now k) (view_of c.args.tree.now) (view_of c.at.result.now) 0 c.requires.each c.at.ensures,
          ),
        ),
      ),
    )

pub write_value-write_array-requires-clause-room : goal.write_value-write_array-requires-clause-room
write_value-write_array-requires-clause-room t c =
    let s : ChildrenStand c.args.keys.now.area c.args.out.now c.write_value.new.out
    (children_of (view_of c.args.tree.now)) (c.in_ok-only-in-Array-2.only ∷ []) 1 =
    only_stands _ _ _ _ c.in_ok-only-in-Array-2.only (view_of c.at.result.now) c.requires.drafted c.at.ensures c.in_ok-only-in-Array-2.ensures.stands in
    array_room _ _ _ _ _ _ c.in-Array-2.trees c.args.tree.now c.in-Array-2.is (rw c.in-Array-2.is at s) (omega (arith, c.len.ensures, c.if-len-eq1.true))
    c.requires.room

pub write_value-returns-in_ok-write_array-in-Array-2-clause-stands : goal.write_value-returns-in_ok-write_array-in-Array-2-clause-stands
write_value-returns-in_ok-write_array-in-Array-2-clause-stands t c =
    let s : ChildrenStand c.args.keys.now.area c.args.out.now c.write_value.new.out
    (children_of (view_of c.args.tree.now)) (c.in_ok-only-in-Array-2.only ∷ []) 1 =
    only_stands _ _ _ _ c.in_ok-only-in-Array-2.only (view_of c.at.result.now) c.requires.drafted c.at.ensures c.in_ok-only-in-Array-2.ensures.stands in
    array_stands c.args.keys.now.area c.args.out.now c.write_value.new.out c.write_array.new.out (c.in_ok-only-in-Array-2.only ∷ []) _
    c.in_ok-write_array-in-Array-2.field-0 c.item-in-Array-2.result c.in-Array-2.trees c.args.tree.now c.in-Array-2.is (rw c.in-Array-2.is at s)
    (omega (arith, c.len.ensures, c.if-len-eq1.true))
    c.in_ok-write_array-in-Array-2.ensures.array c.in_ok-write_array-in-Array-2.ensures.small c.item-in-Array-2.ensures.kind
    c.item-in-Array-2.ensures.offset

pub write_value-returns-in_ok-write_array-in-Array-2-clause-laid : goal.write_value-returns-in_ok-write_array-in-Array-2-clause-laid
write_value-returns-in_ok-write_array-in-Array-2-clause-laid t c =
    let s : EachLaid c.args.keys.now c.args.out.now c.write_value.new.out (children_of (view_of c.args.tree.now)) (c.in_ok-only-in-Array-2.only ∷ []) 1 =
    λ at a. laid_more at _ c.args.out.now _ _ [] 0 c.in_ok-only-in-Array-2.only (view_of c.at.result.now)
    (none_laid_yet at c.args.out.now (children_of (view_of c.args.tree.now))) c.at.ensures (c.in_ok-only-in-Array-2.ensures.laid at a) in
    array_laid_whole c.args.keys.now c.args.out.now c.write_value.new.out c.write_array.new.out (c.in_ok-only-in-Array-2.only ∷ []) _
    c.in_ok-write_array-in-Array-2.field-0 c.item-in-Array-2.result c.in-Array-2.trees c.args.tree.now c.in-Array-2.is (rw c.in-Array-2.is at s)
    (omega (arith, c.len.ensures, c.if-len-eq1.true))
    c.in_ok-write_array-in-Array-2.ensures.array (omega arith) c.item-in-Array-2.ensures.word

-- ---- arrays and tables

pub write_value-write_array-requires-in-Array-3-clause-room : goal.write_value-write_array-requires-in-Array-3-clause-room
write_value-write_array-requires-in-Array-3-clause-room t c =
    let s : ChildrenStand c.args.keys.now.area c.args.out.now c.write_children.new.out
    (children_of (view_of c.args.tree.now)) c.in_ok-items-in-Array-3.items.items (len_of (view_of c.args.tree.now)) = c.in_ok-items-in-Array-3.ensures.stand in
    rw c.deref.ensures.value (array_room _ _ _ _ _ _ c.in-Array-3.field-0 c.args.tree.now c.in-Array-3.is (rw c.in-Array-3.is at s) refl c.requires.room)

pub write_value-returns-in_ok-give-in-Array-3-clause-stands : goal.write_value-returns-in_ok-give-in-Array-3-clause-stands
write_value-returns-in_ok-give-in-Array-3-clause-stands t c =
    let s : ChildrenStand c.args.keys.now.area c.args.out.now c.write_children.new.out
    (children_of (view_of c.args.tree.now)) c.in_ok-items-in-Array-3.items.items (len_of (view_of c.args.tree.now)) = c.in_ok-items-in-Array-3.ensures.stand in
    array_stands c.args.keys.now.area c.args.out.now c.write_children.new.out c.write_array-in-Array-3.new.out c.in_ok-items-in-Array-3.items.items _
    c.in_ok-offset-in-Array-3.offset c.item-in-Array-3.result c.in-Array-3.field-0 c.args.tree.now c.in-Array-3.is (rw c.in-Array-3.is at s) refl
    (rw c.deref.ensures.value at c.in_ok-offset-in-Array-3.ensures.array) c.in_ok-offset-in-Array-3.ensures.small c.item-in-Array-3.ensures.kind
    c.item-in-Array-3.ensures.offset

pub write_value-returns-in_ok-give-in-Array-3-clause-laid : goal.write_value-returns-in_ok-give-in-Array-3-clause-laid
write_value-returns-in_ok-give-in-Array-3-clause-laid t c =
    let s : EachLaid c.args.keys.now c.args.out.now c.write_children.new.out
    (children_of (view_of c.args.tree.now)) c.in_ok-items-in-Array-3.items.items (len_of (view_of c.args.tree.now)) = c.in_ok-items-in-Array-3.ensures.laid in
    let stand : ChildrenStand c.args.keys.now.area c.args.out.now c.write_children.new.out
    (children_of (view_of c.args.tree.now)) c.in_ok-items-in-Array-3.items.items (len_of (view_of c.args.tree.now)) = c.in_ok-items-in-Array-3.ensures.stand in
    let some : 0 < length c.in_ok-items-in-Array-3.items.items = omega (arith, stand.count ∙ ap len_of (ap view_of c.in-Array.is), c.len.ensures, c.if-len-eq0.false) in
    array_laid_whole c.args.keys.now c.args.out.now c.write_children.new.out c.write_array-in-Array-3.new.out c.in_ok-items-in-Array-3.items.items _
    c.in_ok-offset-in-Array-3.offset c.item-in-Array-3.result c.in-Array.trees c.args.tree.now c.in-Array.is (rw c.in-Array.is at s) refl
    (rw c.deref.ensures.value at c.in_ok-offset-in-Array-3.ensures.array) some c.item-in-Array-3.ensures.word

pub write_value-write_table-requires-clause-room : goal.write_value-write_table-requires-clause-room
write_value-write_table-requires-clause-room t c =
    let s : ChildrenStand c.args.keys.now.area c.args.out.now c.write_children-in-Table-2.new.out
    (children_of (view_of c.args.tree.now)) c.in_ok-items-in-Table-2.items.items (len_of (view_of c.args.tree.now)) = c.in_ok-items-in-Table-2.ensures.stand in
    rw c.deref-in-Table-2.ensures.value (table_room _ _ _ _ _ _ c.in-Table-2.entries c.args.tree.now c.in-Table-2.is (rw c.in-Table-2.is at s) refl c.requires.room)

pub write_value-returns-in_ok-give-in-Table-2-clause-stands : goal.write_value-returns-in_ok-give-in-Table-2-clause-stands
write_value-returns-in_ok-give-in-Table-2-clause-stands t c =
    let s : ChildrenStand c.args.keys.now.area c.args.out.now c.write_children-in-Table-2.new.out
    (children_of (view_of c.args.tree.now)) c.in_ok-items-in-Table-2.items.items (len_of (view_of c.args.tree.now)) = c.in_ok-items-in-Table-2.ensures.stand in
    table_stands c.args.keys.now c.args.keys.now.area c.args.out.now c.write_children-in-Table-2.new.out
    c.write_table.new.out c.in_ok-items-in-Table-2.items.items _ c.in_ok-written-in-Table-2.written c.in-Table-2.entries c.args.tree.now c.in-Table-2.is
    (rw c.in-Table-2.is at s) refl c.requires.drafted c.requires.keys (rw c.deref-in-Table-2.ensures.value at c.in_ok-written-in-Table-2.ensures)

pub write_value-returns-in_ok-give-in-Table-2-clause-laid : goal.write_value-returns-in_ok-give-in-Table-2-clause-laid
write_value-returns-in_ok-give-in-Table-2-clause-laid t c =
    let s : EachLaid c.args.keys.now c.args.out.now c.write_children-in-Table-2.new.out
    (children_of (view_of c.args.tree.now)) c.in_ok-items-in-Table-2.items.items (len_of (view_of c.args.tree.now)) = c.in_ok-items-in-Table-2.ensures.laid in
    let stand : ChildrenStand c.args.keys.now.area c.args.out.now c.write_children-in-Table-2.new.out
    (children_of (view_of c.args.tree.now)) c.in_ok-items-in-Table-2.items.items (len_of (view_of c.args.tree.now)) = c.in_ok-items-in-Table-2.ensures.stand in
    let some : 0 < length c.in_ok-items-in-Table-2.items.items = omega (arith, stand.count ∙ ap len_of (ap view_of c.in-Table.is), c.if-len-eq0-2.false) in
    let words = stand.drafted.whole in
    table_laid_whole c.args.keys.now c.args.out.now c.write_children-in-Table-2.new.out
    c.write_table.new.out c.in_ok-items-in-Table-2.items.items _ c.in_ok-written-in-Table-2.written c.in-Table-2.entries c.args.tree.now c.in-Table-2.is
    (rw c.in-Table-2.is at s) refl (rw c.deref-in-Table-2.ensures.value at c.in_ok-written-in-Table-2.ensures) (stand.count ∙ ap len_of (ap view_of c.in-Table-2.is))
    some (omega arith)
