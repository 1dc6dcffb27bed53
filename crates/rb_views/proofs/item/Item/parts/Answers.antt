use Rattle.std.proofs.Common.{Some, sym, ap, ◌∙◌, arith, inl, inr}
use Rattle.rb_format.specs.Geometry.{table_parts, long_table_parts}
use Rattle.rb_format.specs.Item.{offset_of}
use Rattle.rb_views.specs.Trees.{parts_of_kind}
use Rattle.rb_views.proofs.Readings.{laid_room}
use Rattle.rb_views.proofs.Containers.{entries_short, entries_long, entries_none, table_kinds}
use Rattle.rb_views.proofs.item.Item.parts.Goals as goal

pub returns-then-offset-eq0-clause-entries : goal.returns-then-offset-eq0-clause-entries
returns-then-offset-eq0-clause-entries c =
    let s = c.args.self in
    entries_none s.body.now s.word c.item_offset-offset.result c.item_offset-offset.ensures s.stands c.requires c.if-offset-eq0.true

pub table_parts-requires : goal.table_parts-requires
table_parts-requires c =
    let s = c.args.self in
    let a = entries_short s.body.now s.word c.item_offset-offset.result c.item_offset-offset.ensures s.stands (c.item_kind.ensures ∙ ap Some c.in-Table.is)
    (omega arith) in
    let b = a.0 in
    let r = laid_room s.body.now s.laid in
    omega arith

pub long_table_parts-requires : goal.long_table_parts-requires
long_table_parts-requires c =
    let s = c.args.self in
    let a = entries_long s.body.now s.word c.item_offset-offset.result c.item_offset-offset.ensures s.stands (c.item_kind.ensures ∙ ap Some c.in-LongTable.is)
    (omega arith) in
    let b = a.0 in
    let r = laid_room s.body.now s.laid in
    omega arith

pub unreachable-requires : goal.unreachable-requires
unreachable-requires c =
    let s = c.args.self in
    elim (table_kinds s.body.now s.word c.item_kind.result s.stands c.item_kind.ensures c.requires) [
      | inl e ↦ c.in_default.not-Table e
      | inr e ↦ c.in_default.not-LongTable e
    ]

pub returns-in-Table-clause-entries : goal.returns-in-Table-clause-entries
returns-in-Table-clause-entries c =
    let s = c.args.self in
    rw c.table_parts.ensures.parts (entries_short s.body.now s.word c.item_offset-offset.result c.item_offset-offset.ensures s.stands
    (c.item_kind.ensures ∙ ap Some c.in-Table.is) (omega arith)).1

pub returns-in-LongTable-clause-entries : goal.returns-in-LongTable-clause-entries
returns-in-LongTable-clause-entries c =
    let s = c.args.self in
    rw c.long_table_parts.ensures.parts (entries_long s.body.now s.word c.item_offset-offset.result c.item_offset-offset.ensures s.stands
    (c.item_kind.ensures ∙ ap Some c.in-LongTable.is) (omega arith)).1

pub returns-in-Table-clause-place : goal.returns-in-Table-clause-place
returns-in-Table-clause-place c =
    let s = c.args.self in
    let kind = c.item_kind.ensures ∙ ap Some c.in-Table.is in
    λ h. c.table_parts.ensures.parts ∙ ap (table_parts s.body.now) c.item_offset-offset.ensures ∙ sym (ap (parts_of_kind s.body.now (offset_of s.word)) kind)

pub returns-in-LongTable-clause-place : goal.returns-in-LongTable-clause-place
returns-in-LongTable-clause-place c =
    let s = c.args.self in
    let kind = c.item_kind.ensures ∙ ap Some c.in-LongTable.is in
    λ h. c.long_table_parts.ensures.parts ∙ ap (long_table_parts s.body.now) c.item_offset-offset.ensures
    ∙ sym (ap (parts_of_kind s.body.now (offset_of s.word)) kind)
