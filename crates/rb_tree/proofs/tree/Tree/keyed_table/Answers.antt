use Rattle.std.proofs.Common.{◌≡◌, map, refl, sym, ◌∙◌, rules}
use Rattle.std.proofs.lemmas.Map.Iter.{iter_end}
use Rattle.std.proofs.lemmas.List.{map-id}
use Rattle.rb_tree.specs.View.{entries_of}
use Rattle.std.specs.Ordering.{nat_cmp}
use Rattle.std.specs.Cmp.Lexicographic.{slice_cmp}
use Rattle.std.specs.List.Sorted.{IsStrictlySortedBy}
use Rattle.rb_tree.specs.Table.{keys_in, NoRepeat}
use Rattle.rb_tree.proofs.Filled.{table_of_map, children_of_map, no_repeat}
use Rattle.rb_tree.proofs.tree.Tree.keyed_table.Goals as goal

pub invariant_of-result : goal.invariant_of-result
invariant_of-result c =
    let e : map (λ p. p) c.loop-key.yielded ≡ c.in-Ok.map.entries = search (rules, iter_end) in
    table_of_map c.loop-key.entries.items c.in-Ok.map.entries c.args.pairs.items (c.loop-key.invariant.2 ∙ sym (map-id c.loop-key.yielded) ∙ e)
    c.len.ensures.ordered c.in-Ok.ensures.same c.requires

pub returns-clause-table : goal.returns-clause-table
returns-clause-table c =
    let e : map (λ p. p) c.loop-key.yielded ≡ c.in-Ok.map.entries = search (rules, iter_end) in
    let filled = c.loop-key.invariant.2 ∙ sym (map-id c.loop-key.yielded) ∙ e in
    record {
      entries = entries_of c.loop-key.entries.items;
      is = refl;
      ordered = table_of_map c.loop-key.entries.items c.in-Ok.map.entries c.args.pairs.items filled c.len.ensures.ordered c.in-Ok.ensures.same c.requires;
      same = children_of_map c.loop-key.entries.items c.in-Ok.map.entries c.args.pairs.items filled c.in-Ok.ensures.same;
    }

pub returns-then-ascend-clause-no_repeat : goal.returns-then-ascend-clause-no_repeat
returns-then-ascend-clause-no_repeat c =
    let order : IsStrictlySortedBy (slice_cmp nat_cmp) (keys_in c.args.pairs.items) = search rules in
    let apart : NoRepeat (keys_in c.args.pairs.items) = no_repeat (keys_in c.args.pairs.items) order in
    grind (rules, apart)
