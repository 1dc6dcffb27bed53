use Rattle.std.proofs.Common.{◌≡◌, ◌<◌, ℕ, [], length, get_or}
use Rattle.rb_tree.specs.Table.{keys_in}
use Rattle.rb_tree.specs.declared.arrange.Numbered.{Numbered}
use Rattle.rb_tree.proofs.arrange.with_indices.Given as goal

abbrev pub invariant-loop-index : goal.invariant-loop-index
invariant-loop-index l = record {
  count : length l.numbered.items ≡ l.index;
  each : (k : ℕ) (d : Numbered) → k < length l.numbered.items
      → ((get_or l.numbered.items k d).key.now ≡ get_or (keys_in l.pairs) k []) × ((get_or l.numbered.items k d).index ≡ k);
}
