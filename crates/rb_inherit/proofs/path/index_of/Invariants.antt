use Rattle.std.proofs.Common.{◌≡◌, drop}
use Rattle.rb_tree.specs.Path.{index_within}
use Rattle.rb_tree.proofs.Decimals.{rest_index}
use Rattle.rb_inherit.proofs.path.index_of.Given as goal

abbrev pub invariant-loop-byte : goal.invariant-loop-byte
invariant-loop-byte l = (index_within l.len l.segment ≡ rest_index l.len l.value (drop l.byte-index l.segment))
