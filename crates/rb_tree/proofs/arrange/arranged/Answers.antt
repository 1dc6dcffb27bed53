use Rattle.std.proofs.Common.{refl, rules, arith}
use Rattle.rb_tree.proofs.Arranging.{taken_more}
use Rattle.rb_tree.proofs.arrange.arranged.Goals as goal

pub loop-index-preserved : goal.loop-index-preserved
loop-index-preserved c =
    taken_more c.args.pairs.items c.loop-index.pairs.items _ c.args.order.now c.loop-index.entries.items c.push.new.self.items c.loop-index.index-index
    c.replace-key.result c.replace-key.new.dest c.requires c.loop-index.invariant (search rules) (cc (c.replace-key.ensures.value, c.index_mut.ensures.value)) refl
    c.in_ok-push.ensures.items

pub returns : goal.returns
returns c = record {
  same_length = omega (arith, c.loop-index.invariant.count);
  each = λ k d h. c.loop-index.invariant.done k d (omega arith);
}
