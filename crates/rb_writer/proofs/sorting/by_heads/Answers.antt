use Rattle.std.proofs.Common.{rules, refl}
use Rattle.rb_writer.proofs.Gathered.{headed_more, by_heads}
use Rattle.rb_writer.proofs.sorting.by_heads.Goals as goal

pub loop-i-preserved : goal.loop-i-preserved
loop-i-preserved c = headed_more c.args.keys.now c.loop-i.found.items c.push.new.self.items c.loop-i.i _ _ c.loop-i.invariant c.in_ok-push.ensures.items
    refl (search rules)

pub returns : goal.returns
returns c = by_heads c.args.keys.now c.loop-i.found.items c.sort_unstable.new.self.items c.loop-i.i c.loop-i.invariant (search rules) c.sort_unstable.ensures.permutation
