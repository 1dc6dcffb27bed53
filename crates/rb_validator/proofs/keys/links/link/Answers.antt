use Rattle.std.proofs.Common.{◌≡◌, arith}
use Rattle.rb_validator.proofs.Pairs.{redirected_put}
use Rattle.rb_validator.proofs.keys.links.link.Goals as goal
use Rattle.rb_validator.proofs.keys.links.link.Goals.{then-place-links, else-place-links}

pub loop-place-preserved : goal.loop-place-preserved
loop-place-preserved c =
    record {
      reached = omega arith;
      drawn = elim c.if-place-links.branch [
        | then-place-links w ↦
            let is : c.in-Ok.end ≡ c.in-Some.to = c.in-Ok.ensures.1 in
            rw w.links-is (redirected_put c.args.links.now c.loop-place.links c.args.first c.in-Some.to c.loop-place.place c.in-Ok.end
            c.loop-place.invariant.reached is w.if-place-links.true c.loop-place.invariant.drawn)
        | else-place-links w ↦ rw w.links-is c.loop-place.invariant.drawn
      ];
    }
