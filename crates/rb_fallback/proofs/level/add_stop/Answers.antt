use Rattle.std.proofs.Common.{subst, rules}
use Rattle.rb_fallback.specs.inner.LevelResult.{IsEnding}
use Rattle.rb_fallback.proofs.Scans.{first_on, ending_first, ending_later}
use Rattle.rb_fallback.proofs.level.add_stop.Goals as goal

pub returns-in-Gone : goal.returns-in-Gone
returns-in-Gone g c b all is h =
    let tree = g.N.Node.tree in
    let path = c.args.path.now in
    let n = c.args.name.now in
    let none = subst (λ x. IsEnding tree b path x c.args.state.now.actual all) c.in-Gone.is h.ending in
    record {
      first = rw (c.unwrap_or.ensures) (first_on c.args.state.now.first all n h.first);
      ending = ending_first tree b path all n c.walk-state.result (tree c.args.root) none is c.walk-state.ensures.stop c.walk-state.ensures.rest;
    }

pub returns-in_default : goal.returns-in_default
returns-in_default g c b all is h =
    let tree = g.N.Node.tree in
    let path = c.args.path.now in
    let n = c.args.name.now in
    record {
      first = rw (c.unwrap_or.ensures) (first_on c.args.state.now.first all n h.first);
      ending = ending_later tree b path all n c.args.state.now.ending c.args.state.now.actual (search rules) h.ending;
    }
