use Rattle.std.proofs.Common.{◌≤◌, ℕ, List, rules, subst}
use Rattle.rb_tree.specs.Resource.{height}
use Rattle.rb_json.proofs.Indented.{laid_whole}
use Rattle.rb_json.proofs.value.put_value.Goals as goal

pub returns : goal.returns
returns g c =
    let t = g.N.Node.tree c.args.node in
    let low : height t ≤ 64 = search rules in
    subst (λ (text : List ℕ). g.O.Outlet.takes c.args.out.now c.put_tree.new.out text) (laid_whole c.args.layout t low) c.put_tree.ensures
