use Rattle.std.proofs.Common.{◌≡◌, Some, None, ap, sym, subst, ◌∙◌}
use Rattle.std.specs.Option.{option_map}
use Rattle.rb_parents.specs.Trail.{stop_tree}
use Rattle.rb_fallback.specs.inner.LevelResult.{IsLevelState}
use Rattle.rb_fallback.proofs.Scans.{stops_with, stops_without}
use Rattle.rb_fallback.proofs.level.add_name.Goals as goal

pub returns-in-Some : goal.returns-in-Some
returns-in-Some g c b ns is h =
    let tree = g.N.Node.tree in
    let n = c.args.name.now in
    let there : stop_tree (b n) ≡ Some (tree c.in-Some.root) = sym is ∙ ap (option_map tree) c.in-Some.is in
    subst (IsLevelState tree b c.args.path.now c.add_stop.new.state) (sym (stops_with b ns n (tree c.in-Some.root) there)) (c.add_stop.ensures b _ there h)

pub returns-in-None : goal.returns-in-None
returns-in-None g c b ns is h =
    let tree = g.N.Node.tree in
    let n = c.args.name.now in
    let none : None ≡ stop_tree (b n) = sym (ap (option_map tree) c.in-None.is) ∙ is in
    subst (IsLevelState tree b c.args.path.now c.args.state.now) (sym (stops_without b ns n none)) h
