use Rattle.std.proofs.Common.{◌≡◌, ◌+◌, [], Some, Ok, refl, sym, ap, ◌∙◌, option_map, arith}
use Rattle.std.specs.Option.{ok_or}
use Rattle.rb_tree.specs.Path.{segments}
use Rattle.rb_tree.specs.Walk.{nowhere, stop_of, walk}
use Rattle.rb_tree.specs.Ending.{stop_at}
use Rattle.rb_parents.specs.Trail.{stops}
use Rattle.rb_fallback.specs.declared.fault.LookError.TheVariants as fault
use Rattle.rb_fallback.proofs.Paths.{walk_whole}
use Rattle.rb_fallback.specs.inner.Reached.{stop_name}
use Rattle.rb_fallback.proofs.StopReads.{decides_here, decides_last, decides_none, first_get, goes_past, name_read, named_stop, no_stop, some_name}
use Rattle.rb_fallback.proofs.StopReads.{somewhere, stops_none, stops_some, tree_read}
use Rattle.rb_fallback.proofs.stops.first_ending.Goals as goal

pub returns-in-None : goal.returns-in-None
returns-in-None g c = record {
  never = λ e. cc;
  level = λ b ns few same.
      stops_none b (stops b ns) (segments c.args.path.now)
      (no_stop b ns 0 (sym (ap (option_map g.T.N.Node.tree) c.in-None.is) ∙ c.root.ensures ∙ ap tree_read (same 0)));
}

pub returns-in_default-root : goal.returns-in_default-root
returns-in_default-root g c =
    let ss = segments c.args.path.now in
    let tree = g.T.N.Node.tree in
    let head = named_stop tree c.root.result (g.T.Stops.stop c.args.given 0) c.root.ensures c.in_default.not-None in
    record {
      never = λ e. cc;
      level = λ b ns few same.
          let first = some_name b ns 0 (stop_name (g.T.Stops.stop c.args.given) 0) (sym head ∙ ap name_read (same 0)) in
          let none = no_stop b ns c.loop-i.i (sym (ap (option_map tree) c.in_default-root.is) ∙ c.root-in-loop-i.ensures ∙ ap tree_read (same c.loop-i.i)) in
          stops_some b (stops b ns) ss (stop_name (g.T.Stops.stop c.args.given) 0) first
          ∙ ap (λ o. ok_or o fault.Missing) (c.loop-i.invariant b ns same ∙ decides_none b ns c.loop-i.i ss none);
    }

pub loop-i-preserved : goal.loop-i-preserved
loop-i-preserved g c = λ b ns same.
    let ss = segments c.args.path.now in
    let tree = g.T.N.Node.tree in
    let root = c.in-Some.root in
    let is : Some (tree root) ≡ tree_read _ = sym (ap (option_map tree) c.in-Some.is) ∙ c.root-in-loop-i.ensures ∙ ap tree_read (same c.loop-i.i) in
    c.loop-i.invariant b ns same
    ∙ goes_past b ns c.loop-i.i ss (tree root) (c.loop-i.i + 1) refl is (sym (ap (stop_at tree) c.in-Gone.is) ∙ c.walk-ending.ensures.stop)

pub returns-in-loop-i : goal.returns-in-loop-i
returns-in-loop-i g c =
    let ss = segments c.args.path.now in
    let tree = g.T.N.Node.tree in
    let stop = g.T.Stops.stop c.args.given in
    let root = c.in-Some.root in
    let i = c.loop-i.i in
    let head = named_stop tree c.root.result (stop 0) c.root.ensures c.in_default.not-None in
    let here = named_stop tree (Some root) (stop i) (sym (ap (option_map tree) c.in-Some.is) ∙ c.root-in-loop-i.ensures) (λ e. cc) in
    record {
      level = λ b ns few same.
          let first = some_name b ns 0 (stop_name stop 0) (sym head ∙ ap name_read (same 0)) in
          let is : Some (tree root) ≡ tree_read _ = sym (ap (option_map tree) c.in-Some.is) ∙ c.root-in-loop-i.ensures ∙ ap tree_read (same i) in
          let named : Some (stop_name stop i) ≡ name_read _ = sym here ∙ ap name_read (same i) in
          let some : stop_of (walk (tree root) ss) ≡ nowhere → ⊥ =
          λ e. somewhere tree c.walk-ending.result c.in_default-ending.not-Gone (c.walk-ending.ensures.stop ∙ e) in
          record {
            walked = walk (tree root) ss;
            decides =
                stops_some b (stops b ns) ss (stop_name stop 0) first
                ∙ ap (λ o. ok_or o fault.Missing) (c.loop-i.invariant b ns same ∙ decides_here b ns i ss (tree root) (stop_name stop i) is named some);
            whole = walk_whole (tree root) ss;
            stop = c.walk-ending.ensures.stop;
            rest = c.walk-ending.ensures.rest;
            first = first_get (stops b ns) ∙ first;
          };
      walk = (
        Ok (record { stop = stop_name stop i; walked = walk (tree root) ss }),
        record {
          first = [];
          head = Some [];
          level = record {
            walked = walk (tree root) ss;
            decides = refl;
            whole = walk_whole (tree root) ss;
            stop = c.walk-ending.ensures.stop;
            rest = c.walk-ending.ensures.rest;
            first = refl;
          };
        },
      );
    }

pub returns : goal.returns
returns g c =
    let ss = segments c.args.path.now in
    let tree = g.T.N.Node.tree in
    let head = named_stop tree c.root.result (g.T.Stops.stop c.args.given 0) c.root.ensures c.in_default.not-None in
    record {
      never = λ e. cc;
      level = λ b ns few same.
          let first = some_name b ns 0 (stop_name (g.T.Stops.stop c.args.given) 0) (sym head ∙ ap name_read (same 0)) in
          stops_some b (stops b ns) ss (stop_name (g.T.Stops.stop c.args.given) 0) first
          ∙ ap (λ o. ok_or o fault.Missing) (c.loop-i.invariant b ns same ∙ decides_last b ns c.loop-i.i ss (omega (arith, c.loop-i-test.false)));
    }
