use Rattle.std.proofs.Common.{[], ◌++◌, map, ◌∙◌, sym, ap}
use Rattle.std.proofs.lemmas.Result.{err_from_is_err_and}
use Rattle.rb_packages.specs.Packages.{icudata_of}
use Rattle.rb_engine.proofs.Starting.{loads_push, map_push, split_push, count_push, reached, refused}
use Rattle.rb_engine.proofs.start.load_all.Goals as goal

pub loop-index-preserved : goal.loop-index-preserved
loop-index-preserved c =
    let steps = c.in-Some.ensures.steps in
    let loop = c.loop-index in
    let index = c.in-Some.index in
    let name = c.in-Some.name in
    let payload = c.in-Some.payload in
    let entry = c.in_ok-load.ensures.entry in (
      rw (map_push loop.yielded index (name, payload))
          (loads_push [] (map (λ e. e.1) loop.yielded) (icudata_of loop.packages) (icudata_of c.load.new.packages) name payload entry.0
          loop.invariant.0 entry.1 entry.2 entry.3),
      λ app. c.load.ensures.lists app ∙ loop.invariant.1 app,
      split_push c.args.entries.items loop.yielded index (name, payload) loop.index-iterator.iter.rest.items
          c.next.new.self.iter.rest.items loop.invariant.2 steps.0.0,
      count_push loop.yielded (index, (name, payload)) loop.index-iterator.count c.next.new.self.count loop.invariant.3 steps.2,
    )

pub returns-in_err-load-clause-refused : goal.returns-in_err-load-clause-refused
returns-in_err-load-clause-refused c =
    let steps = c.in-Some.ensures.steps in
    let loop = c.loop-index in
    let index = c.in-Some.index in
    let name = c.in-Some.name in
    let payload = c.in-Some.payload in
    let split = loop.invariant.2 ∙ ap (λ l. map (λ e. e.1) loop.yielded ++ l) steps.0.0 in
    let at = reached c.args.entries.items loop.yielded index name payload c.next.new.self.iter.rest.items (icudata_of loop.packages)
    split (loop.invariant.3 ∙ sym steps.1) loop.invariant.0 in
    let p = err_from_is_err_and c.from_residual.result c.from_residual.ensures.1 in
    rw (p.1, p.2)
    (refused c.args.entries.items index name payload (icudata_of loop.packages) (icudata_of c.load.new.packages) c.in_err-load.field-0.0 at
    c.in_err-load.ensures.entry)
