use Rattle.std.proofs.Common.{Err, Ok, refl, sym}
use Rattle.rb_parents.specs.Family.{parent_of}
use Rattle.rb_fallback.specs.Answers.{hit_of}
use Rattle.rb_inherit.proofs.Answers.{error_is_lookup, found_is_lookup, not_lookup}
use Rattle.rb_inherit.proofs.Roots.{found_parts, found_path}
use Rattle.rb_inherit.proofs.whole.put_from.Goals as goal

pub returns-in-Err-clause-lookup : goal.returns-in-Err-clause-lookup
returns-in-Err-clause-lookup g c =
    (Err c.in-Err.error, (error_is_lookup g.S.N.Node.tree _ _ _ _ _ c.in-Err.error c.in-Err.ensures.bad_path c.in-Err.ensures.answer, refl))

pub returns-clause-lookup : goal.returns-clause-lookup
returns-clause-lookup g c =
    let found = c.in-Ok.found in
    let is = found_is_lookup g.S.N.Node.tree _ _ _ _ _ found c.in-Ok.ensures.bad_path c.in-Ok.ensures.answer in
    (Ok (hit_of g.S.N.Node.tree found), (is, (tt, λ l e. not_lookup c.in-Err-put_stops.error c.as_tree_error.result c.as_tree_error.ensures l e)))

pub returns-in-Ok-put_stops-clause-lookup : goal.returns-in-Ok-put_stops-clause-lookup
returns-in-Ok-put_stops-clause-lookup g c =
    let tree = g.S.N.Node.tree in
    let own = g.S.Shelf.bundles c.args.own in
    let icu = g.I.Shelf.bundles c.args.icu in
    let parents = parent_of c.args.parents.now in
    let path = found_path c.args.path.now c.in-Ok.found c.in-Ok.ensures.bad_path in
    let parts = found_parts own icu parents c.args.name.now c.args.path.now (hit_of tree c.in-Ok.found) (sym (c.in-Ok.ensures.answer path)) in (
      _,
      (
        found_is_lookup tree _ _ _ _ _ c.in-Ok.found c.in-Ok.ensures.bad_path c.in-Ok.ensures.answer,
        (
          (
            refl,
            record {
              leaf = c.in-Ok-put_stops.ensures.leaf;
              other = c.in-Ok-put_stops.ensures.other c.new-place.ensures path parts;
            },
          ),
          λ e none. absurd cc,
        ),
      ),
    )
