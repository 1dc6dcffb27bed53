use Rattle.std.proofs.Common.{◌≡◌, None, IfSome}
use Rattle.rb_tree.specs.Path.{IsPath, segments}
use Rattle.rb_parents.specs.Family.{parent_of}
use Rattle.rb_parents.specs.Trail.{trail}
use Rattle.rb_fallback.specs.Search.{setting_of}
use Rattle.rb_fallback.specs.Steps.{trail_length}
use Rattle.rb_fallback.specs.inner.Budget.{AreGiven, search_within}
use Rattle.rb_fallback.specs.declared.limits.TheConstants.{LEVEL_LIMIT}
use Rattle.rb_fallback.proofs.Levels.{ComesTo}
use Rattle.rb_fallback.proofs.search.search_on.Given as goal

abbrev pub invariant-loop-level : goal.invariant-loop-level
invariant-loop-level g l =
    let own = g.S.Shelf.bundles l.own in
    let s = setting_of own (g.I.Shelf.bundles l.icu) (parent_of l.parents) l.valid in
    let from = l.fn.state in
    record {
      path : IsPath l.state.path;
      none : l.fn.left ≡ None → l.left ≡ None;
      counted : AreGiven g.T.Stops.stop l.given l.fn.left l.from_valid own (parent_of l.parents) l.valid
          → IfSome l.left (λ _. IfSome l.given (λ _. l.from_valid ≡ trail_length (trail own (parent_of l.parents) l.valid)));
      comes : AreGiven g.T.Stops.stop l.given l.fn.left l.from_valid own (parent_of l.parents) l.valid
          → ComesTo l.left LEVEL_LIMIT l.level s l.state.icudata l.state.name l.state.path
          (search_within l.fn.left 255 s from.icudata from.name (segments from.path));
    }
