-- A level that ends at an item or at an alias.
use Rattle.std.proofs.Common.{◌≡◌, ℕ, List, [], ◌∷◌, ◌++◌, drop, Bool, Option, Some, None, Result, Ok, refl, ap, sym, ◌∙◌, subst}
use Rattle.std.specs.Option.{ok_or}
use Rattle.rb_tree.specs.Resource.{Resource, alias}
use Rattle.rb_tree.specs.SourceTree.{SourceTree}
use Rattle.rb_tree.specs.Parts.{units_of, kind_of}
use Rattle.rb_tree.specs.Path.{segments}
use Rattle.rb_tree.specs.Walk.{Walked, ends, links, gone, behind, stop_of, rest_of, link, end}
use Rattle.rb_tree.specs.Ending.{stop_at, RestIs}
use Rattle.rb_tree.specs.declared.ending.Ending.{Ending}
use Rattle.rb_tree.specs.declared.ending.Ending.TheVariants.{End, Link, Gone}
use Rattle.rb_parents.specs.Trail.{Bundles, Trail, names, stops}
use Rattle.rb_fallback.specs.Alias.{target}
use Rattle.rb_fallback.specs.Search.{Decided, walk_of, unless_gone, decide, by_stops, by_trail, found, step, step_of, follow}
use Rattle.rb_fallback.specs.inner.LevelResult.{IsAliasAt, IsLevelResult, Whole}
use Rattle.rb_fallback.specs.declared.fault.LookError.{LookError}
use Rattle.rb_fallback.specs.declared.fault.LookError.TheVariants as fault
use Rattle.rb_fallback.specs.declared.level.LevelResult.{LevelResult}
use Rattle.rb_fallback.specs.declared.search.Outcome.{Outcome}
use Rattle.rb_fallback.specs.declared.search.SearchState.{SearchState}
use Rattle.rb_fallback.specs.declared.stops.Reached.{Reached}
use Rattle.rb_fallback.specs.inner.Reached.{IsReached}
use Rattle.rb_fallback.specs.inner.Steps.{IsFollowed, IsOutcome}
use Rattle.rb_fallback.proofs.Paths.{walk_whole}

-- ---- the deciding walk is that of its stop
abbrev walk_in : Option Decided → Walked
walk_in (Some d) = d.walked
walk_in None = gone

abbrev stop_in : Option Decided → List ℕ
stop_in (Some d) = d.stop
stop_in None = []

unless_is : (bundles : Bundles) (n : List ℕ) (v : Walked) (later : Option Decided) (d : Decided) (ss : List (List ℕ)) → walk_of (bundles n) ss ≡ v
    → (later ≡ Some d → walk_of (bundles d.stop) ss ≡ d.walked) → unless_gone n v later ≡ Some d → walk_of (bundles d.stop) ss ≡ d.walked
unless_is bundles n gone later d ss h k e = k e
unless_is bundles n v later d ss h k e =
    let stop : n ≡ d.stop = ap stop_in e in
    let same : v ≡ d.walked = ap walk_in e in
    ap (λ m. walk_of (bundles m) ss) (sym stop) ∙ h ∙ same

decide_is : (bundles : Bundles) (ns ss : List (List ℕ)) (d : Decided) → decide bundles ns ss ≡ Some d → walk_of (bundles d.stop) ss ≡ d.walked
decide_is bundles [] ss d e = cc
decide_is bundles (n ∷ ns) ss d e =
    unless_is bundles n (walk_of (bundles n) ss) (decide bundles ns ss) d ss refl (λ k. decide_is bundles ns ss d k) e

ok_some : (o : Option Decided) (d : Decided) → ok_or o fault.Missing ≡ Ok d → o ≡ Some d
ok_some None d e = cc
ok_some (Some c) d e = cc

stops_is : (bundles : Bundles) (ns ss : List (List ℕ)) (d : Decided) → by_stops bundles ns ss ≡ Ok d → walk_of (bundles d.stop) ss ≡ d.walked
stops_is bundles [] ss d e = cc
stops_is bundles (n ∷ ns) ss d e = decide_is bundles (n ∷ ns) ss d (ok_some (decide bundles (n ∷ ns) ss) d e)

pub level_is : (bundles : Bundles) (t : Trail) (ss : List (List ℕ)) (d : Decided) → by_trail bundles t ss ≡ Ok d → walk_of (bundles d.stop) ss ≡ d.walked
level_is bundles (names ns) ss d e = stops_is bundles (stops bundles ns) ss d e
level_is bundles t ss d e = cc

pub walk_of_whole : (o : Option SourceTree) (ss : List (List ℕ)) → Whole (walk_of o ss) ss
walk_of_whole None ss = tt
walk_of_whole (Some b) ss = walk_whole b.tree ss

-- ---- a deciding walk that ends at an alias
record IsLink (t : Resource) (path : List ℕ) (cut : ℕ) (w : Walked) : Type 0 where
  us : List ℕ
  walked : List (List ℕ)
  rest : List (List ℕ)
  is : w ≡ links us walked rest
  same : t ≡ alias us
  left : rest ≡ segments (drop (behind cut) path)
  whole : walked ++ rest ≡ segments path

link_of : (t : Resource) (path : List ℕ) (cut : ℕ) (w : Walked) → link t cut ≡ stop_of w → rest_of w ≡ segments (drop (behind cut) path)
    → Whole w (segments path) → IsLink t path cut w
link_of t path cut (ends u) e r h = cc
link_of t path cut gone e r h = cc
link_of t path cut (links us walked rest) e r h = record {
  us = us;
  walked = walked;
  rest = rest;
  is = refl;
  same = cc;
  left = r;
  whole = h;
}

-- a level that ends at an alias has its node
pub alias_at : {N : Type 0} (tree : N → Resource) (x : Ending N) (w : Walked) → stop_at tree x ≡ stop_of w → IsAliasAt tree x
alias_at tree (End n) w e = tt
alias_at tree Gone w e = tt
alias_at tree (Link n cut) (links us walked rest) e = let same : tree n ≡ alias us = cc in ap kind_of same
alias_at tree (Link n cut) (ends t) e = cc
alias_at tree (Link n cut) gone e = cc

-- the deciding walk of a level goes through the whole path
module _ {N : Type 0} {tree : N → Resource} {h : LevelResult N} {path : List ℕ} {r : Result Decided LookError} {head : Option (List ℕ)} {node : N}
    {cut : ℕ} (decided : IsLevelResult tree h path r head) (ending : h.ending ≡ Link node cut) where
  level_link : IsLink (tree node) path cut decided.walked
  level_link =
      link_of (tree node) path cut decided.walked (sym (ap (stop_at tree) ending) ∙ decided.stop)
      (subst (λ x. RestIs x path (rest_of decided.walked)) ending decided.rest)
      decided.whole

  -- what `follow_alias` gives, whatever was walked to the alias and is left, is the step of the level
  pub follow_link : {q : List ℕ} (in_icu : Bool) (valid : List ℕ) (x : Result Bool LookError) (p : SearchState) → q ≡ path
      → ((walked rest : List (List ℕ)) → walked ++ rest ≡ segments q → rest ≡ segments (drop (behind cut) q)
      → IsFollowed x p (follow rest (target (units_of (tree node)) in_icu valid walked)))
      → IsFollowed x p (step in_icu valid r)
  follow_link in_icu valid x p same f =
      let l = level_link in
      let is : step in_icu valid r ≡ follow l.rest (target (units_of (tree node)) in_icu valid l.walked) =
      ap (step in_icu valid) decided.decides
      ∙ ap (λ w. step_of in_icu valid h.actual w) l.is
      ∙ ap (λ us. follow l.rest (target us in_icu valid l.walked)) (sym (ap units_of l.same)) in
      subst (IsFollowed x p) (sym is)
      (f l.walked l.rest (l.whole ∙ ap segments (sym same)) (l.left ∙ ap (λ p. segments (drop (behind cut) p)) (sym same)))

-- what ends a level is its step, also if the path is known as another one
pub outcome_at : {N : Type 0} (tree : N → Resource) (stop : ℕ → Option (List ℕ × Resource)) (d : Reached N) (x : Result (Outcome N) LookError) (to : SearchState)
    (in_icu : Bool) (valid : List ℕ) (r : Result Decided LookError) (q p : List ℕ) → q ≡ p
    → ((stop : ℕ → Option (List ℕ × Resource)) (r : Result Decided LookError) → IsReached tree stop d q r → IsOutcome tree stop x to (step in_icu valid r))
    → IsReached tree stop d p r → IsOutcome tree stop x to (step in_icu valid r)
outcome_at tree stop d x to in_icu valid r q p same f h = f stop r (subst (λ (y : List ℕ). IsReached tree stop d y r) (sym same) h)

-- ---- a deciding walk that ends at a tree
ends_at : (w : Walked) (t : Resource) → end t ≡ stop_of w → w ≡ ends t
ends_at (ends u) t e = let same : t ≡ u = cc in ap ends (sym same)
ends_at (links us walked rest) t e = cc
ends_at gone t e = cc

pub found_step : {N : Type 0} (tree : N → Resource) (h : LevelResult N) (path : List ℕ) (r : Result Decided LookError) (head : Option (List ℕ))
    (node : N) (in_icu : Bool) (valid : List ℕ) → IsLevelResult tree h path r head → h.ending ≡ End node
    → step in_icu valid r ≡ Ok (found (record { tree = tree node; actual = h.actual }))
found_step tree h path r head node in_icu valid d e =
    ap (step in_icu valid) d.decides
    ∙ ap (step_of in_icu valid h.actual) (ends_at d.walked (tree node) (sym (ap (stop_at tree) e) ∙ d.stop))
