-- A pass over a trail, name by name.
use Rattle.std.proofs.Common.{◌≡◌, ℕ, List, [], ◌∷◌, ◌++◌, Bool, true, false, cond, Option, Some, None, unwrap_or, refl, ap, ◌∙◌, append-nil}
use Rattle.std.proofs.lemmas.List.Elements.{filter-append}
use Rattle.rb_tree.specs.Resource.{Resource}
use Rattle.rb_tree.specs.SourceTree.{SourceTree}
use Rattle.rb_tree.specs.Path.{segments}
use Rattle.rb_tree.specs.Walk.{Walked, gone, walk, stop_of, rest_of, nowhere}
use Rattle.rb_tree.specs.Ending.{stop_at, RestIs}
use Rattle.rb_tree.specs.declared.ending.Ending.{Ending}
use Rattle.rb_tree.specs.declared.ending.Ending.TheVariants.{End, Link, Gone}
use Rattle.rb_parents.specs.Trail.{Bundles, is_stop, stops_at, stop_tree, stops}
use Rattle.rb_fallback.specs.Search.{Decided, walk_of, unless_gone, decide, first_of}
use Rattle.rb_fallback.specs.inner.LevelResult.{DecidingWalk, IsEnding}
use Rattle.rb_fallback.proofs.Paths.{walk_whole}

pub first_on : (o : Option (List ℕ)) (all : List (List ℕ)) (n : List ℕ) → o ≡ first_of all → Some (unwrap_or o n) ≡ first_of (all ++ n ∷ [])
first_on o [] n e = ap (λ x. Some (unwrap_or x n)) e
first_on o (m ∷ all) n e = ap (λ x. Some (unwrap_or x n)) e

abbrev or_later : {A : Type 0} → Option A → Option A → Option A
or_later None later = later
or_later (Some h) later = Some h

skips : (m : List ℕ) (w : Walked) (o later : Option Decided) → unless_gone m w (or_later o later) ≡ or_later (unless_gone m w o) later
skips m gone o later = refl
skips m w o later = refl

decide_on : (b : Bundles) (all : List (List ℕ)) (n : List ℕ) (ss : List (List ℕ))
    → decide b (all ++ n ∷ []) ss ≡ or_later (decide b all ss) (unless_gone n (walk_of (b n) ss) None)
decide_on b [] n ss = refl
decide_on b (m ∷ all) n ss = ap (unless_gone m (walk_of (b m) ss)) (decide_on b all n ss) ∙ skips m (walk_of (b m) ss) (decide b all ss) _

pub not_gone : (w : Walked) (n : List ℕ) (o : Option Decided) → (stop_of w ≡ nowhere → ⊥) → unless_gone n w o ≡ Some (record { stop = n; walked = w })
not_gone gone n o h = absurd (h refl)
not_gone w n o h = refl

pub is_gone : (w : Walked) (n : List ℕ) (o : Option Decided) → nowhere ≡ stop_of w → unless_gone n w o ≡ o
is_gone gone n o h = refl
is_gone w n o h = cc

-- the tree that a stop has is that of its bundle
abbrev pub tree_in : Option SourceTree → Option Resource
tree_in None = None
tree_in (Some b) = Some b.tree

abbrev walk_in : Option Resource → List (List ℕ) → Walked
walk_in None ss = gone
walk_in (Some t) ss = walk t ss

same_walk : (o : Option SourceTree) (ss : List (List ℕ)) → walk_of o ss ≡ walk_in (tree_in o) ss
same_walk None ss = refl
same_walk (Some b) ss = refl

pub stop_walk : (o : Option SourceTree) (t : Resource) (ss : List (List ℕ)) → tree_in o ≡ Some t → walk_of o ss ≡ walk t ss
stop_walk o t ss e = same_walk o ss ∙ ap (λ x. walk_in x ss) e

pub stop_some : (o : Option SourceTree) (t : Resource) → stop_tree o ≡ Some t → (stops_at o ≡ true) × (tree_in o ≡ Some t)
stop_some None t e = cc
stop_some (Some b) t e = by (stops_at (Some b)) refl e
  where
    by : (v : Bool) → stops_at (Some b) ≡ v → cond v (Some b.tree) None ≡ Some t → (stops_at (Some b) ≡ true) × (Some b.tree ≡ Some t)
    by true f g = (f, g)
    by false f g = absurd (cc)

stop_none : (o : Option SourceTree) → None ≡ stop_tree o → stops_at o ≡ false
stop_none None e = refl
stop_none (Some b) e = by (stops_at (Some b)) refl e
  where
    by : (v : Bool) → stops_at (Some b) ≡ v → None ≡ cond v (Some b.tree) None → stops_at (Some b) ≡ false
    by true f g = absurd (cc)
    by false f g = f

module _ {N : Type 0} (tree : N → Resource) (b : Bundles) (path : List ℕ) (all : List (List ℕ)) (n : List ℕ) where
  one_on : (t : Resource) → decide b all (segments path) ≡ None → stop_tree (b n) ≡ Some t
      → decide b (all ++ n ∷ []) (segments path) ≡ unless_gone n (walk t (segments path)) None
  one_on t none is =
      decide_on b all n (segments path)
      ∙ ap (λ o. or_later o (unless_gone n (walk_of (b n) (segments path)) None)) none
      ∙ ap (λ w. unless_gone n w None) (stop_walk (b n) t (segments path) (stop_some (b n) t is).1)

  -- a walk decides if none did before
  pub ending_first : (x : Ending N) (t : Resource) → decide b all (segments path) ≡ None → stop_tree (b n) ≡ Some t
      → stop_at tree x ≡ stop_of (walk t (segments path)) → RestIs x path (rest_of (walk t (segments path))) → IsEnding tree b path x n (all ++ n ∷ [])
  ending_first Gone t none is stop rest = one_on t none is ∙ is_gone (walk t (segments path)) n None stop
  ending_first (End m) t none is stop rest = record {
    walked = walk t (segments path);
    decides = one_on t none is ∙ not_gone (walk t (segments path)) n None (λ z. let never : stop_at tree (End m) ≡ nowhere = stop ∙ z in cc);
    whole = walk_whole t (segments path);
    stop = stop;
    rest = rest;
  }
  ending_first (Link m k) t none is stop rest = record {
    walked = walk t (segments path);
    decides = one_on t none is ∙ not_gone (walk t (segments path)) n None (λ z. let never : stop_at tree (Link m k) ≡ nowhere = stop ∙ z in cc);
    whole = walk_whole t (segments path);
    stop = stop;
    rest = rest;
  }

  decided_on : (x : Ending N) (a : List ℕ) → DecidingWalk tree b path x a all → DecidingWalk tree b path x a (all ++ n ∷ [])
  decided_on x a d = record {
    walked = d.walked;
    decides = decide_on b all n (segments path) ∙ ap (λ o. or_later o (unless_gone n (walk_of (b n) (segments path)) None)) d.decides;
    whole = d.whole;
    stop = d.stop;
    rest = d.rest;
  }

  -- and later stops change nothing
  pub ending_later : (x : Ending N) (a : List ℕ) → (x ≡ Gone → ⊥) → IsEnding tree b path x a all → IsEnding tree b path x a (all ++ n ∷ [])
  ending_later Gone a other d = absurd (other refl)
  ending_later (End m) a other d = decided_on (End m) a d
  ending_later (Link m k) a other d = decided_on (Link m k) a d

-- ---- the stops of the names so far
pub stops_with : (b : Bundles) (ns : List (List ℕ)) (n : List ℕ) (t : Resource) → stop_tree (b n) ≡ Some t → stops b (ns ++ n ∷ []) ≡ stops b ns ++ n ∷ []
stops_with b ns n t e = filter-append (is_stop b) ns (n ∷ []) ∙ ap (λ (v : Bool). stops b ns ++ cond v (n ∷ []) []) (stop_some (b n) t e).0

pub stops_without : (b : Bundles) (ns : List (List ℕ)) (n : List ℕ) → None ≡ stop_tree (b n) → stops b (ns ++ n ∷ []) ≡ stops b ns
stops_without b ns n e =
    filter-append (is_stop b) ns (n ∷ [])
    ∙ ap (λ (v : Bool). stops b ns ++ cond v (n ∷ []) []) (stop_none (b n) e)
    ∙ append-nil (stops b ns)
