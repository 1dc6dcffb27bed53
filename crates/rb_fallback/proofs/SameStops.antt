-- The valid name of a search has the stops of the name that is looked up from: its trail is the end of that name's trail.
use Rattle.std.proofs.Common.{◌≡◌, ◌≤◌, ◌+◌, ℕ, zero, suc, List, [], ◌∷◌, ◌++◌, length, nat_lt, Bool, true, false, ◌||◌, cond, Option, Some, None, IfSome}
use Rattle.std.proofs.Common.{refl, ap, sym, ◌∙◌, subst, arith, length-append}
use Rattle.std.proofs.lemmas.Bool.{lt-ltb}
use Rattle.std.specs.Option.{option_and_then}
use Rattle.std.specs.List.{slice_get}
use Rattle.rb_tree.specs.Resource.{Resource}
use Rattle.rb_parents.specs.Trail.{Bundles, ParentsOf, Next, goes_to, end, bad, next, Trail, names, chain, bad_parent, begins, onward, is_stop, stops, trail, trail_within}
use Rattle.rb_fallback.specs.Search.{first_in, first_of, first_stop}
use Rattle.rb_fallback.specs.Steps.{trail_length}
use Rattle.rb_fallback.specs.Stops.{AreStopsOf, with_tree}

-- ---- a trail that is allowed one name more
begun : (n : List ℕ) (t u : Trail) (ns : List (List ℕ)) → ((ms : List (List ℕ)) → t ≡ names ms → u ≡ names ms)
    → begins n t ≡ names ns → begins n u ≡ names ns
begun n (names ms) u ns f e = ap (begins n) (f ms refl) ∙ e
begun n chain u ns f e = cc
begun n bad_parent u ns f e = cc

onward_longer : (go later : List ℕ → Trail) (x : Next) → ((m : List ℕ) (ms : List (List ℕ)) → go m ≡ names ms → later m ≡ names ms)
    → (ms : List (List ℕ)) → onward go x ≡ names ms → onward later x ≡ names ms
onward_longer go later (goes_to m) f ms e = f m ms e
onward_longer go later end f ms e = e
onward_longer go later bad f ms e = e

longer : (k : ℕ) (b : Bundles) (ps : ParentsOf) (n : List ℕ) (ns : List (List ℕ)) → trail_within k b ps n ≡ names ns
    → trail_within (suc k) b ps n ≡ names ns
unfolding trail_within
longer zero b ps n ns e = cc
longer (suc k) b ps n ns e =
    begun n _ _ ns
    (λ ms g. onward_longer (λ m. trail_within k b ps m) (λ m. trail_within (suc k) b ps m) (next b ps n) (λ m l h. longer k b ps m l h) ms g)
    e

-- ---- the trail from the first stop on
abbrev pub from_stop : Bundles → List (List ℕ) → List (List ℕ)
from_stop b [] = []
from_stop b (n ∷ ns) = cond (is_stop b n) (n ∷ ns) (from_stop b ns)

-- a name has a trail of at most this many names, with these stops
record HasStops (k : ℕ) (b : Bundles) (ps : ParentsOf) (n : List ℕ) (of : List (List ℕ)) : Type 0 where
  ns : List (List ℕ)
  trail : trail_within k b ps n ≡ names ns
  from : ns ≡ from_stop b of
  same : stops b ns ≡ stops b of

record IsBegun (n : List ℕ) (t : Trail) (ns : List (List ℕ)) : Type 0 where
  rest : List (List ℕ)
  is : t ≡ names rest
  same : n ∷ rest ≡ ns

is_begun : (n : List ℕ) (t : Trail) (ns : List (List ℕ)) → begins n t ≡ names ns → IsBegun n t ns
is_begun n (names ms) ns e = record { rest = ms; is = refl; same = cc }
is_begun n chain ns e = cc
is_begun n bad_parent ns e = cc

none_first : (b : Bundles) (ms : List (List ℕ)) (v : List ℕ) → [] ≡ ms → first_of (stops b ms) ≡ Some v → ⊥
none_first b [] v e f = cc
none_first b (m ∷ ms) v e f = cc

some_next : {A : Type 0} (b : Bundles) (go : List ℕ → Trail) (x : Next) (ms : List (List ℕ)) (v : List ℕ) → onward go x ≡ names ms
    → first_of (stops b ms) ≡ Some v → ((m : List ℕ) → go m ≡ names ms → A) → A
some_next b go (goes_to m) ms v e f h = h m e
some_next b go end ms v e f h = let none : [] ≡ ms = cc in absurd (none_first b ms v none f)
some_next b go bad ms v e f h = cc

from_first : (k : ℕ) (b : Bundles) (ps : ParentsOf) (n : List ℕ) (ns : List (List ℕ)) (v : List ℕ) → trail_within k b ps n ≡ names ns
    → first_of (stops b ns) ≡ Some v → HasStops k b ps v ns
unfolding trail_within
from_first zero b ps n ns v e f = cc
from_first (suc k) b ps n ns v e f =
    let go = λ (m : List ℕ). trail_within k b ps m in
    let s = is_begun n (onward go (next b ps n)) ns e in
    let all : cond (is_stop b n) (n ∷ stops b s.rest) (stops b s.rest) ≡ stops b ns = ap (stops b) s.same in
    by go s.is s.same (λ m h g. from_first k b ps m s.rest v h g) (is_stop b n) all (ap (from_stop b) s.same) (ap first_of all ∙ f)
  where
    by : (go : List ℕ → Trail) {rest : List (List ℕ)} → onward go (next b ps n) ≡ names rest → n ∷ rest ≡ ns
        → ((m : List ℕ) → go m ≡ names rest → first_of (stops b rest) ≡ Some v → HasStops k b ps v rest)
        → (c : Bool) → cond c (n ∷ stops b rest) (stops b rest) ≡ stops b ns → cond c (n ∷ rest) (from_stop b rest) ≡ from_stop b ns
        → first_of (cond c (n ∷ stops b rest) (stops b rest)) ≡ Some v → HasStops (suc k) b ps v ns
    by go is whole h true all from g =
        let same : n ≡ v = cc in
        record { ns = ns; trail = subst (λ (m : List ℕ). trail_within (suc k) b ps m ≡ names ns) same e; from = sym whole ∙ from; same = refl }
    by go is whole h false all from g =
        let r = some_next b go (next b ps n) _ v is g (λ m t. h m t g) in
        record { ns = r.ns; trail = longer k b ps v r.ns r.trail; from = r.from ∙ from; same = r.same ∙ all }

-- the stops of a name are those of its first stop
pub same_stops : (stop : ℕ → Option (List ℕ × Resource)) (b : Bundles) (ps : ParentsOf) (n v : List ℕ) → AreStopsOf stop b ps n
    → first_stop b ps n ≡ Some v → AreStopsOf stop b ps v
same_stops stop b ps n v a e =
    let r = from_first 32 b ps n a.ns v a.trail (sym (ap (first_in b) a.trail) ∙ e) in
    record {
      ns = r.ns;
      trail = r.trail;
      stops = λ i. a.stops i ∙ ap (λ (l : List (List ℕ)). option_and_then (with_tree b) (slice_get l i)) (sym r.same);
    }

-- ---- how many names there are from the first stop on
pub from_less : (b : Bundles) (ns : List (List ℕ)) → length (from_stop b ns) ≤ length ns
from_less b [] = omega arith
from_less b (n ∷ ns) = by (is_stop b n) (from_less b ns)
  where
    by : (c : Bool) → length (from_stop b ns) ≤ length ns → length (cond c (n ∷ ns) (from_stop b ns)) ≤ length (n ∷ ns)
    by true l = omega arith
    by false l = omega (arith, l)

-- with one name more
pub from_more : (b : Bundles) (ns : List (List ℕ)) (n : List ℕ)
    → length (from_stop b (ns ++ n ∷ [])) ≡ cond (nat_lt 0 (length (from_stop b ns)) || is_stop b n) (length (from_stop b ns) + 1) 0
from_more b [] n = by (is_stop b n)
  where
    by : (c : Bool) → length (cond c (n ∷ []) []) ≡ cond (nat_lt 0 0 || c) 1 0
    by true = refl
    by false = refl
from_more b (m ∷ ms) n = by (is_stop b m) (from_more b ms n)
  where
    by : (c : Bool) → length (from_stop b (ms ++ n ∷ [])) ≡ cond (nat_lt 0 (length (from_stop b ms)) || is_stop b n) (length (from_stop b ms) + 1) 0
        → length (cond c (m ∷ ms ++ n ∷ []) (from_stop b (ms ++ n ∷ [])))
        ≡ cond (nat_lt 0 (length (cond c (m ∷ ms) (from_stop b ms))) || is_stop b n) (length (cond c (m ∷ ms) (from_stop b ms)) + 1) 0
    by true e =
        length-append (m ∷ ms) (n ∷ [])
        ∙ ap (λ (c : Bool). cond (c || is_stop b n) (length (m ∷ ms) + 1) 0) (sym (lt-ltb 0 (length (m ∷ ms)) (omega arith)))
    by false e = e

pub counts_from : (b : Bundles) (ps : ParentsOf) (n : List ℕ) (ns : List (List ℕ)) → trail b ps n ≡ names ns
    → IfSome (first_stop b ps n) (λ v. length (from_stop b ns) ≡ trail_length (trail b ps v))
counts_from b ps n ns e = by (first_stop b ps n) refl
  where
    by : (o : Option (List ℕ)) → first_stop b ps n ≡ o → IfSome o (λ v. length (from_stop b ns) ≡ trail_length (trail b ps v))
    by None f = tt
    by (Some v) f =
        let r = from_first 32 b ps n ns v e (sym (ap (first_in b) e) ∙ f) in
        ap length (sym r.from) ∙ sym (ap trail_length r.trail)
