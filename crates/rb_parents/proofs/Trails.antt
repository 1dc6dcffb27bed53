-- A trail, name by name.
use Rattle.std.proofs.Common.{◌≡◌, ◌+◌, ◌-◌, ◌<◌, ◌≤◌, ℕ, suc, List, [], ◌∷◌, ◌++◌, length, Bool, true, false, cond, refl, ap, sym, ◌∙◌, arith, length-append}
use Rattle.std.proofs.Common.{map, Option, Some, None, is_some}
use Rattle.std.specs.List.{filter, slice_get}
use Rattle.rb_tree.specs.SourceTree.{SourceTree}
use Rattle.rb_parents.specs.Trail.{stop_tree, stops_at, Bundles, ParentsOf, Next, goes_to, end, bad, next, Trail, names, chain, bad_parent, begins, onward}
use Rattle.rb_parents.specs.Trail.{trail_within, places}
use Rattle.rb_parents.specs.Steps.{trail_on, trail_past}

-- names in front of a trail
abbrev pub all_begin : List (List ℕ) → Trail → Trail
all_begin [] t = t
all_begin (n ∷ ns) t = begins n (all_begin ns t)

all_begin_push : (ns : List (List ℕ)) (n : List ℕ) (t : Trail) → all_begin (ns ++ n ∷ []) t ≡ all_begin ns (begins n t)
all_begin_push [] n t = refl
all_begin_push (m ∷ ns) n t = ap (begins m) (all_begin_push ns n t)

all_begin_bad : (ns : List (List ℕ)) → all_begin ns bad_parent ≡ bad_parent
all_begin_bad [] = refl
all_begin_bad (n ∷ ns) = ap (begins n) (all_begin_bad ns)

all_begin_chain : (ns : List (List ℕ)) → all_begin ns chain ≡ chain
all_begin_chain [] = refl
all_begin_chain (n ∷ ns) = ap (begins n) (all_begin_chain ns)

all_begin_none : (ns : List (List ℕ)) → all_begin ns (names []) ≡ names ns
all_begin_none [] = refl
all_begin_none (n ∷ ns) = ap (begins n) (all_begin_none ns)

one_on : (bundles : Bundles) (parents : ParentsOf) (n : List ℕ) (ns : List (List ℕ)) (k j : ℕ) (x : Next) → k ≡ suc j → next bundles parents n ≡ x
    → all_begin ns (trail_within k bundles parents n) ≡ all_begin (ns ++ n ∷ []) (onward (λ m. trail_within j bundles parents m) x)
one_on bundles parents n ns k j x e f =
    ap (all_begin ns) (trail_on k j bundles parents n e ∙ ap (λ y. begins n (onward (λ m. trail_within j bundles parents m) y)) f)
    ∙ sym (all_begin_push ns n (onward (λ m. trail_within j bundles parents m) x))

pub trail_goes : (bundles : Bundles) (parents : ParentsOf) (n m : List ℕ) (ns : List (List ℕ)) (most i : ℕ) → i < most → next bundles parents n ≡ goes_to m
    → all_begin ns (trail_within (most - i) bundles parents n) ≡ all_begin (ns ++ n ∷ []) (trail_within (most - (i + 1)) bundles parents m)
trail_goes bundles parents n m ns most i h f = one_on bundles parents n ns (most - i) (most - (i + 1)) (goes_to m) (omega arith) f

pub trail_end : (bundles : Bundles) (parents : ParentsOf) (n : List ℕ) (ns : List (List ℕ)) (most i : ℕ) → i < most → next bundles parents n ≡ end
    → all_begin ns (trail_within (most - i) bundles parents n) ≡ names (ns ++ n ∷ [])
trail_end bundles parents n ns most i h f = one_on bundles parents n ns (most - i) (most - (i + 1)) end (omega arith) f ∙ all_begin_none (ns ++ n ∷ [])

pub trail_bad : (bundles : Bundles) (parents : ParentsOf) (n : List ℕ) (ns : List (List ℕ)) (most i : ℕ) → i < most → next bundles parents n ≡ bad
    → all_begin ns (trail_within (most - i) bundles parents n) ≡ bad_parent
trail_bad bundles parents n ns most i h f = one_on bundles parents n ns (most - i) (most - (i + 1)) bad (omega arith) f ∙ all_begin_bad (ns ++ n ∷ [])

pub trail_long : (bundles : Bundles) (parents : ParentsOf) (n : List ℕ) (ns : List (List ℕ)) (most i : ℕ) → i ≡ most
    → all_begin ns (trail_within (most - i) bundles parents n) ≡ chain
trail_long bundles parents n ns most i h = ap (all_begin ns) (trail_past (most - i) bundles parents n (omega arith)) ∙ all_begin_chain ns

pub trail_start : (bundles : Bundles) (parents : ParentsOf) (n : List ℕ) (ns : List (List ℕ)) (most : ℕ) → ns ≡ []
    → all_begin ns (trail_within most bundles parents n) ≡ trail_within most bundles parents n
trail_start bundles parents n ns most e = ap (λ l. all_begin l (trail_within most bundles parents n)) e

places_more : (test : List ℕ → Bool) (k : ℕ) (ns : List (List ℕ)) (n : List ℕ)
    → places test k (ns ++ n ∷ []) ≡ places test k ns ++ cond (test n) ((k + length ns) ∷ []) []
places_more test k [] n = ap (λ (j : ℕ). cond (test n) (j ∷ []) []) (omega arith)
places_more test k (m ∷ ns) n = rw (places_more test (suc k) ns n) (by (test m))
  where
    by : (b : Bool) → cond b (k ∷ (places test (suc k) ns ++ cond (test n) ((suc k + length ns) ∷ []) []))
        (places test (suc k) ns ++ cond (test n) ((suc k + length ns) ∷ []) [])
        ≡ cond b (k ∷ places test (suc k) ns) (places test (suc k) ns) ++ cond (test n) ((k + suc (length ns)) ∷ []) []
    by true = ap (λ (j : ℕ). k ∷ (places test (suc k) ns ++ cond (test n) (j ∷ []) [])) (omega arith)
    by false = ap (λ (j : ℕ). places test (suc k) ns ++ cond (test n) (j ∷ []) []) (omega arith)

pub places_push : (test : List ℕ → Bool) (b : Bool) (i : ℕ) (ns : List (List ℕ)) (n : List ℕ) → test n ≡ b → length ns ≡ i
    → places test 0 (ns ++ n ∷ []) ≡ places test 0 ns ++ cond b (i ∷ []) []
places_push test b i ns n e f =
    places_more test 0 ns n
    ∙ ap (λ c. places test 0 ns ++ cond c ((0 + length ns) ∷ []) []) e
    ∙ ap (λ (j : ℕ). places test 0 ns ++ cond b (j ∷ []) []) (omega arith)

pub few_push : (xs ys : List ℕ) (b : Bool) (i n : ℕ) → ys ≡ xs ++ cond b (i ∷ []) [] → length xs ≤ n → length ys ≤ n + 1
few_push xs ys true i n e h = omega (arith, ap length e, length-append xs (i ∷ []))
few_push xs ys false i n e h = omega (arith, ap length e, length-append {A = ℕ} xs [])

places_suc : (test : List ℕ → Bool) (k : ℕ) (ns : List (List ℕ)) → places test (suc k) ns ≡ map suc (places test k ns)
places_suc test k [] = refl
places_suc test k (n ∷ ns) = rw (places_suc test (suc k) ns) (by (test n))
  where
    by : (b : Bool) → cond b (suc k ∷ map suc (places test (suc k) ns)) (map suc (places test (suc k) ns))
        ≡ map suc (cond b (k ∷ places test (suc k) ns) (places test (suc k) ns))
    by true = refl
    by false = refl

behind_first : (n : List ℕ) (ns : List (List ℕ)) (is : List ℕ) → map (slice_get (n ∷ ns)) (map suc is) ≡ map (slice_get ns) is
behind_first n ns [] = refl
behind_first n ns (i ∷ is) = ap (λ os. slice_get ns i ∷ os) (behind_first n ns is)

places_named : (test : List ℕ → Bool) (ns : List (List ℕ)) → map (slice_get ns) (places test 0 ns) ≡ map Some (filter test ns)
places_named test [] = refl
places_named test (n ∷ ns) =
    by (ap (map (slice_get (n ∷ ns))) (places_suc test 0 ns) ∙ behind_first n ns (places test 0 ns) ∙ places_named test ns) (test n)
  where
    by : map (slice_get (n ∷ ns)) (places test 1 ns) ≡ map Some (filter test ns) → (b : Bool)
        → map (slice_get (n ∷ ns)) (cond b (0 ∷ places test 1 ns) (places test 1 ns)) ≡ map Some (cond b (n ∷ filter test ns) (filter test ns))
    by rest true = ap (λ os. Some n ∷ os) rest
    by rest false = rest

-- the names at the indices of the stops are the stops
pub stops_named : (test : List ℕ → Bool) (ns : List (List ℕ)) (is : List ℕ) → is ≡ places test 0 ns → map (slice_get ns) is ≡ map Some (filter test ns)
stops_named test ns is e = ap (map (slice_get ns)) e ∙ places_named test ns

-- a name is a stop if there is a tree of a stop
pub stop_is : (o : Option SourceTree) → is_some (stop_tree o) ≡ stops_at o
stop_is None = refl
stop_is (Some b) = by (stops_at (Some b))
  where
    by : (v : Bool) → is_some (cond v (Some b.tree) None) ≡ v
    by true = refl
    by false = refl

-- a trail name by name, with its stops
pub ruleset trail_steps = (trail_start, trail_bad, trail_end, trail_goes, trail_long, places_push, stops_named)
