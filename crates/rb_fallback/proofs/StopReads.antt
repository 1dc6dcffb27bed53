-- The stops of a trail, read one by one.
use Rattle.std.proofs.Common.{◌≡◌, ◌+◌, ◌≤◌, ℕ, zero, suc, List, [], ◌∷◌, length, drop, Bool, true, false, cond, Option, Some, None, Err, refl, ap, sym, ◌∙◌, arith, codes, unwrap_or, option_map, drop-cons}
use Rattle.std.specs.Option.{ok_or, option_and_then}
use Rattle.std.specs.List.{filter, slice_get}
use Rattle.std.proofs.lemmas.Option.{get_or_from_slice_get, slice_get_within}
use Rattle.rb_tree.specs.Resource.{Resource}
use Rattle.rb_tree.specs.SourceTree.{SourceTree}
use Rattle.rb_tree.specs.Walk.{walk, stop_of, nowhere}
use Rattle.rb_tree.specs.Ending.{stop_at}
use Rattle.rb_tree.specs.declared.ending.Ending.{Ending}
use Rattle.rb_tree.specs.declared.ending.Ending.TheVariants.{End, Link, Gone}
use Rattle.rb_parents.specs.Trail.{Bundles, is_stop, stops_at, stop_tree, stops}
use Rattle.rb_fallback.specs.Search.{by_stops, decide, first_of, unless_gone}
use Rattle.rb_fallback.specs.declared.fault.LookError.TheVariants as fault
use Rattle.rb_fallback.specs.Stops.{stop_among, with_tree}
use Rattle.rb_fallback.proofs.Scans.{is_gone, not_gone, stop_some, stop_walk}

abbrev pub tree_read : Option (List ℕ × Resource) → Option Resource
tree_read o = option_map (λ s. s.1) o

abbrev pub name_read : Option (List ℕ × Resource) → Option (List ℕ)
name_read o = option_map (λ s. s.0) o

-- ---- lists by their indices
drop_from : {A : Type 0} (l : List A) (i : ℕ) (x : A) → slice_get l i ≡ Some x → drop i l ≡ x ∷ drop (suc i) l
drop_from l i x e = drop-cons l i x (slice_get_within l i x e) ∙ ap (λ y. y ∷ drop (suc i) l) (get_or_from_slice_get l i x x e)

drop_past : {A : Type 0} (l : List A) (i : ℕ) → slice_get l i ≡ None → drop i l ≡ []
drop_past [] zero e = refl
drop_past [] (suc i) e = refl
drop_past (x ∷ l) zero e = cc
drop_past (x ∷ l) (suc i) e = drop_past l i e

pub drop_long : {A : Type 0} (l : List A) (i : ℕ) → length l ≤ i → drop i l ≡ []
drop_long [] zero e = refl
drop_long [] (suc i) e = refl
drop_long (x ∷ l) zero e = absurd (omega arith)
drop_long (x ∷ l) (suc i) e = drop_long l i (omega arith)

passes : {A : Type 0} (p : A → Bool) (l : List A) (i : ℕ) (x : A) → slice_get (filter p l) i ≡ Some x → p x ≡ true
passes p [] i x e = cc
passes p (y ∷ l) i x e = by (λ k g. passes p l k x g) (p y) refl i e
  where
    by : ((k : ℕ) → slice_get (filter p l) k ≡ Some x → p x ≡ true) → (b : Bool) → p y ≡ b → (i : ℕ)
        → slice_get (cond b (y ∷ filter p l) (filter p l)) i ≡ Some x → p x ≡ true
    by later true f zero g = let same : y ≡ x = cc in ap p (sym same) ∙ f
    by later true f (suc i) g = later i g
    by later false f i g = later i g

pub length_filter : {A : Type 0} (p : A → Bool) (l : List A) → length (filter p l) ≤ length l
length_filter p [] = omega arith
length_filter p (y ∷ l) = by (length_filter p l) (p y)
  where
    by : length (filter p l) ≤ length l → (b : Bool) → length (cond b (y ∷ filter p l) (filter p l)) ≤ suc (length l)
    by few true = omega arith
    by few false = omega arith

-- ---- what is read of a stop
record IsRead (b : Bundles) (ns : List (List ℕ)) (i : ℕ) (t : Resource) : Type 0 where
  pub name : List ℕ
  pub at : slice_get (stops b ns) i ≡ Some name
  pub has : stop_tree (b name) ≡ Some t

read_tree : (b : Bundles) (ns : List (List ℕ)) (i : ℕ) (t : Resource) → Some t ≡ tree_read (stop_among b ns i) → IsRead b ns i t
read_tree b ns i t e = by (slice_get (stops b ns) i) refl e
  where
    tree_of : (n : List ℕ) (o : Option Resource) → Some t ≡ tree_read (option_map (λ u. (n, u)) o) → o ≡ Some t
    tree_of n None e = cc
    tree_of n (Some u) e = sym e

    by : (o : Option (List ℕ)) → slice_get (stops b ns) i ≡ o → Some t ≡ tree_read (option_and_then (with_tree b) o) → IsRead b ns i t
    by None f e = cc
    by (Some n) f e = record { name = n; at = f; has = tree_of n (stop_tree (b n)) e }

stop_has : (o : Option SourceTree) → stops_at o ≡ true → None ≡ stop_tree o → ⊥
stop_has None e f = cc
stop_has (Some s) e f = by (stops_at (Some s)) e f
  where
    by : (b : Bool) → b ≡ true → None ≡ cond b (Some s.tree) None → ⊥
    by true g h = cc
    by false g h = cc

none_in : {A : Type 0} (pick : List ℕ × Resource → A) (b : Bundles) (ns : List (List ℕ)) (i : ℕ) → None ≡ option_map pick (stop_among b ns i)
    → slice_get (stops b ns) i ≡ None
none_in pick b ns i e = by (slice_get (stops b ns) i) refl e
  where
    no_tree : (n : List ℕ) (o : Option Resource) → None ≡ option_map pick (option_map (λ u. (n, u)) o) → None ≡ o
    no_tree n None e = refl
    no_tree n (Some u) e = cc

    by : (o : Option (List ℕ)) → slice_get (stops b ns) i ≡ o → None ≡ option_map pick (option_and_then (with_tree b) o) → o ≡ None
    by None f e = refl
    by (Some n) f e = absurd (stop_has (b n) (passes (is_stop b) ns i n f) (no_tree n (stop_tree (b n)) e))

pub no_stop : (b : Bundles) (ns : List (List ℕ)) (i : ℕ) → None ≡ tree_read (stop_among b ns i) → slice_get (stops b ns) i ≡ None
no_stop b ns i e = none_in (λ s. s.1) b ns i e

pub no_name : (b : Bundles) (ns : List (List ℕ)) (i : ℕ) → None ≡ name_read (stop_among b ns i) → slice_get (stops b ns) i ≡ None
no_name b ns i e = none_in (λ s. s.0) b ns i e

pub some_name : (b : Bundles) (ns : List (List ℕ)) (i : ℕ) (n : List ℕ) → Some n ≡ name_read (stop_among b ns i) → slice_get (stops b ns) i ≡ Some n
some_name b ns i n e = by (slice_get (stops b ns) i) refl e
  where
    name_of : (m : List ℕ) (o : Option Resource) → Some n ≡ name_read (option_map (λ u. (m, u)) o) → m ≡ n
    name_of m None e = cc
    name_of m (Some u) e = let same : n ≡ m = cc in sym same

    by : (o : Option (List ℕ)) → slice_get (stops b ns) i ≡ o → Some n ≡ name_read (option_and_then (with_tree b) o) → o ≡ Some n
    by None f e = cc
    by (Some m) f e = ap Some (name_of m (stop_tree (b m)) e)

-- ---- the decision among the stops from an index on
module _ (b : Bundles) (ns : List (List ℕ)) (i : ℕ) (ss : List (List ℕ)) where
  decide_here : (n : List ℕ) (t : Resource) → slice_get (stops b ns) i ≡ Some n → stop_tree (b n) ≡ Some t
      → decide b (drop i (stops b ns)) ss ≡ unless_gone n (walk t ss) (decide b (drop (suc i) (stops b ns)) ss)
  decide_here n t at has =
      ap (λ l. decide b l ss) (drop_from (stops b ns) i n at)
      ∙ ap (λ w. unless_gone n w (decide b (drop (suc i) (stops b ns)) ss)) (stop_walk (b n) t ss (stop_some (b n) t has).1)

  -- a stop from which the path leads nowhere decides nothing
  pub goes_past : (t : Resource) (j : ℕ) → j ≡ i + 1 → Some t ≡ tree_read (stop_among b ns i) → nowhere ≡ stop_of (walk t ss)
      → decide b (drop i (stops b ns)) ss ≡ decide b (drop j (stops b ns)) ss
  goes_past t j next e gone =
      let r = read_tree b ns i t e in
      let same : suc i ≡ j = omega (arith, next) in
      decide_here r.name t r.at r.has
      ∙ is_gone (walk t ss) r.name _ gone
      ∙ ap (λ k. decide b (drop k (stops b ns)) ss) same

  -- another one decides
  pub decides_here : (t : Resource) (n : List ℕ) → Some t ≡ tree_read (stop_among b ns i) → Some n ≡ name_read (stop_among b ns i)
      → (stop_of (walk t ss) ≡ nowhere → ⊥) → decide b (drop i (stops b ns)) ss ≡ Some (record { stop = n; walked = walk t ss })
  decides_here t n e f some =
      let r = read_tree b ns i t e in
      let is : Some n ≡ Some r.name = sym (some_name b ns i n f) ∙ r.at in
      let same : r.name ≡ n = cc in
      decide_here r.name t r.at r.has
      ∙ not_gone (walk t ss) r.name _ some
      ∙ ap (λ (m : List ℕ). Some (record { stop = m; walked = walk t ss })) same

  -- after the last stop none is left
  pub decides_none : slice_get (stops b ns) i ≡ None → decide b (drop i (stops b ns)) ss ≡ None
  decides_none e = ap (λ l. decide b l ss) (drop_past (stops b ns) i e)

  pub decides_last : length ns ≤ i → decide b (drop i (stops b ns)) ss ≡ None
  decides_last h = ap (λ l. decide b l ss) (drop_long (stops b ns) i (omega (arith, length_filter (is_stop b) ns)))

-- ---- the first stop
pub first_get : (l : List (List ℕ)) → first_of l ≡ slice_get l 0
first_get [] = refl
first_get (n ∷ l) = refl

pub stops_some : (b : Bundles) (l ss : List (List ℕ)) (n : List ℕ) → slice_get l 0 ≡ Some n → by_stops b l ss ≡ ok_or (decide b l ss) fault.Missing
stops_some b [] ss n e = cc
stops_some b (m ∷ l) ss n e = refl

pub stops_none : (b : Bundles) (l ss : List (List ℕ)) → slice_get l 0 ≡ None → by_stops b l ss ≡ Err fault.NoBundle
stops_none b [] ss e = refl
stops_none b (m ∷ l) ss e = cc

-- a walk that doesn't end nowhere
pub somewhere : {N : Type 0} (tree : N → Resource) (x : Ending N) → (x ≡ Gone → ⊥) → stop_at tree x ≡ nowhere → ⊥
somewhere tree Gone h e = h refl
somewhere tree (End n) h e = cc
somewhere tree (Link n k) h e = cc

-- a stop that is there has a name
pub named_stop : {N : Type 0} (tree : N → Resource) (r : Option N) (o : Option (List ℕ × Resource)) → option_map tree r ≡ tree_read o
    → (r ≡ None → ⊥) → name_read o ≡ Some (unwrap_or (name_read o) (codes "root"))
named_stop tree None o e h = absurd (h refl)
named_stop tree (Some x) None e h = cc
named_stop tree (Some x) (Some s) e h = refl
