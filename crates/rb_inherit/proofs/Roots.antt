-- The path of a tree, and what the stops of its trail have there.
use Rattle.std.proofs.Common.{◌≡◌, ◌<◌, ◌≤◌, ◌+◌, ◌-◌, ◌++◌, ℕ, zero, suc, List, [], ◌∷◌, Bool, true, false, cond, length, take, map, min, nat_lt, Option, Some, None, All, Result, Ok, Err, refl, ap, sym, ◌∙◌, subst, arith, option_map}
use Rattle.std.specs.Option.{ok_or}
use Rattle.std.specs.Prelude.{◌↔◌, IfOk}
use Rattle.std.specs.List.{onto_first, slice_split}
use Rattle.std.proofs.lemmas.Bool.{ne_eqb, le-ltb}
use Rattle.std.proofs.lemmas.List.{drop_at, length-append, length-map, take_all}
use Rattle.std.proofs.lemmas.List.Elements.{All-tail}
use Rattle.std.proofs.lemmas.List.Splits.{slice_split-cons_yes, slice_split-cons_no}
use Rattle.rb_tree.specs.Keys.{IsPlain}
use Rattle.rb_tree.specs.Path.{IsPath, is_path, is_slash, segments}
use Rattle.rb_tree.specs.declared.node.Node.{Ghosts}
use Rattle.rb_tree.proofs.Paths.{path_test}
use Rattle.rb_tree.specs.Resource.{Resource}
use Rattle.rb_tree.specs.SourceTree.{SourceTree}
use Rattle.rb_tree.specs.Walk.{Walked, ends, links, gone, walk}
use Rattle.rb_parents.specs.Trail.{Bundles, ParentsOf, Trail, names, chain, bad_parent, stops, trail}
use Rattle.rb_parents.specs.declared.fault.TrailFault.{TrailFault}
use Rattle.rb_parents.specs.declared.fault.TrailFault.TheVariants as fault
use Rattle.rb_fallback.specs.Search.{Decided, Hit, Setting, bundles_of, by_stops, by_trail, decide, go_on, is_long, level, look_up, search, setting, step, unless_gone, walk_of}
use Rattle.rb_fallback.specs.declared.fault.LookError.{LookError}
use Rattle.rb_fallback.specs.declared.fault.LookError.TheVariants as look
use Rattle.rb_inherit.specs.Merged.{Decides, IsTree, IsTreeAt, Part, Writes, at_path, ended, room_below}
use Rattle.rb_inherit.specs.inner.AtPath.{AddsStops, CanAsk, HasParts, RefusesAfter, parts_in, path_in}
use Rattle.rb_inherit.specs.inner.Earlier.{Grows, Stays, closed_of, here_of, is_open_of, layered_in}
use Rattle.rb_inherit.specs.inner.Paths.{AreFilled, is_separator, separated, steps_of}
use Rattle.rb_inherit.specs.inner.Trails.{AreStops, and_tree, refused, trees_in}
use Rattle.rb_inherit.specs.declared.error.WalkError.{WalkError}
use Rattle.rb_inherit.specs.declared.follow.Link.{Link}
use Rattle.rb_inherit.specs.declared.found.Found.{Found}
use Rattle.rb_inherit.specs.declared.found.Found.TheVariants.{Nothing}
use Rattle.rb_inherit.specs.declared.layer.Layer.{Layer}
use Rattle.rb_inherit.specs.declared.place.Level.{Level}
use Rattle.rb_inherit.proofs.AtPath.{stops_decide}

-- ---- the path with zero bytes in the place of slashes
split_separated : (path : List ℕ) → All IsPlain path → slice_split is_separator (map separated path) ≡ slice_split is_slash path
split_separated [] h = refl
split_separated (b ∷ bs) h = by (split_separated bs (All-tail IsPlain b bs h)) (is_slash b) refl
  where
    by : slice_split is_separator (map separated bs) ≡ slice_split is_slash bs → (c : Bool) → is_slash b ≡ c → slice_split is_separator (separated b ∷ map separated bs) ≡ slice_split is_slash (b ∷ bs)
    by more true e =
        let zero_byte : is_separator (separated b) ≡ true = ap (λ (c : Bool). is_separator (cond c 0 b)) e in
        slice_split-cons_yes is_separator (separated b) (map separated bs) zero_byte
        ∙ ap (λ (ss : List (List ℕ)). [] ∷ ss) more
        ∙ sym (slice_split-cons_yes is_slash b bs e)
    by more false e =
        let same : separated b ≡ b = ap (λ (c : Bool). cond c 0 b) e in
        let plain = h 0 0 (omega arith) in
        let low : is_separator b ≡ false = ne_eqb b 0 (λ z. omega (arith, plain.0)) in
        slice_split-cons_no is_separator (separated b) (map separated bs) (ap is_separator same ∙ low)
        ∙ ap (onto_first (separated b)) more
        ∙ ap (λ (x : ℕ). onto_first x (slice_split is_slash bs)) same
        ∙ sym (slice_split-cons_no is_slash b bs e)

pub steps_separated : (path : List ℕ) → IsPath path → steps_of (map separated path) ≡ segments path
steps_separated [] h = refl
steps_separated (b ∷ bs) h = split_separated (b ∷ bs) h.plain

pub separated_filled : (path : List ℕ) → IsPath path → AreFilled (steps_of (map separated path))
separated_filled path h = rw (steps_separated path h) h.filled

-- ---- the level of the root
pub room_low : (n : ℕ) → room_below n ≤ 1025
room_low zero = omega arith
room_low (suc n) = omega arith

pub path_there : (paths path : List ℕ) (level : Level) → level.path_at ≡ length paths → level.path_len ≡ length path
    → path_in (paths ++ path) level ≡ path
path_there paths path level a l =
    ap (take level.path_len) (drop_at paths path level.path_at (sym a)) ∙ take_all level.path_len path (omega arith)

-- ---- the stops
pub at_trees : (most : ℕ) (bundles : Bundles) (ns ss : List (List ℕ)) → parts_in most (trees_in bundles ns) ss ≡ at_path most bundles ns ss
at_trees most bundles [] ss = refl
at_trees most bundles (n ∷ ns) ss = by (at_trees most bundles ns ss) (bundles n)
  where
    by : parts_in most (trees_in bundles ns) ss ≡ at_path most bundles ns ss → (o : Option SourceTree) → parts_in most (and_tree (option_map (λ b. b.tree) o) (trees_in bundles ns)) ss
        ≡ ended most (walk_of o ss) ++ at_path most bundles ns ss
    by more None = more
    by more (Some b) = ap (λ (l : List Part). ended most (walk b.tree ss) ++ l) more

pub some_trees : (most : ℕ) (ts : List Resource) (ss : List (List ℕ)) → 0 < length (parts_in most ts ss) → 0 < length ts
some_trees most [] ss h = h
some_trees most (t ∷ ts) ss h = omega arith

pub not_refused : (t : Trail) (ns : List (List ℕ)) (f : TrailFault) → t ≡ names ns → t ≡ refused f → ⊥
not_refused t ns fault.Chain e g = cc
not_refused t ns fault.BadParent e g = cc

pub known_trees : {N : Type 0} (tree : N → Resource) (bundles : Bundles) (parents : ParentsOf) (n : List ℕ) (roots : List N) (ns : List (List ℕ))
    → AreStops tree bundles parents n roots → trail bundles parents n ≡ names ns → map tree roots ≡ trees_in bundles (stops bundles ns)
known_trees tree bundles parents n roots ns a e =
    let same : a.ns ≡ ns = let is : names a.ns ≡ names ns = sym a.trail ∙ e in cc in
    a.trees ∙ ap (λ (l : List (List ℕ)). trees_in bundles (stops bundles l)) same

-- ---- a lookup that finds something
some_decided : (most : ℕ) (bundles : Bundles) (ns ss : List (List ℕ)) (d : Decided) → decide bundles ns ss ≡ Some d
    → 0 < length (at_path most bundles ns ss)
some_decided most bundles [] ss d e = absurd cc
some_decided most bundles (n ∷ ns) ss d e = by (λ f. some_decided most bundles ns ss d f) (walk_of (bundles n) ss) e
  where
    by : (decide bundles ns ss ≡ Some d → 0 < length (at_path most bundles ns ss)) → (w : Walked) → unless_gone n w (decide bundles ns ss) ≡ Some d → 0 < length (ended most w ++ at_path most bundles ns ss)
    by more (ends t) f = omega arith
    by more (links us walked rest) f = omega arith
    by more gone f = more f

decided_some : (o : Option Decided) (d : Decided) → ok_or o look.Missing ≡ Ok d → o ≡ Some d
decided_some None d e = cc
decided_some (Some c) d e = cc

by_stops_some : (most : ℕ) (bundles : Bundles) (ns ss : List (List ℕ)) (d : Decided) → by_stops bundles ns ss ≡ Ok d
    → 0 < length (at_path most bundles ns ss)
by_stops_some most bundles [] ss d e = absurd cc
by_stops_some most bundles (n ∷ ns) ss d e = some_decided most bundles (n ∷ ns) ss d (decided_some (decide bundles (n ∷ ns) ss) d e)

record Level_ok (r : Result Decided LookError) : Type 0 where
  decided : Decided
  is : r ≡ Ok decided

step_ok : (go : Bool → List ℕ → List (List ℕ) → Result Hit LookError) (in_icu : Bool) (valid : List ℕ) (r : Result Decided LookError) (hit : Hit)
    → go_on go (step in_icu valid r) ≡ Ok hit → Level_ok r
step_ok go in_icu valid (Err f) hit e = absurd cc
step_ok go in_icu valid (Ok d) hit e = record { decided = d; is = refl }

search_ok : (k : ℕ) (s : Setting) (in_icu : Bool) (n : List ℕ) (ss : List (List ℕ)) (hit : Hit) → search k s in_icu n ss ≡ Ok hit
    → Level_ok (level (bundles_of s.own s.icu in_icu) s.parents n ss)
unfolding search
search_ok zero s in_icu n ss hit e = absurd cc
search_ok (suc k) s in_icu n ss hit e = by (is_long ss) e
  where
    by : (b : Bool) → cond b (Err look.PathTooLong)
        (go_on (λ p m ts. search k s p m ts) (step in_icu s.valid (level (bundles_of s.own s.icu in_icu) s.parents n ss))) ≡ Ok hit
        → Level_ok (level (bundles_of s.own s.icu in_icu) s.parents n ss)
    by true f = absurd cc
    by false f = step_ok (λ p m ts. search k s p m ts) in_icu s.valid (level (bundles_of s.own s.icu in_icu) s.parents n ss) hit f

trail_parts : (bundles : Bundles) (parents : ParentsOf) (n path : List ℕ) (t : Trail) (d : Decided) → trail bundles parents n ≡ t
    → by_trail bundles t (segments path) ≡ Ok d → HasParts bundles parents n path
trail_parts bundles parents n path (names ns) d t e = record {
  ns = ns;
  trail = t;
  some = by_stops_some (room_below (length path)) bundles (stops bundles ns) (segments path) d e;
}
trail_parts bundles parents n path chain d t e = absurd cc
trail_parts bundles parents n path bad_parent d t e = absurd cc

-- a lookup that finds something has a stop with something at the path
pub found_parts : (own icu : Bundles) (parents : ParentsOf) (n path : List ℕ) (hit : Hit) → look_up own icu parents n (segments path) ≡ Ok hit
    → HasParts own parents n path
found_parts own icu parents n path hit e =
    let ok = search_ok 256 (setting own icu parents n) false n (segments path) hit e in
    trail_parts own parents n path (trail own parents n) ok.decided refl ok.is

-- ---- what the root of a tree has
pub root_adds : {N : Type 0} {G : Ghosts N} (tree : N → Resource) (bundles : Bool → Bundles) (parents : ParentsOf) (n path paths keys all : List ℕ)
    (level : Level) (begin : ℕ) (found : Found N) (o : Option (Link N)) (old now : List (Layer N G)) (Kept : Type 0)
    → all ≡ paths ++ map separated path → begin ≡ length paths → level.icudata ≡ false → level.path_at ≡ begin → level.path_len ≡ length all - begin
    → level.keys_most ≡ min 18446744073709551615 (length keys + room_below level.path_len) → keys ≡ [] → old ≡ [] → IsPath path
    → (p : HasParts (bundles false) parents n path) → Kept
    → (CanAsk {N = N} (length keys) all level Nothing → Kept → (ns : List (List ℕ)) → trail (bundles level.icudata) parents n ≡ names ns
    → 0 < length (trees_in (bundles level.icudata) (stops (bundles level.icudata) ns))
    → AddsStops tree (length keys)
    (parts_in level.keys_most (trees_in (bundles level.icudata) (stops (bundles level.icudata) ns)) (steps_of (path_in all level))) Nothing old found o now)
    → AddsStops tree 0 (at_path (room_below (length path)) (bundles false) (stops (bundles false) p.ns) (segments path)) Nothing [] found o now
root_adds {N} {G} tree bundles parents n path paths keys all level begin found o old now Kept is at icu path_at path_len most no_keys no_layers ok p kept f =
    let ns = p.ns in
    let ss = segments path in
    let room = room_below (length path) in
    let long : length all ≡ length paths + length path =
    ap (λ (l : List ℕ). length l) is ∙ length-append paths (map separated path) ∙ ap (λ (k : ℕ). length paths + k) (length-map path separated) in
    let len : level.path_len ≡ length path = omega arith in
    let whole : path_in all level ≡ map separated path =
    ap (λ (l : List ℕ). path_in l level) is ∙ path_there paths (map separated path) level (path_at ∙ at) (len ∙ sym (length-map path separated)) in
    let steps : steps_of (path_in all level) ≡ ss = ap steps_of whole ∙ steps_separated path ok in
    let low = room_low (length path) in
    let none : length keys ≡ 0 = ap (λ (l : List ℕ). length l) no_keys in
    let capped : min 18446744073709551615 (length keys + room) ≡ room = omega (arith, none, low) in
    let limit : level.keys_most ≡ room = most ∙ (ap (λ (k : ℕ). min 18446744073709551615 (length keys + room_below k)) len ∙ capped) in
    let short : nat_lt level.keys_most (length keys) ≡ false = le-ltb level.keys_most (length keys) (omega (arith, none)) in
    let can : CanAsk {N = N} (length keys) all level Nothing = record {
      is = record { is_open = refl; short = short };
      within = omega arith;
      filled = subst AreFilled (sym steps) ok.filled;
    } in
    let same : parts_in room (trees_in (bundles false) (stops (bundles false) ns)) ss ≡ at_path room (bundles false) (stops (bundles false) ns) ss =
    at_trees room (bundles false) (stops (bundles false) ns) ss in
    let some : 0 < length (trees_in (bundles false) (stops (bundles false) ns)) =
    some_trees room (trees_in (bundles false) (stops (bundles false) ns)) ss (subst (λ (l : List Part). 0 < length l) (sym same) p.some) in
    let asked = f can kept ns (subst (λ (i : Bool). trail (bundles i) parents n ≡ names ns) (sym icu) p.trail)
    (subst (λ (i : Bool). 0 < length (trees_in (bundles i) (stops (bundles i) ns))) (sym icu) some) in
    let own : parts_in level.keys_most (trees_in (bundles level.icudata) (stops (bundles level.icudata) ns)) (steps_of (path_in all level))
    ≡ at_path room (bundles false) (stops (bundles false) ns) ss =
    ap (λ (i : Bool). parts_in level.keys_most (trees_in (bundles i) (stops (bundles i) ns)) (steps_of (path_in all level))) icu
    ∙ (ap (λ (k : ℕ). parts_in k (trees_in (bundles false) (stops (bundles false) ns)) (steps_of (path_in all level))) limit
    ∙ (ap (λ (l : List (List ℕ)). parts_in room (trees_in (bundles false) (stops (bundles false) ns)) l) steps ∙ same)) in
    subst (λ (l : List (Layer N G)). AddsStops tree 0 (at_path room (bundles false) (stops (bundles false) ns) ss) Nothing l found o now) no_layers
    (subst (λ (k : ℕ). AddsStops tree k (at_path room (bundles false) (stops (bundles false) ns) ss) Nothing old found o now) none
    (subst (λ (l : List Part). AddsStops tree (length keys) l Nothing old found o now) own asked))

-- what was found decides, whatever the aliases on the way lead to
pub ok_decides : {N : Type 0} {G : Ghosts N} (tree : N → Resource) (ps : List Part) (found : Found N) (o : Option (Link N)) (now new : List (Layer N G))
    (r : Result (Found N) WalkError) → 0 < length ps → AddsStops tree 0 ps Nothing [] found o now → IfOk r (Stays found)
    → IfOk r (λ after. is_open_of after ≡ false) → IfOk r (λ _. Grows now new) → (o ≡ None → IfOk r (λ after. after ≡ closed_of found))
    → (o ≡ None → new ≡ now) → IfOk r (λ after. RefusesAfter tree o found now after new)
    → IfOk r (λ after. Decides 0 ps (here_of tree after (layered_in tree new)))
ok_decides tree ps found o now new (Ok after) h a s c g f l x = stops_decide tree 0 ps found after o now new h a s c g f l x
ok_decides tree ps found o now new (Err e) h a s c g f l x = tt

-- ---- what is written
pub tree_written : {N : Type 0} {G : Ghosts N} (tree : N → Resource) (Takes : List ℕ → Type 0) (bundles : Bundles) (parents : ParentsOf) (n path : List ℕ)
    (p : HasParts bundles parents n path) (found : Found N) (keys old : List ℕ) (layers : List (Layer N G)) (r : Result (Unit {0}) WalkError) (If : Type 0)
    → keys ≡ old → old ≡ [] → Decides 0 (at_path (room_below (length path)) bundles (stops bundles p.ns) (segments path)) (here_of tree found (layered_in tree layers))
    → IfOk r (λ _. Writes Takes (IsTree 64 (length keys) (here_of tree found (layered_in tree layers))))
    → IfOk r (λ _. If → Writes Takes (IsTreeAt bundles parents n path))
tree_written tree Takes bundles parents n path p found keys old layers (Ok u) If e f d w =
    let h = here_of tree found (layered_in tree layers) in
    λ i. record {
      value = w.value;
      takes = w.takes;
      is = record {
        ns = p.ns;
        trail = p.trail;
        here = h;
        decides = d;
        value = subst (λ (l : List ℕ). IsTree 64 (length l) h w.value) (e ∙ f) w.is;
      };
    }
tree_written tree Takes bundles parents n path p found keys old layers (Err x) If e f d w = tt

pub found_path : {A : Type 0} (path : List ℕ) (x : A) → ((let r : Result A LookError = Ok x in r ≡ Err look.BadPath) ↔ (IsPath path → ⊥)) → IsPath path
found_path path x bad = by (is_path path) refl
  where
    by : (b : Bool) → is_path path ≡ b → IsPath path
    by true e = (path_test path).0 e
    by false e = absurd (let no : IsPath path → ⊥ = λ h. let t = (path_test path).1 h in cc in let f = bad.1 no in cc)
