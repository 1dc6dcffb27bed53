-- The layers of a walk as tables that are merged: the next keys, and the layers after the least of them.
use Rattle.std.proofs.Common.{◌≡◌, ◌<◌, ◌≤◌, ℕ, zero, suc, List, [], ◌∷◌, ◌++◌, Bool, true, false, ◌||◌, cond, Option, Some, None, option_and_then, length, map, drop, nat_eq, refl, sym, ap, subst, ◌∙◌, arith, slice_get}
use Rattle.std.proofs.lemmas.Option.{slice_get_within}
use Rattle.std.proofs.lemmas.Slice.Eq.{bytes_eq-Decides}
use Rattle.std.specs.List.{AllByRecursion}
use Rattle.std.specs.Map.{keys_of, values_of}
use Rattle.std.specs.Cmp.Lexicographic.{pointwise}
use Rattle.rb_tree.specs.Keys.{pairs}
use Rattle.rb_tree.specs.Resource.{Resource, table}
use Rattle.rb_tree.specs.Parts.{children_of, pairs_of}
use Rattle.rb_tree.specs.declared.node.Node.{Ghosts}
use Rattle.rb_inherit.specs.declared.layer.Layer.{Layer}
use Rattle.rb_inherit.specs.Merged.{Ascends, Layered, Part, all_keys, with_keys}
use Rattle.rb_inherit.specs.inner.Earlier.{layered_in, layered_of}
use Rattle.rb_inherit.specs.inner.Merging.{IsLeast, is_key, key_in, key_of, moved, next_parts, part_if, precedes}
use Rattle.rb_inherit.proofs.Keys.{AllNext, after, after_key, has, head_is, head_part, head_parts, next_is, not_less}

-- ---- an entry by its index
drop_none : {A : Type 0} (i : ℕ) → drop i (let e : List A = [] in e) ≡ []
drop_none zero = refl
drop_none (suc i) = refl

after_none : (k : List ℕ) (i : ℕ) → drop i (let e : List (List ℕ × Resource) = [] in e) ≡ after_key k (drop i [])
after_none k zero = refl
after_none k (suc i) = refl

after_by : (b : Bool) (e : List ℕ × Resource) (es : List (List ℕ × Resource)) → drop (cond b 1 0) (e ∷ es) ≡ cond b es (e ∷ es)
after_by true e es = refl
after_by false e es = refl

after_suc : (b : Bool) (i : ℕ) (e : List ℕ × Resource) (es : List (List ℕ × Resource)) → drop (cond b (suc (suc i)) (suc i)) (e ∷ es) ≡ drop (cond b (suc i) i) es
after_suc true i e es = refl
after_suc false i e es = refl

entries_after : (k : List ℕ) (es : List (List ℕ × Resource)) (i : ℕ) → drop (cond (is_key k (slice_get (keys_of es) i)) (suc i) i) es ≡ after_key k (drop i es)
entries_after k [] i = after_none k i
entries_after k (e ∷ es) zero = after_by (pointwise nat_eq k e.0) e es
entries_after k (e ∷ es) (suc i) = after_suc (is_key k (slice_get (keys_of es) i)) i e es ∙ entries_after k es i

part_none : (k : List ℕ) (i most : ℕ) → (let none : List Part = [] in none) ≡ head_part k (drop i []) most
part_none k zero most = refl
part_none k (suc i) most = refl

part_by : (b : Bool) (t : Resource) (most : ℕ) → part_if b (Some t) most ≡ cond b (record { tree = t; most = most } ∷ []) []
part_by true t most = refl
part_by false t most = refl

entries_part : (k : List ℕ) (es : List (List ℕ × Resource)) (i most : ℕ)
    → part_if (is_key k (slice_get (keys_of es) i)) (slice_get (values_of es) i) most ≡ head_part k (drop i es) most
entries_part k [] i most = part_none k i most
entries_part k (e ∷ es) zero most = part_by (pointwise nat_eq k e.0) e.1 most
entries_part k (e ∷ es) (suc i) most = entries_part k es i most

head_none : (k : List ℕ) (i : ℕ) → false ≡ head_is k (drop i [])
head_none k zero = refl
head_none k (suc i) = refl

entries_head : (k : List ℕ) (es : List (List ℕ × Resource)) (i : ℕ) → is_key k (slice_get (keys_of es) i) ≡ head_is k (drop i es)
entries_head k [] i = head_none k i
entries_head k (e ∷ es) zero = refl
entries_head k (e ∷ es) (suc i) = entries_head k es i

less_none : (k : List ℕ) (i : ℕ) → not_less k (drop i []) ≡ false
less_none k zero = refl
less_none k (suc i) = refl

entries_less : (k : List ℕ) (es : List (List ℕ × Resource)) (i : ℕ) → precedes (slice_get (keys_of es) i) (Some k) ≡ false → not_less k (drop i es) ≡ false
entries_less k [] i h = less_none k i
entries_less k (e ∷ es) zero h = h
entries_less k (e ∷ es) (suc i) h = entries_less k es i h

entries_end : (es : List (List ℕ × Resource)) (i : ℕ) → precedes (slice_get (keys_of es) i) None ≡ false → drop i es ≡ []
entries_end [] i h = drop_none i
entries_end (e ∷ es) zero h = absurd cc
entries_end (e ∷ es) (suc i) h = entries_end es i h

-- ---- layers
part_at : (t : Resource) (k : List ℕ) (i most : ℕ)
    → part_if (is_key k (key_of t i)) (slice_get (children_of t) i) most ≡ head_part k (drop i (pairs_of t)) most
part_at (table es) k i most = entries_part k (pairs es) i most
part_at _ k i most = part_none k i most

pub parts_next : {N : Type 0} {G : Ghosts N} (tree : N → Resource) (k : List ℕ) (ls : List (Layer N G))
    → next_parts tree k ls ≡ head_parts k (layered_in tree ls)
parts_next tree k [] = refl
parts_next tree k (l ∷ ls) =
    ap (λ (ps : List Part). ps ++ next_parts tree k ls) (part_at (tree l.table.node) k l.at l.level.keys_most)
    ∙ ap (λ (ps : List Part). head_part k (drop l.at (pairs_of (tree l.table.node))) l.level.keys_most ++ ps) (parts_next tree k ls)

one_moved : {N : Type 0} {G : Ghosts N} (tree : N → Resource) (k : List ℕ) (l : Layer N G) → layered_of tree (moved tree k l) ≡ after k (layered_of tree l)
one_moved tree k l =
    ap (λ (es : List (List ℕ × Resource)). let r : Layered = record { entries = es; most = l.level.keys_most } in r) (entries_after k (pairs_of (tree l.table.node)) l.at)

pub all_moved : {N : Type 0} {G : Ghosts N} (tree : N → Resource) (k : List ℕ) (ls : List (Layer N G))
    → layered_in tree (map (λ l. moved tree k l) ls) ≡ map (after k) (layered_in tree ls)
all_moved tree k [] = refl
all_moved tree k (l ∷ ls) =
    ap (λ (x : Layered). x ∷ layered_in tree (map (λ m. moved tree k m) ls)) (one_moved tree k l)
    ∙ ap (λ (xs : List Layered). after k (layered_of tree l) ∷ xs) (all_moved tree k ls)

-- what holds of each index holds of the layers from an index on
from_index : {A : Type 0} (P : A → Type 0) (xs : List A) (from : ℕ) → ((i : ℕ) (x : A) → from ≤ i → slice_get xs i ≡ Some x → P x)
    → AllByRecursion P (drop from xs)
from_index P [] zero h = tt
from_index P [] (suc from) h = tt
from_index P (x ∷ xs) zero h = (h zero x (omega arith) refl, from_index P xs zero (λ i y le e. h (suc i) y (omega arith) e))
from_index P (x ∷ xs) (suc from) h = from_index P xs from (λ i y le e. h (suc i) y (omega arith) e)

each_next : {N : Type 0} {G : Ghosts N} (tree : N → Resource) (k : List ℕ) (ls : List (Layer N G)) → AllByRecursion Ascends (layered_in tree ls)
    → AllByRecursion (λ l. precedes (key_of (tree l.table.node) l.at) (Some k) ≡ false) ls → AllNext k (layered_in tree ls)
each_next tree k [] a h = tt
each_next tree k (l ∷ ls) a h =
    (next_is k (drop l.at (pairs_of (tree l.table.node))) a.0 (entries_less k (pairs_of (tree l.table.node)) l.at h.0), each_next tree k ls a.1 h.1)

each_end : {N : Type 0} {G : Ghosts N} (tree : N → Resource) (ls : List (Layer N G))
    → AllByRecursion (λ l. precedes (key_of (tree l.table.node) l.at) None ≡ false) ls → all_keys (layered_in tree ls) ≡ []
each_end tree [] h = refl
each_end tree (l ∷ ls) h =
    ap (λ (es : List (List ℕ × Resource)). with_keys es (all_keys (layered_in tree ls))) (entries_end (pairs_of (tree l.table.node)) l.at h.0)
    ∙ each_end tree ls h.1

each_least : {N : Type 0} {G : Ghosts N} (tree : N → Resource) (ls : List (Layer N G)) (from to least : ℕ) (o : Option (List ℕ)) → length ls ≤ to
    → IsLeast (key_in tree ls) from to least → key_in tree ls least ≡ o
    → AllByRecursion (λ l. precedes (key_of (tree l.table.node) l.at) o ≡ false) (drop from ls)
each_least {N} {G} tree ls from to least o le is e =
    from_index (λ (l : Layer N G). precedes (key_of (tree l.table.node) l.at) o ≡ false) ls from
    (λ i l ge got.
    let lt : i < to = omega (arith, slice_get_within ls i l got) in
    let key : key_in tree ls i ≡ key_of (tree l.table.node) l.at = ap (λ (p : Option (Layer N G)). option_and_then (λ m. key_of (tree m.table.node) m.at) p) got in
    subst (λ (q : Option (List ℕ)). precedes q o ≡ false) key (subst (λ (q : Option (List ℕ)). precedes (key_in tree ls i) q ≡ false) e (is.others i ge lt)))

-- no layer has a key above the least one
pub next_least : {N : Type 0} {G : Ghosts N} (tree : N → Resource) (ls : List (Layer N G)) (from to least : ℕ) (k : List ℕ) → length ls ≤ to
    → IsLeast (key_in tree ls) from to least → key_in tree ls least ≡ Some k → AllByRecursion Ascends (layered_in tree (drop from ls))
    → AllNext k (layered_in tree (drop from ls))
next_least tree ls from to least k le is e a = each_next tree k (drop from ls) a (each_least tree ls from to least (Some k) le is e)

pub end_least : {N : Type 0} {G : Ghosts N} (tree : N → Resource) (ls : List (Layer N G)) (from to least : ℕ) → length ls ≤ to
    → IsLeast (key_in tree ls) from to least → key_in tree ls least ≡ None → all_keys (layered_in tree (drop from ls)) ≡ []
end_least tree ls from to least le is e = each_end tree (drop from ls) (each_least tree ls from to least None le is e)

or_true : (b : Bool) → (b || true) ≡ true
or_true true = refl
or_true false = refl

true_or : (a b : Bool) → a ≡ true → (a || b) ≡ true
true_or true b h = refl
true_or false b h = absurd cc

head_true : (t : Resource) (i : ℕ) (k : List ℕ) → key_of t i ≡ Some k → head_is k (drop i (pairs_of t)) ≡ true
head_true t i k e = sym (entries_head k (pairs_of t) i) ∙ (ap (is_key k) e ∙ (bytes_eq-Decides k k).1 refl)

-- the least key is one of those of the layers
pub has_least : {N : Type 0} {G : Ghosts N} (tree : N → Resource) (ls : List (Layer N G)) (from i : ℕ) (k : List ℕ) → from ≤ i → key_in tree ls i ≡ Some k
    → has k (layered_in tree (drop from ls)) ≡ true
has_least tree [] from i k le e = absurd cc
has_least tree (l ∷ ls) zero zero k le e = true_or (head_is k (drop l.at (pairs_of (tree l.table.node)))) (has k (layered_in tree ls)) (head_true (tree l.table.node) l.at k e)
has_least tree (l ∷ ls) zero (suc i) k le e =
    ap (λ (b : Bool). head_is k (drop l.at (pairs_of (tree l.table.node))) || b) (has_least tree ls zero i k (omega arith) e)
    ∙ or_true (head_is k (drop l.at (pairs_of (tree l.table.node))))
has_least tree (l ∷ ls) (suc from) zero k le e = absurd (omega arith)
has_least tree (l ∷ ls) (suc from) (suc i) k le e = has_least tree ls from i k (omega arith) e
