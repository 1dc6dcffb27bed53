-- The keys of merged tables: the least next key is the first of all keys, and the tables after it have the others.
use Rattle.std.proofs.Common.{◌≡◌, ◌⊎◌, inl, inr, ℕ, List, [], ◌∷◌, ◌++◌, Bool, true, false, ◌||◌, cond, Option, Some, None, map, nat_eq, refl, sym, ap, subst, ◌∙◌}
use Rattle.std.proofs.lemmas.Cmp.{nat_list_cmp_total, tied_itself}
use Rattle.std.proofs.lemmas.Map.Keys.{sorted_head, sorted_tail}
use Rattle.std.proofs.lemmas.Map.Text.{is_eq-slice_cmp}
use Rattle.std.proofs.lemmas.Slice.Eq.{bytes_eq-Decides}
use Rattle.std.specs.List.{AllByRecursion}
use Rattle.std.specs.List.Sorted.{IsStrictlySortedBy}
use Rattle.std.specs.Map.{keys_of, lookup}
use Rattle.std.specs.Ordering.{is_eq, is_lt, match_ordering, nat_cmp, ordering_reverse}
use Rattle.std.specs.declared.cmp.Ordering.{Ordering}
use Rattle.std.specs.declared.cmp.Ordering.TheVariants.{Less, Equal, Greater}
use Rattle.std.specs.Cmp.Lexicographic.{pointwise, slice_cmp}
use Rattle.rb_tree.specs.Resource.{Resource}
use Rattle.rb_inherit.specs.Merged.{Ascends, Layered, Part, all_keys, at_key, parts_of, with_key, with_keys}

abbrev cmp : List ℕ → List ℕ → Ordering
cmp x y = slice_cmp nat_cmp x y

abbrev Entries : Type 0
Entries = List (List ℕ × Resource)

-- a key is below others
abbrev pub Below : List ℕ → List (List ℕ) → Type 0
Below k ks = AllByRecursion (λ j. slice_cmp nat_cmp k j ≡ Less) ks

abbrev BelowAll : List ℕ → List (List ℕ × Resource) → Type 0
BelowAll k es = AllByRecursion (λ e. slice_cmp nat_cmp k e.0 ≡ Less) es

same_not : (x y : List ℕ) → cmp x y ≡ Less → pointwise nat_eq x y ≡ false
same_not x y h = sym (is_eq-slice_cmp x y) ∙ ap is_eq h

greater : (x y : List ℕ) → cmp x y ≡ Less → cmp y x ≡ Greater
greater x y h = nat_list_cmp_total.antisymm y x ∙ ap ordering_reverse h

same_not_back : (x y : List ℕ) → cmp x y ≡ Less → pointwise nat_eq y x ≡ false
same_not_back x y h = sym (is_eq-slice_cmp y x) ∙ ap is_eq (greater x y h)

equal_keys : (x y : List ℕ) → cmp x y ≡ Equal → x ≡ y
equal_keys x y h = (bytes_eq-Decides x y).0 (sym (is_eq-slice_cmp x y) ∙ ap is_eq h)

-- ---- one key among others
below_chosen : (k x j : List ℕ) (js : List (List ℕ)) (r : Ordering) → cmp k x ≡ Less → Below k (j ∷ js) → Below k (with_key x js)
    → Below k (match_ordering r (x ∷ j ∷ js) (j ∷ js) (j ∷ with_key x js))
below_chosen k x j js Less lt h rec = (lt, h)
below_chosen k x j js Equal lt h rec = h
below_chosen k x j js Greater lt h rec = (h.0, rec)

with_key_below : (k x : List ℕ) (ks : List (List ℕ)) → cmp k x ≡ Less → Below k ks → Below k (with_key x ks)
with_key_below k x [] lt h = (lt, tt)
with_key_below k x (j ∷ js) lt h = below_chosen k x j js (cmp x j) lt h (with_key_below k x js lt h.1)

with_keys_below : (k : List ℕ) (es : List (List ℕ × Resource)) (ks : List (List ℕ)) → BelowAll k es → Below k ks → Below k (with_keys es ks)
with_keys_below k [] ks a b = b
with_keys_below k (e ∷ es) ks a b = with_key_below k e.0 (with_keys es ks) a.0 (with_keys_below k es ks a.1 b)

with_key_after : (k x : List ℕ) (ks : List (List ℕ)) → cmp k x ≡ Less → with_key x (k ∷ ks) ≡ k ∷ with_key x ks
with_key_after k x ks lt = ap (λ (r : Ordering). match_ordering r (x ∷ k ∷ ks) (k ∷ ks) (k ∷ with_key x ks)) (greater k x lt)

with_key_first : (k : List ℕ) (ks : List (List ℕ)) → Below k ks → with_key k ks ≡ k ∷ ks
with_key_first k [] h = refl
with_key_first k (j ∷ js) h = ap (λ (r : Ordering). match_ordering r (k ∷ j ∷ js) (j ∷ js) (j ∷ with_key k js)) h.0

with_key_same : (k : List ℕ) (ks : List (List ℕ)) → with_key k (k ∷ ks) ≡ k ∷ ks
with_key_same k ks = ap (λ (r : Ordering). match_ordering r (k ∷ k ∷ ks) (k ∷ ks) (k ∷ with_key k ks)) (tied_itself nat_list_cmp_total k)

with_keys_after : (k : List ℕ) (es : List (List ℕ × Resource)) (ks : List (List ℕ)) → BelowAll k es → with_keys es (k ∷ ks) ≡ k ∷ with_keys es ks
with_keys_after k [] ks h = refl
with_keys_after k (e ∷ es) ks h = ap (λ (l : List (List ℕ)). with_key e.0 l) (with_keys_after k es ks h.1) ∙ with_key_after k e.0 (with_keys es ks) h.0

-- ---- one table
-- a key that is not above the next one of a table
abbrev pub NextIs : List ℕ → List (List ℕ × Resource) → Type 0
NextIs k [] = Unit {0}
NextIs k (e ∷ es) = AllByRecursion (λ f. slice_cmp nat_cmp k f.0 ≡ Less) es × ((slice_cmp nat_cmp k e.0 ≡ Less) ⊎ (k ≡ e.0))

abbrev pub after_key : List ℕ → List (List ℕ × Resource) → List (List ℕ × Resource)
after_key k [] = []
after_key k (e ∷ es) = cond (pointwise nat_eq k e.0) es (e ∷ es)

abbrev pub head_is : List ℕ → List (List ℕ × Resource) → Bool
head_is k [] = false
head_is k (e ∷ es) = pointwise nat_eq k e.0

abbrev pub if_has : Bool → List ℕ → List (List ℕ) → List (List ℕ)
if_has true k ks = k ∷ ks
if_has false k ks = ks

whole_after : (k : List ℕ) (es : List (List ℕ × Resource)) (b : Bool) (ks rest : List (List ℕ)) → BelowAll k es → ks ≡ if_has b k rest
    → with_keys es ks ≡ if_has b k (with_keys es rest)
whole_after k es true ks rest h e = ap (with_keys es) e ∙ with_keys_after k es rest h
whole_after k es false ks rest h e = ap (with_keys es) e

add_head : (k : List ℕ) (b : Bool) (ks rest : List (List ℕ)) → Below k rest → ks ≡ if_has b k rest → with_key k ks ≡ k ∷ rest
add_head k true ks rest h e = ap (with_key k) e ∙ with_key_same k rest
add_head k false ks rest h e = ap (with_key k) e ∙ with_key_first k rest h

abbrev StepOf : List ℕ → List (List ℕ × Resource) → Bool → List (List ℕ) → List (List ℕ) → Type 0
StepOf k es b ks rest = (with_keys es ks ≡ if_has (head_is k es || b) k (with_keys (after_key k es) rest)) × Below k (with_keys (after_key k es) rest)

abbrev StepBy : List ℕ → List ℕ × Resource → List (List ℕ × Resource) → Bool → List (List ℕ) → List (List ℕ) → Bool → Type 0
StepBy k e es b ks rest h =
    (with_key e.0 (with_keys es ks) ≡ if_has (h || b) k (with_keys (cond h es (e ∷ es)) rest)) × Below k (with_keys (cond h es (e ∷ es)) rest)

table_by : (k : List ℕ) (e : List ℕ × Resource) (es : List (List ℕ × Resource)) (b : Bool) (ks rest : List (List ℕ)) → BelowAll k es
    → (slice_cmp nat_cmp k e.0 ≡ Less) ⊎ (k ≡ e.0) → Below k rest → ks ≡ if_has b k rest → StepBy k e es b ks rest (pointwise nat_eq k e.0)
table_by k e es b ks rest a (inl lt) h x =
    subst (StepBy k e es b ks rest) (sym (same_not k e.0 lt)) (whole_after k (e ∷ es) b ks rest (lt, a) x, with_keys_below k (e ∷ es) rest (lt, a) h)
table_by k e es b ks rest a (inr is) h x =
    let below = with_keys_below k es rest a h in
    subst (StepBy k e es b ks rest) (sym ((bytes_eq-Decides k e.0).1 is))
    (ap (λ (j : List ℕ). with_key j (with_keys es ks)) (sym is) ∙ add_head k b (with_keys es ks) (with_keys es rest) below (whole_after k es b ks rest a x), below)

table_step : (k : List ℕ) (es : List (List ℕ × Resource)) (b : Bool) (ks rest : List (List ℕ)) → NextIs k es → Below k rest → ks ≡ if_has b k rest
    → StepOf k es b ks rest
table_step k [] b ks rest n h e = (e, h)
table_step k (f ∷ es) b ks rest n h e = table_by k f es b ks rest n.0 n.1 h e

-- ---- all tables
abbrev pub after : List ℕ → Layered → Layered
after k l = record { entries = after_key k l.entries; most = l.most }

abbrev pub has : List ℕ → List Layered → Bool
has k [] = false
has k (l ∷ ls) = head_is k l.entries || has k ls

abbrev pub AllNext : List ℕ → List Layered → Type 0
AllNext k ls = AllByRecursion (λ l. NextIs k l.entries) ls

pub keys_step : (k : List ℕ) (ls : List Layered) → AllNext k ls
    → (all_keys ls ≡ if_has (has k ls) k (all_keys (map (after k) ls))) × Below k (all_keys (map (after k) ls))
keys_step k [] n = (refl, tt)
keys_step k (l ∷ ls) n =
    let rest = keys_step k ls n.1 in
    table_step k l.entries (has k ls) (all_keys ls) (all_keys (map (after k) ls)) n.0 rest.1 rest.0

-- ---- what the tables have at a key
lookup_below : (k : List ℕ) (es : List (List ℕ × Resource)) → BelowAll k es → lookup (pointwise nat_eq k) es ≡ None
lookup_below k [] h = refl
lookup_below k (e ∷ es) h = ap (λ (b : Bool). cond b (Some e.1) (lookup (pointwise nat_eq k) es)) (same_not k e.0 h.0) ∙ lookup_below k es h.1

abbrev pub head_part : List ℕ → List (List ℕ × Resource) → ℕ → List Part
head_part k [] most = []
head_part k (e ∷ es) most = cond (pointwise nat_eq k e.0) (record { tree = e.1; most = most } ∷ []) []

head_by : (b : Bool) (t : Resource) (o : Option Resource) (most : ℕ) → o ≡ None
    → cond b (record { tree = t; most = most } ∷ []) [] ≡ parts_of (cond b (Some t) o) most
head_by true t o most h = refl
head_by false t o most h = ap (λ (p : Option Resource). parts_of p most) (sym h)

head_at : (k : List ℕ) (es : List (List ℕ × Resource)) (most : ℕ) → NextIs k es → head_part k es most ≡ parts_of (lookup (pointwise nat_eq k) es) most
head_at k [] most n = refl
head_at k (e ∷ es) most n = head_by (pointwise nat_eq k e.0) e.1 (lookup (pointwise nat_eq k) es) most (lookup_below k es n.0)

abbrev pub head_parts : List ℕ → List Layered → List Part
head_parts k [] = []
head_parts k (l ∷ ls) = head_part k l.entries l.most ++ head_parts k ls

pub heads_at : (k : List ℕ) (ls : List Layered) → AllNext k ls → head_parts k ls ≡ at_key k ls
heads_at k [] n = refl
heads_at k (l ∷ ls) n =
    ap (λ (ps : List Part). ps ++ head_parts k ls) (head_at k l.entries l.most n.0)
    ∙ ap (λ (ps : List Part). parts_of (lookup (pointwise nat_eq k) l.entries) l.most ++ ps) (heads_at k ls n.1)

later_by : (k j : List ℕ) (e : List ℕ × Resource) (es : List (List ℕ × Resource)) (b : Bool) → pointwise nat_eq k e.0 ≡ b → cmp k j ≡ Less
    → lookup (pointwise nat_eq j) (cond b es (e ∷ es)) ≡ lookup (pointwise nat_eq j) (e ∷ es)
later_by k j e es true is lt =
    let same : k ≡ e.0 = (bytes_eq-Decides k e.0).0 is in
    sym (ap (λ (b : Bool). cond b (Some e.1) (lookup (pointwise nat_eq j) es)) (ap (pointwise nat_eq j) (sym same) ∙ same_not_back k j lt))
later_by k j e es false is lt = refl

lookup_later : (k j : List ℕ) (es : List (List ℕ × Resource)) → cmp k j ≡ Less → lookup (pointwise nat_eq j) (after_key k es) ≡ lookup (pointwise nat_eq j) es
lookup_later k j [] lt = refl
lookup_later k j (e ∷ es) lt = later_by k j e es (pointwise nat_eq k e.0) refl lt

pub at_later : (k j : List ℕ) (ls : List Layered) → slice_cmp nat_cmp k j ≡ Less → at_key j (map (after k) ls) ≡ at_key j ls
at_later k j [] lt = refl
at_later k j (l ∷ ls) lt =
    ap (λ (o : Option Resource). parts_of o l.most ++ at_key j (map (after k) ls)) (lookup_later k j l.entries lt)
    ∙ ap (λ (ps : List Part). parts_of (lookup (pointwise nat_eq j) l.entries) l.most ++ ps) (at_later k j ls lt)

-- ---- keys that ascend
all_below : (e : List ℕ) (es : List (List ℕ × Resource)) → Below e (keys_of es) → BelowAll e es
all_below e [] h = tt
all_below e (f ∷ es) h = (h.0, all_below e es h.1)

below_on : (k e : List ℕ) (es : List (List ℕ × Resource)) → cmp k e ≡ Less → BelowAll e es → BelowAll k es
below_on k e [] lt h = tt
below_on k e (f ∷ es) lt h = (nat_list_cmp_total.trans k e f.0 lt h.0, below_on k e es lt h.1)

next_by : (k : List ℕ) (e : List ℕ × Resource) (es : List (List ℕ × Resource)) (r : Ordering) → cmp e.0 k ≡ r → is_lt r ≡ false → BelowAll e.0 es
    → NextIs k (e ∷ es)
next_by k e es Less c h b = absurd cc
next_by k e es Equal c h b =
    let same : e.0 ≡ k = equal_keys e.0 k c in
    (subst (λ (j : List ℕ). BelowAll j es) same b, inr (sym same))
next_by k e es Greater c h b =
    let lt : cmp k e.0 ≡ Less = nat_list_cmp_total.antisymm k e.0 ∙ ap ordering_reverse c in
    (below_on k e.0 es lt b, inl lt)

abbrev pub not_less : List ℕ → List (List ℕ × Resource) → Bool
not_less k [] = false
not_less k (e ∷ es) = is_lt (slice_cmp nat_cmp e.0 k)

-- the next key of a table whose keys ascend isn't less than the key
pub next_is : (k : List ℕ) (es : List (List ℕ × Resource)) → IsStrictlySortedBy (slice_cmp nat_cmp) (keys_of es) → not_less k es ≡ false → NextIs k es
next_is k [] s h = tt
next_is k (e ∷ es) s h = next_by k e es (cmp e.0 k) refl h (all_below e.0 es (sorted_head (slice_cmp nat_cmp) e.0 (keys_of es) s))

sorted_by : (b : Bool) (e : List ℕ × Resource) (es : List (List ℕ × Resource)) → IsStrictlySortedBy (slice_cmp nat_cmp) (keys_of (e ∷ es))
    → IsStrictlySortedBy (slice_cmp nat_cmp) (keys_of (cond b es (e ∷ es)))
sorted_by true e es s = sorted_tail (slice_cmp nat_cmp) e.0 (keys_of es) s
sorted_by false e es s = s

sorted_after : (k : List ℕ) (es : List (List ℕ × Resource)) → IsStrictlySortedBy (slice_cmp nat_cmp) (keys_of es)
    → IsStrictlySortedBy (slice_cmp nat_cmp) (keys_of (after_key k es))
sorted_after k [] s = s
sorted_after k (e ∷ es) s = sorted_by (pointwise nat_eq k e.0) e es s

pub ascend_after : (k : List ℕ) (ls : List Layered) → AllByRecursion Ascends ls → AllByRecursion Ascends (map (after k) ls)
ascend_after k [] h = tt
ascend_after k (l ∷ ls) h = (sorted_after k l.entries h.0, ascend_after k ls h.1)
