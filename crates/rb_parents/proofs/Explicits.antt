-- Explicit parents, entry by entry and child by child.
use Rattle.std.proofs.Common.{◌≡◌, ◌≤◌, ◌<◌, ◌+◌, ◌⊎◌, inl, inr, ℕ, zero, suc, List, [], ◌∷◌, length, drop, get_or, map, cond, false, nat_eq, Option, Some}
use Rattle.std.proofs.Common.{None, is_some, Result, Ok, Err, refl, ap, sym, ◌∙◌, subst, arith, IfErr, IsErrAnd}
use Rattle.std.proofs.Math.Nat.{eq-or-lt_of_le}
use Rattle.std.proofs.lemmas.List.{at_drop_more, at_drop_all}
use Rattle.std.proofs.lemmas.Option.{get_or_from_slice_get, slice_get_within}
use Rattle.std.proofs.lemmas.Map.Text.{is_eq-slice_cmp}
use Rattle.std.specs.List.{slice_get}
use Rattle.std.specs.Ordering.{nat_cmp, is_eq}
use Rattle.std.specs.Cmp.Lexicographic.{slice_cmp, pointwise}
use Rattle.std.specs.Map.{keys_of, values_of, update}
use Rattle.rb_tree.specs.Resource.{Resource, string, array, table}
use Rattle.rb_tree.specs.Parts.{kind_of, len_of, units_of, children_of, pairs_of}
use Rattle.rb_tree.specs.declared.kind.Kind.TheVariants as Kinds
use Rattle.rb_locales.specs.Locale.{name, in_front}
use Rattle.rb_parents.specs.Trail.{ParentsOf, text_of}
use Rattle.rb_parents.specs.ParentMap.{texts_of, texts_in}
use Rattle.rb_parents.specs.inner.Entries.{Read, and_then, put_each, put_child, put_children, put_entry, put_entries}
use Rattle.rb_parents.specs.declared.fault.ParentsFault.{ParentsFault}
use Rattle.rb_parents.specs.declared.fault.ParentsFault.TheVariants as fault

-- ---- the texts of an array's items
pub text_some : (t : Resource) → kind_of t ≡ Kinds.String → text_of t ≡ Some (units_of t)
text_some (string us) k = refl
text_some t k = cc

pub text_none : (t : Resource) → (kind_of t ≡ Kinds.String → ⊥) → text_of t ≡ None
text_none (string us) k = absurd (k refl)
text_none t k = refl

pub strings_all : (ts : List Resource) → ((k : ℕ) (d : Resource) → k < length ts → kind_of (get_or ts k d) ≡ Kinds.String)
    → texts_of ts ≡ Some (map units_of ts)
strings_all [] h = refl
strings_all (t ∷ ts) h = cc (text_some t (h 0 t (omega arith)), strings_all ts (λ k d l. h (suc k) d (omega arith)))

front_none : (o : Option (List ℕ)) → in_front o None ≡ None
front_none None = refl
front_none (Some us) = refl

pub strings_none : (ts : List Resource) (i : ℕ) (x : Resource) → slice_get ts i ≡ Some x → (kind_of x ≡ Kinds.String → ⊥) → texts_of ts ≡ None
strings_none [] i x e h = absurd (omega (arith, slice_get_within [] i x e))
strings_none (t ∷ ts) zero x e h =
    let same : t ≡ x = get_or_from_slice_get (t ∷ ts) 0 x t e in
    ap (λ o. in_front o (texts_of ts)) (text_none t (λ k. h (ap kind_of (sym same) ∙ k)))
strings_none (t ∷ ts) (suc i) x e h = ap (in_front (text_of t)) (strings_none ts i x e h) ∙ front_none (text_of t)

pub array_texts : (t : Resource) → kind_of t ≡ Kinds.Array → texts_in t ≡ texts_of (children_of t)
array_texts (array ts) k = refl
array_texts t k = cc

pub array_len : (t : Resource) → kind_of t ≡ Kinds.Array → length (children_of t) ≡ len_of t
array_len (array ts) k = refl
array_len t k = cc

-- ---- one child
pub put_new : (old new : ParentsOf) (parent child : List ℕ) → is_some (old child) ≡ false
    → ((q : List ℕ) → new q ≡ cond (is_eq (slice_cmp nat_cmp child q)) (Some parent) (old q)) → put_child parent (Some child) old ≡ Ok new
put_new old new parent child none more =
    ap (λ b. cond b (Err fault.TwoParents) (Ok (update (pointwise nat_eq) old child (Some parent)))) none
    ∙ (let same : (q : List ℕ) → update (pointwise nat_eq) old child (Some parent) q
    ≡ new q = λ q. ap (λ b. cond b (Some parent) (old q)) (sym (is_eq-slice_cmp child q)) ∙ sym (more q) in
    λ i. Ok (λ q. same q i))

-- ---- the next of a list
each_at : {A : Type 0} (put : A → ParentsOf → Read) (xs : List A) (i : ℕ) (x : A) (known : ParentsOf) (r : Read) → slice_get xs i ≡ Some x → put x known ≡ r
    → put_each put (drop i xs) known ≡ and_then (λ m. put_each put (drop (i + 1) xs) m) r
each_at put xs i x known r e h =
    at_drop_more (λ l. put_each put l known) xs i x (slice_get_within xs i x e)
    ∙ ap (λ y. and_then (λ m. put_each put (drop (i + 1) xs) m) (put y known)) (get_or_from_slice_get xs i x x e)
    ∙ ap (and_then (λ m. put_each put (drop (i + 1) xs) m)) h

each_end : {A : Type 0} (put : A → ParentsOf → Read) (xs : List A) (i : ℕ) (known : ParentsOf) → length xs ≤ i → put_each put (drop i xs) known ≡ Ok known
each_end put xs i known h = at_drop_all (λ l. put_each put l known) xs i h

-- ---- the children of a value
each_text : (parent : List ℕ) (ts : List Resource) (known : ParentsOf)
    → put_children parent (map units_of ts) known ≡ put_each (λ t k. put_child parent (name (units_of t)) k) ts known
each_text parent [] known = refl
each_text parent (t ∷ ts) known = by (λ m. each_text parent ts m) (put_child parent (name (units_of t)) known)
  where
    by : ((m : ParentsOf) → put_children parent (map units_of ts) m ≡ put_each (λ u k. put_child parent (name (units_of u)) k) ts m) → (r : Read)
        → and_then (λ m. put_children parent (map units_of ts) m) r ≡ and_then (λ m. put_each (λ u k. put_child parent (name (units_of u)) k) ts m) r
    by go (Ok m) = go m
    by go (Err e) = refl

pub children_on : (parent : List ℕ) (ts : List Resource) (i : ℕ) (x : Resource) (known more : ParentsOf) → slice_get ts i ≡ Some x
    → put_child parent (name (units_of x)) known ≡ Ok more → put_children parent (map units_of (drop i ts)) known
    ≡ put_children parent (map units_of (drop (i + 1) ts)) more
children_on parent ts i x known more e h =
    each_text parent (drop i ts) known ∙ each_at _ ts i x known (Ok more) e h ∙ sym (each_text parent (drop (i + 1) ts) more)

pub children_bad : (parent : List ℕ) (ts : List Resource) (i : ℕ) (x : Resource) (known : ParentsOf) (f : ParentsFault) → slice_get ts i ≡ Some x
    → put_child parent (name (units_of x)) known ≡ Err f → put_children parent (map units_of (drop i ts)) known ≡ Err f
children_bad parent ts i x known f e h = each_text parent (drop i ts) known ∙ each_at _ ts i x known (Err f) e h

pub children_end : (parent : List ℕ) (ts : List Resource) (i : ℕ) (known : ParentsOf) → length ts ≤ i
    → put_children parent (map units_of (drop i ts)) known ≡ Ok known
children_end parent ts i known h = each_text parent (drop i ts) known ∙ each_end _ ts i known h

-- ---- the entries of a table
pair_at : (ps : List (List ℕ × Resource)) (i : ℕ) (k : List ℕ) (t : Resource) → slice_get (keys_of ps) i ≡ Some k → slice_get (values_of ps) i ≡ Some t
    → slice_get ps i ≡ Some (k, t)
pair_at [] i k t e f = absurd (omega (arith, slice_get_within [] i k e))
pair_at (p ∷ ps) zero k t e f = λ i. Some (get_or_from_slice_get (p.0 ∷ keys_of ps) 0 k k e i, get_or_from_slice_get (p.1 ∷ values_of ps) 0 t t f i)
pair_at (p ∷ ps) (suc i) k t e f = pair_at ps i k t e f

table_pairs : (u : Resource) → kind_of u ≡ Kinds.Table → children_of u ≡ values_of (pairs_of u)
table_pairs (table es) k = refl
table_pairs t k = cc

pub table_len : (u : Resource) → kind_of u ≡ Kinds.Table → length (pairs_of u) ≡ len_of u
table_len (table es) k = refl
table_len t k = cc

entry_at : (u : Resource) (i : ℕ) (k : List ℕ) (t : Resource) → kind_of u ≡ Kinds.Table → slice_get (keys_of (pairs_of u)) i ≡ Some k
    → slice_get (children_of u) i ≡ Some t → slice_get (pairs_of u) i ≡ Some (k, t)
entry_at u i k t h e f = pair_at (pairs_of u) i k t e (ap (λ xs. slice_get xs i) (sym (table_pairs u h)) ∙ f)

pub entries_on : (u : Resource) (i : ℕ) (k : List ℕ) (t : Resource) (known more : ParentsOf) → kind_of u ≡ Kinds.Table
    → slice_get (keys_of (pairs_of u)) i ≡ Some k → slice_get (children_of u) i ≡ Some t → put_entry (name k) t known ≡ Ok more
    → put_entries (drop i (pairs_of u)) known ≡ put_entries (drop (i + 1) (pairs_of u)) more
entries_on u i k t known more is e f h = each_at _ (pairs_of u) i (k, t) known (Ok more) (entry_at u i k t is e f) h

pub entries_bad : (u : Resource) (i : ℕ) (k : List ℕ) (t : Resource) (known : ParentsOf) (g : ParentsFault) → kind_of u ≡ Kinds.Table
    → slice_get (keys_of (pairs_of u)) i ≡ Some k → slice_get (children_of u) i ≡ Some t → put_entry (name k) t known ≡ Err g
    → put_entries (drop i (pairs_of u)) known ≡ Err g
entries_bad u i k t known g is e f h = each_at _ (pairs_of u) i (k, t) known (Err g) (entry_at u i k t is e f) h

pub entries_end : (u : Resource) (i : ℕ) (known : ParentsOf) → kind_of u ≡ Kinds.Table → len_of u ≤ i → put_entries (drop i (pairs_of u)) known ≡ Ok known
entries_end u i known k h = each_end _ (pairs_of u) i known (omega (arith, table_len u k))

-- an error that a step met is the error of the whole, or memory ran out
pub fault_on : (e : ParentsFault) (part : Read) (P : Type 0) → (part ≡ Err e → P) → (e ≡ fault.Memory) ⊎ (part ≡ Err e) → (e ≡ fault.Memory) ⊎ P
fault_on e part P h (inl m) = inl m
fault_on e part P h (inr f) = inr (h f)

-- an error that `?` propagates
pub err_is : {A E : Type 0} (r : Result A E) (f : E) (P : E → Type 0) → IsErrAnd r (λ e. e ≡ f) → P f → IfErr r P
err_is (Ok v) f P h p = tt
err_is (Err e) f P h p = subst P (sym h) p

-- one more string
pub string_more : (ts : List Resource) (i : ℕ) (x : Resource) → slice_get ts i ≡ Some x → kind_of x ≡ Kinds.String
    → ((k : ℕ) (d : Resource) → k < i → kind_of (get_or ts k d) ≡ Kinds.String) → (k : ℕ) (d : Resource) → k < i + 1 → kind_of (get_or ts k d) ≡ Kinds.String
string_more ts i x e s h k d l = let le : k ≤ i = omega arith in
    elim (eq-or-lt_of_le le) [ inl q ↦ ap (λ j. kind_of (get_or ts j d)) q ∙ ap kind_of (get_or_from_slice_get ts i x d e) ∙ s | inr q ↦ h k d q ]

-- if all items are strings, each is one
texts_each : (ts : List Resource) (i : ℕ) (x : Resource) (uss : List (List ℕ)) → texts_of ts ≡ Some uss → slice_get ts i ≡ Some x → kind_of x ≡ Kinds.String
texts_each ts i x uss e h = by (kind_string x)
  where
    by : (kind_of x ≡ Kinds.String) ⊎ (kind_of x ≡ Kinds.String → ⊥) → kind_of x ≡ Kinds.String
    by (inl k) = k
    by (inr k) = cc (strings_none ts i x h k)

    kind_string : (t : Resource) → (kind_of t ≡ Kinds.String) ⊎ (kind_of t ≡ Kinds.String → ⊥)
    kind_string (string us) = inl refl
    kind_string t = inr (λ k. cc)

pub string_in : (t : Resource) (i : ℕ) (x : Resource) → kind_of t ≡ Kinds.Array → texts_in t ≡ Some (map units_of (children_of t))
    → slice_get (children_of t) i ≡ Some x → kind_of x ≡ Kinds.String
string_in t i x k e h = texts_each (children_of t) i x (map units_of (children_of t)) (sym (array_texts t k) ∙ e) h
