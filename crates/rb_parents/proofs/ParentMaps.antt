-- The reading of explicit parents is the map that the entries name.
use Rattle.std.proofs.Common.{◌≡◌, ◌⊎◌, inl, inr, ◌<◌, ℕ, zero, suc, List, [], ◌∷◌, ◌++◌, length, Bool, true, false, cond, nat_eq, Option, Some, None, is_some}
use Rattle.std.proofs.Common.{Ok, Err, refl, ap, sym, ◌∙◌, subst, arith, unwrap_or}
use Rattle.std.proofs.lemmas.Bool.Decides.{Decides-eqb}
use Rattle.std.proofs.lemmas.Slice.Eq.{slice_eq-Decides}
use Rattle.std.specs.List.{slice_get}
use Rattle.std.specs.Cmp.Lexicographic.{pointwise}
use Rattle.std.specs.Map.{update}
use Rattle.rb_tree.specs.Resource.{Resource}
use Rattle.rb_locales.specs.Locale.{name}
use Rattle.rb_parents.specs.Trail.{ParentsOf}
use Rattle.rb_parents.specs.ParentMap.{Entries, Mentions, texts_in, mentions, mentions_by, mentions_in, Names, IsParentMap, IsNamed}
use Rattle.rb_parents.specs.Explicit.{IsEntry, GivesMap, TableGives}
use Rattle.rb_parents.specs.inner.Entries.{Read, and_then, put_each, put_child, put_children, put_value, put_entry, put_entries, no_parents}
use Rattle.rb_parents.specs.declared.fault.ParentsFault.TheVariants as fault

-- ---- a reading, mention by mention
abbrev pub put_named : Option (List ℕ) → Option (List ℕ) → ParentsOf → Read
put_named None child known = Err fault.BadLocale
put_named (Some parent) child known = put_child parent child known

abbrev pub put_all : Mentions → ParentsOf → Read
put_all ms known = put_each (λ s k. put_named (name s.1) (name s.0) k) ms known

-- some after others, and one
pub each_append : {A : Type 0} (put : A → ParentsOf → Read) (xs ys : List A) (known more : ParentsOf) → put_each put xs known ≡ Ok more
    → put_each put (xs ++ ys) known ≡ put_each put ys more
each_append put [] ys known more e = let same : known ≡ more = cc in ap (put_each put ys) same
each_append put (x ∷ xs) ys known more e = by (put x known) e (λ k g. each_append put xs ys k more g)
  where
    by : (r : Read) → and_then (λ k. put_each put xs k) r ≡ Ok more
        → ((k : ParentsOf) → put_each put xs k ≡ Ok more → put_each put (xs ++ ys) k ≡ put_each put ys more)
        → and_then (λ k. put_each put (xs ++ ys) k) r ≡ put_each put ys more
    by (Ok k) g go = go k g
    by (Err f) g go = cc

pub each_push : {A : Type 0} (put : A → ParentsOf → Read) (xs : List A) (x : A) (known more new : ParentsOf) → put_each put xs known ≡ Ok more
    → put x more ≡ Ok new → put_each put (xs ++ x ∷ []) known ≡ Ok new
each_push put xs x known more new e f = each_append put xs (x ∷ []) known more e ∙ ap (and_then (λ k. Ok k)) f

-- an entry's children are its mentions
pub child_put : (key parent us : List ℕ) (known : ParentsOf) → name key ≡ Some parent
    → put_named (name key) (name us) known ≡ put_child parent (name us) known
child_put key parent us known e = ap (λ o. put_named o (name us) known) e

pub children_all : (key parent : List ℕ) (uss : List (List ℕ)) (rest : Mentions) (known : ParentsOf) → name key ≡ Some parent
    → put_all (mentions_by key uss ++ rest) known ≡ and_then (λ m. put_all rest m) (put_children parent uss known)
children_all key parent [] rest known e = refl
children_all key parent (us ∷ uss) rest known e =
    ap (and_then (λ m. put_all (mentions_by key uss ++ rest) m)) (child_put key parent us known e)
    ∙ by (λ m. children_all key parent uss rest m e) (put_child parent (name us) known)
  where
    by : ((m : ParentsOf) → put_all (mentions_by key uss ++ rest) m ≡ and_then (λ n. put_all rest n) (put_children parent uss m)) → (r : Read)
        → and_then (λ m. put_all (mentions_by key uss ++ rest) m) r ≡ and_then (λ m. put_all rest m) (and_then (λ m. put_children parent uss m) r)
    by more (Ok m) = more m
    by more (Err f) = refl

-- what an entry that is put in says
record IsPutEntry (x : List ℕ × Resource) (known : ParentsOf) (go : ParentsOf → Read) (m : ParentsOf) : Type 0 where
  valid : IsEntry x
  left : and_then go (put_children valid.parent valid.texts known) ≡ Ok m

put_entry_is : (x : List ℕ × Resource) (known : ParentsOf) (go : ParentsOf → Read) (m : ParentsOf)
    → and_then go (put_entry (name x.0) x.1 known) ≡ Ok m → IsPutEntry x known go m
put_entry_is x known go m e = by (name x.0) (texts_in x.1) refl refl
  where
    at : (o : Option (List ℕ)) → name x.0 ≡ o → and_then go (put_entry o x.1 known) ≡ Ok m
    at o f = ap (λ q. and_then go (put_entry q x.1 known)) (sym f) ∙ e

    by : (o : Option (List ℕ)) (p : Option (List (List ℕ))) → name x.0 ≡ o → texts_in x.1 ≡ p → IsPutEntry x known go m
    by None p f g = let h = at None f in cc
    by (Some parent) None f g =
        let h : and_then go (put_value parent None known) ≡ Ok m = ap (λ q. and_then go (put_value parent q known)) (sym g) ∙ at (Some parent) f in
        cc
    by (Some parent) (Some uss) f g = record {
      valid = record { parent = parent; texts = uss; parent_is = f; texts_are = g };
      left = ap (λ q. and_then go (put_value parent q known)) (sym g) ∙ at (Some parent) f;
    }

pub entries_all : (es : Entries) (known m : ParentsOf) → put_entries es known ≡ Ok m → put_all (mentions es) known ≡ Ok m
entries_all [] known m e = e
entries_all (x ∷ es) known m e =
    let p = put_entry_is x known (λ k. put_entries es k) m e in
    ap (λ o. put_all (mentions_by x.0 (unwrap_or o []) ++ mentions es) known) p.valid.texts_are
    ∙ children_all x.0 p.valid.parent p.valid.texts (mentions es) known p.valid.parent_is
    ∙ by (λ k h. entries_all es k m h) (put_children p.valid.parent p.valid.texts known) p.left
  where
    by : ((k : ParentsOf) → put_entries es k ≡ Ok m → put_all (mentions es) k ≡ Ok m) → (r : Read) → and_then (λ k. put_entries es k) r ≡ Ok m
        → and_then (λ k. put_all (mentions es) k) r ≡ Ok m
    by go (Ok k) h = go k h
    by go (Err f) h = cc

entries_valid : (es : Entries) (known m : ParentsOf) → put_entries es known ≡ Ok m → (i : ℕ) (x : List ℕ × Resource) → slice_get es i ≡ Some x → IsEntry x
entries_valid [] known m e i x h = cc
entries_valid (y ∷ es) known m e zero x h =
    let same : y ≡ x = cc in
    subst IsEntry same (put_entry_is y known (λ k. put_entries es k) m e).valid
entries_valid (y ∷ es) known m e (suc i) x h = by (λ k g. entries_valid es k m g i x h) (put_entry (name y.0) y.1 known) e
  where
    by : ((k : ParentsOf) → put_entries es k ≡ Ok m → IsEntry x) → (r : Read) → and_then (λ k. put_entries es k) r ≡ Ok m → IsEntry x
    by go (Ok k) g = go k g
    by go (Err f) g = cc

-- ---- one child more
record IsMore (old more : ParentsOf) (child parent : List ℕ) : Type 0 where
  here : more child ≡ Some parent
  apart : (c : List ℕ) → (child ≡ c) ⊎ (more c ≡ old c)

more_is : (old : ParentsOf) (child parent : List ℕ) → IsMore old (update (pointwise nat_eq) old child (Some parent)) child parent
more_is old child parent = record {
  here = ap (λ b. cond b (Some parent) (old child)) ((slice_eq-Decides Decides-eqb child child (pointwise nat_eq child child) refl).1 refl);
  apart = λ c. by c (pointwise nat_eq child c) refl;
}
  where
    by : (c : List ℕ) (b : Bool) → pointwise nat_eq child c ≡ b → (child ≡ c) ⊎ (update (pointwise nat_eq) old child (Some parent) c ≡ old c)
    by c true e = inl ((slice_eq-Decides Decides-eqb child c (pointwise nat_eq child c) refl).0 e)
    by c false e = inr (ap (λ b. cond b (Some parent) (old c)) e)

-- what a mention that is put in says
record IsPut (s : List ℕ × List ℕ) (known : ParentsOf) (go : ParentsOf → Read) (m : ParentsOf) : Type 0 where
  child : List ℕ
  parent : List ℕ
  child_is : name s.0 ≡ Some child
  parent_is : name s.1 ≡ Some parent
  new : known child ≡ None
  left : go (update (pointwise nat_eq) known child (Some parent)) ≡ Ok m

put_is : (s : List ℕ × List ℕ) (known : ParentsOf) (go : ParentsOf → Read) (m : ParentsOf) → and_then go (put_named (name s.1) (name s.0) known) ≡ Ok m
    → IsPut s known go m
put_is s known go m e = by (name s.1) (name s.0) refl refl e
  where
    fresh : (parent child : List ℕ) → name s.1 ≡ Some parent → name s.0 ≡ Some child → (o : Option (List ℕ)) → known child ≡ o
        → and_then go (cond (is_some o) (Err fault.TwoParents) (Ok (update (pointwise nat_eq) known child (Some parent)))) ≡ Ok m → IsPut s known go m
    fresh parent child f g None n h = record { child = child; parent = parent; child_is = g; parent_is = f; new = n; left = h }
    fresh parent child f g (Some q) n h = cc

    by : (o p : Option (List ℕ)) → name s.1 ≡ o → name s.0 ≡ p → and_then go (put_named o p known) ≡ Ok m → IsPut s known go m
    by None p f g h = cc
    by (Some parent) None f g h = cc
    by (Some parent) (Some child) f g h = fresh parent child f g (known child) refl h

-- ---- the map of all mentions over another
record IsMapOver (known : ParentsOf) (ms : Mentions) (m : ParentsOf) : Type 0 where
  into : (c p : List ℕ) → m c ≡ Some p → (known c ≡ Some p) ⊎ ((i : ℕ) × Names ms i c p)
  kept : (c p : List ℕ) → known c ≡ Some p → m c ≡ Some p
  given : (i : ℕ) (c p : List ℕ) → Names ms i c p → m c ≡ Some p
  fresh : (i : ℕ) (c p : List ℕ) → Names ms i c p → known c ≡ None
  once : (i j : ℕ) (c p q : List ℕ) → Names ms i c p → Names ms j c q → i ≡ j

later : (s : List ℕ × List ℕ) (ms : Mentions) (i : ℕ) (c p : List ℕ) → Names ms i c p → Names (s ∷ ms) (suc i) c p
later s ms i c p h = record { text = h.text; key = h.key; there = h.there; child_is = h.child_is; parent_is = h.parent_is }

earlier : (s : List ℕ × List ℕ) (ms : Mentions) (i : ℕ) (c p : List ℕ) → Names (s ∷ ms) (suc i) c p → Names ms i c p
earlier s ms i c p h = record { text = h.text; key = h.key; there = h.there; child_is = h.child_is; parent_is = h.parent_is }

first_child : (s : List ℕ × List ℕ) (ms : Mentions) (c p : List ℕ) → Names (s ∷ ms) 0 c p → name s.0 ≡ Some c
first_child s ms c p h = let e : s ≡ (h.text, h.key) = cc (h.there) in ap (λ (q : List ℕ × List ℕ). name q.0) e ∙ h.child_is

first_parent : (s : List ℕ × List ℕ) (ms : Mentions) (c p : List ℕ) → Names (s ∷ ms) 0 c p → name s.1 ≡ Some p
first_parent s ms c p h = let e : s ≡ (h.text, h.key) = cc (h.there) in ap (λ (q : List ℕ × List ℕ). name q.1) e ∙ h.parent_is

one_over : (s : List ℕ × List ℕ) (ms : Mentions) (known more m : ParentsOf) (child parent : List ℕ) → name s.0 ≡ Some child
    → name s.1 ≡ Some parent → known child ≡ None → IsMore known more child parent → IsMapOver more ms m → IsMapOver known (s ∷ ms) m
one_over s ms known more m child parent f g n x r = record { into = into; kept = kept; given = given; fresh = fresh; once = once }
  where
    first : Names (s ∷ ms) 0 child parent
    first = record { text = s.0; key = s.1; there = refl; child_is = f; parent_is = g }

    into : (c p : List ℕ) → m c ≡ Some p → (known c ≡ Some p) ⊎ ((i : ℕ) × Names (s ∷ ms) i c p)
    into c p h = by (r.into c p h)
      where
        old : more c ≡ Some p → (child ≡ c) ⊎ (more c ≡ known c) → (known c ≡ Some p) ⊎ ((i : ℕ) × Names (s ∷ ms) i c p)
        old e (inl a) =
            let same : parent ≡ p = cc (x.here, ap more a) in
            inr (0, subst (λ d. Names (s ∷ ms) 0 d p) a (subst (λ q. Names (s ∷ ms) 0 child q) same first))
        old e (inr a) = inl (sym a ∙ e)

        by : (more c ≡ Some p) ⊎ ((i : ℕ) × Names ms i c p) → (known c ≡ Some p) ⊎ ((i : ℕ) × Names (s ∷ ms) i c p)
        by (inl e) = old e (x.apart c)
        by (inr w) = inr (suc w.0, later s ms w.0 c p w.1)

    kept : (c p : List ℕ) → known c ≡ Some p → m c ≡ Some p
    kept c p h = by (x.apart c)
      where
        by : (child ≡ c) ⊎ (more c ≡ known c) → m c ≡ Some p
        by (inl a) = cc (n, ap known a, h)
        by (inr a) = r.kept c p (a ∙ h)

    given : (i : ℕ) (c p : List ℕ) → Names (s ∷ ms) i c p → m c ≡ Some p
    given zero c p h =
        let a : child ≡ c = cc (f, first_child s ms c p h) in
        let b : parent ≡ p = cc (g, first_parent s ms c p h) in
        subst (λ d. m d ≡ Some p) a (subst (λ q. m child ≡ Some q) b (r.kept child parent x.here))
    given (suc i) c p h = r.given i c p (earlier s ms i c p h)

    fresh : (i : ℕ) (c p : List ℕ) → Names (s ∷ ms) i c p → known c ≡ None
    fresh zero c p h =
        let a : child ≡ c = cc (f, first_child s ms c p h) in
        subst (λ d. known d ≡ None) a n
    fresh (suc i) c p h = by (r.fresh i c p (earlier s ms i c p h)) (x.apart c)
      where
        by : more c ≡ None → (child ≡ c) ⊎ (more c ≡ known c) → known c ≡ None
        by e (inl a) = cc (x.here, ap more a, e)
        by e (inr a) = sym a ∙ e

    not_later : (j : ℕ) (c p q : List ℕ) → Names (s ∷ ms) 0 c p → Names (s ∷ ms) (suc j) c q → ⊥
    not_later j c p q h k =
        let a : child ≡ c = cc (f, first_child s ms c p h) in
        let e : more c ≡ None = r.fresh j c q (earlier s ms j c q k) in
        cc (x.here, ap more a, e)

    once : (i j : ℕ) (c p q : List ℕ) → Names (s ∷ ms) i c p → Names (s ∷ ms) j c q → i ≡ j
    once zero zero c p q h k = refl
    once zero (suc j) c p q h k = absurd (not_later j c p q h k)
    once (suc i) zero c p q h k = absurd (not_later i c q p k h)
    once (suc i) (suc j) c p q h k = ap suc (r.once i j c p q (earlier s ms i c p h) (earlier s ms j c q k))

all_over : (ms : Mentions) (known m : ParentsOf) → put_all ms known ≡ Ok m → IsMapOver known ms m
all_over [] known m e =
    let same : known ≡ m = cc in
    record {
      into = λ c p h. inl (ap (λ k. k c) same ∙ h);
      kept = λ c p h. sym (ap (λ k. k c) same) ∙ h;
      given = λ i c p h. cc (h.there);
      fresh = λ i c p h. cc (h.there);
      once = λ i j c p q h k. cc (h.there);
    }
all_over (s ∷ ms) known m e =
    let p = put_is s known (λ more. put_all ms more) m e in
    let more = update (pointwise nat_eq) known p.child (Some p.parent) in
    one_over s ms known more m p.child p.parent p.child_is p.parent_is p.new (more_is known p.child p.parent) (all_over ms more m p.left)

from_none : (ms : Mentions) (m : ParentsOf) → IsMapOver no_parents ms m → IsParentMap ms m
from_none ms m h = record {
  same = λ c p. (λ e. by c p (h.into c p e), λ w. h.given w.0 c p w.1);
  once = h.once;
}
  where
    by : (c p : List ℕ) → (no_parents c ≡ Some p) ⊎ ((i : ℕ) × Names ms i c p) → (i : ℕ) × Names ms i c p
    by c p (inl e) = cc
    by c p (inr w) = w

named_each : (ms : Mentions) (known m : ParentsOf) → put_all ms known ≡ Ok m → (i : ℕ) → i < length ms
    → (child : List ℕ) × (parent : List ℕ) × Names ms i child parent
named_each [] known m e i l = absurd (omega arith)
named_each (s ∷ ms) known m e zero l =
    let p = put_is s known (λ more. put_all ms more) m e in
    (p.child, p.parent, record { text = s.0; key = s.1; there = refl; child_is = p.child_is; parent_is = p.parent_is })
named_each (s ∷ ms) known m e (suc i) l =
    let p = put_is s known (λ more. put_all ms more) m e in
    let w = named_each ms (update (pointwise nat_eq) known p.child (Some p.parent)) m p.left i (omega arith) in
    (w.0, w.1, later s ms i w.0 w.1 w.2)

pub all_named : (ms : Mentions) (m : ParentsOf) → put_all ms no_parents ≡ Ok m → IsNamed ms m
all_named ms m e = record { names = named_each ms no_parents m e; is_map = from_none ms m (all_over ms no_parents m e) }

pub entries_give : (es : Entries) (m : ParentsOf) → put_entries es no_parents ≡ Ok m → GivesMap es m
entries_give es m e = record {
  entries = entries_valid es no_parents m e;
  named = all_named (mentions es) m (entries_all es no_parents m e);
}

pub gives_map : (o : Option Entries) (m : ParentsOf) → TableGives o m → IsParentMap (mentions_in o) m
gives_map None m h = absurd h
gives_map (Some es) m h = h.named.is_map
