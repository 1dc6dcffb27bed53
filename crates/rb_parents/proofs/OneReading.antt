-- Proves that a table gives either one map or one error, which is the result of a reading.
use Rattle.std.proofs.Common.{◌≡◌, ◌⊎◌, inl, inr, ◌<◌, ℕ, zero, suc, List, [], ◌∷◌, ◌++◌, length, Option, Some, None, Ok, Err, is_some, cond, nat_eq, refl, ap, sym, ◌∙◌}
use Rattle.std.proofs.Common.{subst, arith, append_assoc, append-nil, length-append, unwrap_or}
use Rattle.std.proofs.lemmas.Option.{slice_get_within}
use Rattle.std.specs.List.{slice_get}
use Rattle.std.specs.Cmp.Lexicographic.{pointwise}
use Rattle.std.specs.Map.{update}
use Rattle.rb_tree.specs.Resource.{Resource}
use Rattle.rb_locales.specs.Locale.{name}
use Rattle.rb_parents.specs.Trail.{ParentsOf}
use Rattle.rb_parents.specs.ParentMap.{Entries, Mentions, texts_in, mentions, mentions_by, Names, IsParentMap, IsNamed}
use Rattle.rb_parents.specs.Explicit.{IsEntry, GivesMap, ChildError, IsFirstBadChild, EntryError, IsFirstError, TableGives, TableRefuses}
use Rattle.rb_parents.specs.inner.Entries.{Read, and_then, put_child, put_children, put_value, put_entry, put_entries, no_parents, read_entries}
use Rattle.rb_parents.specs.declared.fault.ParentsFault.{ParentsFault}
use Rattle.rb_parents.specs.declared.fault.ParentsFault.TheVariants as fault
use Rattle.rb_parents.proofs.FirstErrors.{table_gives, table_refuses}
use Rattle.rb_parents.proofs.ParentMaps.{put_all, put_named, each_append, each_push, children_all, entries_all, all_named}

slice_get_front : {A : Type 0} (xs ys : List A) (i : ℕ) (x : A) → slice_get xs i ≡ Some x → slice_get (xs ++ ys) i ≡ Some x
slice_get_front [] ys i x e = cc
slice_get_front (z ∷ zs) ys zero x e = e
slice_get_front (z ∷ zs) ys (suc i) x e = slice_get_front zs ys i x e

slice_get_mid : {A : Type 0} (xs : List A) (y : A) (ys : List A) → slice_get (xs ++ y ∷ ys) (length xs) ≡ Some y
slice_get_mid [] y ys = refl
slice_get_mid (x ∷ xs) y ys = slice_get_mid xs y ys

-- if all mentions name distinct children, a reading gives a map
names_new : (before ms : Mentions) (s : List ℕ × List ℕ) (m known : ParentsOf) (child parent : List ℕ) → IsNamed (before ++ s ∷ ms) m
    → put_all before no_parents ≡ Ok known → Names (before ++ s ∷ ms) (length before) child parent → known child ≡ None
names_new before ms s m known child parent valid so_far here = by (known child) refl
  where
    by : (o : Option (List ℕ)) → known child ≡ o → known child ≡ None
    by None e = e
    by (Some q) e =
        let old = ((all_named before known so_far).is_map.same child q).0 e in
        let w = old.1 in
        let kept : Names (before ++ s ∷ ms) old.0 child q = record {
          text = w.text;
          key = w.key;
          there = slice_get_front before (s ∷ ms) old.0 (w.text, w.key) w.there;
          child_is = w.child_is;
          parent_is = w.parent_is;
        } in
        let same : old.0 ≡ length before = valid.is_map.once old.0 (length before) child q parent kept here in
        let low : old.0 < length before = slice_get_within before old.0 (w.text, w.key) w.there in
        absurd (omega arith)

named_put : (before ms : Mentions) (m known : ParentsOf) → IsNamed (before ++ ms) m → put_all before no_parents ≡ Ok known
    → (k : ParentsOf) × (put_all ms known ≡ Ok k)
named_put before [] m known valid so_far = (known, refl)
named_put before (s ∷ ms) m known valid so_far =
    let w = valid.names (length before) (omega (arith, length-append before (s ∷ ms))) in
    let is : s ≡ (w.2.text, w.2.key) = cc (slice_get_mid before s ms, w.2.there) in
    let child_is : name s.0 ≡ Some w.0 = ap (λ (q : List ℕ × List ℕ). name q.0) is ∙ w.2.child_is in
    let parent_is : name s.1 ≡ Some w.1 = ap (λ (q : List ℕ × List ℕ). name q.1) is ∙ w.2.parent_is in
    let new = update (pointwise nat_eq) known w.0 (Some w.1) in
    let put : put_named (name s.1) (name s.0) known ≡ Ok new =
    ap (λ o. put_named o (name s.0) known) parent_is
    ∙ ap (λ o. put_child w.1 o known) child_is
    ∙ ap (λ o. cond (is_some o) (Err fault.TwoParents) (Ok new)) (names_new before ms s m known w.0 w.1 valid so_far w.2) in
    let more = named_put (before ++ s ∷ []) ms m new (subst (λ l. IsNamed l m) (sym (append_assoc before (s ∷ []) ms)) valid)
    (each_push _ before s no_parents known new so_far put) in
    (more.0, ap (and_then (λ k. put_all ms k)) put ∙ more.1)

entries_put : (es : Entries) (known k : ParentsOf) → ((i : ℕ) (x : List ℕ × Resource) → slice_get es i ≡ Some x → IsEntry x)
    → put_all (mentions es) known ≡ Ok k → put_entries es known ≡ Ok k
entries_put [] known k valid e = e
entries_put (x ∷ es) known k valid e =
    ap (λ o. and_then (λ m. put_entries es m) (put_entry o x.1 known)) v.parent_is
    ∙ ap (λ o. and_then (λ m. put_entries es m) (put_value v.parent o known)) v.texts_are
    ∙ by (λ m g. entries_put es m k (λ i. valid (suc i)) g) (put_children v.parent v.texts known) left
  where
    v : IsEntry x
    v = valid 0 x refl

    left : and_then (λ m. put_all (mentions es) m) (put_children v.parent v.texts known) ≡ Ok k
    left =
        sym (ap (λ o. put_all (mentions_by x.0 (unwrap_or o []) ++ mentions es) known) v.texts_are
        ∙ children_all x.0 v.parent v.texts (mentions es) known v.parent_is) ∙ e

    by : ((m : ParentsOf) → put_all (mentions es) m ≡ Ok k → put_entries es m ≡ Ok k) → (r : Read) → and_then (λ m. put_all (mentions es) m) r ≡ Ok k
        → and_then (λ m. put_entries es m) r ≡ Ok k
    by go (Ok m) g = go m g
    by go (Err f) g = cc

given_put : (es : Entries) (m : ParentsOf) → GivesMap es m → (k : ParentsOf) × (put_entries es no_parents ≡ Ok k)
given_put es m h = let w = named_put [] (mentions es) m no_parents h.named refl in (w.0, entries_put es no_parents w.0 h.entries w.1)

-- the first invalid entry is the error of a reading
child_refused : (ms : Mentions) (parent : List ℕ) (o : Option (List ℕ)) (known : ParentsOf) (e : ParentsFault) → IsNamed ms known → ChildError ms o e
    → put_child parent o known ≡ Err e
child_refused ms parent None known e valid h = ap Err (sym h)
child_refused ms parent (Some child) known e valid h =
    ap (λ o. cond (is_some o) (Err fault.TwoParents) (Ok (update (pointwise nat_eq) known child (Some parent))))
    ((valid.is_map.same child h.1.1).1 (h.1.0, h.1.2)) ∙ ap Err (sym h.0)

and_ok : (r : Read) → and_then (λ m. Ok m) r ≡ r
and_ok (Ok m) = refl
and_ok (Err e) = refl

children_refused : (ms : Mentions) (key parent : List ℕ) (texts : List (List ℕ)) (known : ParentsOf) (e : ParentsFault) → name key ≡ Some parent
    → put_all ms no_parents ≡ Ok known → IsFirstBadChild ms key texts e → put_children parent texts known ≡ Err e
children_refused ms key parent texts known e is so_far h =
    let w = named_put ms (mentions_by key h.before) h.known known h.valid so_far in
    let all : put_all (ms ++ mentions_by key h.before) no_parents ≡ Ok w.0 =
    each_append _ ms (mentions_by key h.before) no_parents known so_far ∙ w.1 in
    let put : put_children parent h.before known ≡ Ok w.0 =
    sym (and_ok (put_children parent h.before known))
    ∙ sym (ap (λ l. put_all l known) (sym (append-nil (mentions_by key h.before))) ∙ children_all key parent h.before [] known is)
    ∙ w.1 in
    ap (λ uss. put_children parent uss known) h.are
    ∙ each_append _ h.before (h.text ∷ h.after) known w.0 put
    ∙ ap (and_then (λ m. put_children parent h.after m))
    (child_refused (ms ++ mentions_by key h.before) parent (name h.text) w.0 e (all_named _ w.0 all) h.error)

entry_refused : (ms : Mentions) (x : List ℕ × Resource) (known : ParentsOf) (e : ParentsFault) → put_all ms no_parents ≡ Ok known
    → EntryError ms x.0 (name x.0) (texts_in x.1) e → put_entry (name x.0) x.1 known ≡ Err e
entry_refused ms x known e so_far h = by (name x.0) refl h
  where
    in_value : (parent : List ℕ) → name x.0 ≡ Some parent → (p : Option (List (List ℕ))) → EntryError ms x.0 (Some parent) p e
        → put_value parent p known ≡ Err e
    in_value parent f None g = ap Err (sym g)
    in_value parent f (Some uss) g = children_refused ms x.0 parent uss known e f so_far g

    by : (o : Option (List ℕ)) → name x.0 ≡ o → EntryError ms x.0 o (texts_in x.1) e → put_entry o x.1 known ≡ Err e
    by None f g = ap Err (sym g)
    by (Some parent) f g = in_value parent f (texts_in x.1) g

refused_put : (es : Entries) (e : ParentsFault) → IsFirstError es e → put_entries es no_parents ≡ Err e
refused_put es e h =
    let w = given_put h.before h.known h.valid in
    ap (λ l. put_entries l no_parents) h.are
    ∙ each_append _ h.before (h.entry ∷ h.after) no_parents w.0 w.1
    ∙ ap (and_then (λ m. put_entries h.after m))
    (entry_refused (mentions h.before) h.entry w.0 e (entries_all h.before no_parents w.0 w.1) h.error)

table_refused : (o : Option Entries) (e : ParentsFault) → TableRefuses o e → read_entries o ≡ Err e
table_refused None e h = ap Err (sym h)
table_refused (Some es) e h = refused_put es e h

-- so there is one error, and no map beside it, and one map
pub one_error : (o : Option Entries) (e f : ParentsFault) → TableRefuses o e → TableRefuses o f → e ≡ f
one_error o e f h k = cc (table_refused o e h, table_refused o f k)

pub map_or_error : (o : Option Entries) (m : ParentsOf) (e : ParentsFault) → TableGives o m → TableRefuses o e → ⊥
map_or_error None m e h k = h
map_or_error (Some es) m e h k = cc ((given_put es m h).1, refused_put es e k)

same_parent : (ms : Mentions) (m k : ParentsOf) → IsParentMap ms m → IsParentMap ms k → (n : List ℕ) → m n ≡ k n
same_parent ms m k h g n = by (m n) (k n) refl refl
  where
    by : (o p : Option (List ℕ)) → m n ≡ o → k n ≡ p → m n ≡ k n
    by None None a b = a ∙ sym b
    by (Some q) p a b = a ∙ sym ((g.same n q).1 ((h.same n q).0 a))
    by None (Some q) a b = (h.same n q).1 ((g.same n q).0 b) ∙ sym b

pub one_map : (o : Option Entries) (m k : ParentsOf) → TableGives o m → TableGives o k → (n : List ℕ) → m n ≡ k n
one_map None m k h g n = absurd h
one_map (Some es) m k h g n = same_parent (mentions es) m k h.named.is_map g.named.is_map n

-- a reading gives a map or meets an error
pub answered : (o : Option Entries) → ((m : ParentsOf) × TableGives o m) ⊎ ((e : ParentsFault) × TableRefuses o e)
answered o = by (read_entries o) refl
  where
    by : (r : Read) → read_entries o ≡ r → ((m : ParentsOf) × TableGives o m) ⊎ ((e : ParentsFault) × TableRefuses o e)
    by (Ok m) is = inl (m, table_gives o m is)
    by (Err e) is = inr (e, table_refuses o e is)
