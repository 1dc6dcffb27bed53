-- The error of a reading of explicit parents is that of the first invalid entry.
use Rattle.std.proofs.Common.{◌≡◌, ℕ, List, [], ◌∷◌, ◌++◌, Option, Some, None, Ok, Err, is_some, cond, nat_eq, refl, ap, sym, ◌∙◌, subst}
use Rattle.std.proofs.Common.{append_assoc, append-nil}
use Rattle.std.proofs.lemmas.List.{map_push}
use Rattle.std.specs.Cmp.Lexicographic.{pointwise}
use Rattle.std.specs.Map.{update}
use Rattle.rb_tree.specs.Resource.{Resource}
use Rattle.rb_locales.specs.Locale.{name}
use Rattle.rb_parents.specs.Trail.{ParentsOf}
use Rattle.rb_parents.specs.ParentMap.{Entries, Mentions, texts_in, mentions, mentions_by, IsNamed}
use Rattle.rb_parents.specs.Explicit.{ChildError, IsFirstBadChild, EntryError, IsFirstError, TableGives, TableRefuses}
use Rattle.rb_parents.specs.inner.Entries.{Read, and_then, put_child, put_children, put_value, put_entry, put_entries, no_parents, read_entries}
use Rattle.rb_parents.specs.declared.fault.ParentsFault.{ParentsFault}
use Rattle.rb_parents.specs.declared.fault.ParentsFault.TheVariants as fault
use Rattle.rb_parents.proofs.ParentMaps.{put_all, each_push, child_put, entries_all, all_named, entries_give}

child_error : (ms : Mentions) (parent : List ℕ) (o : Option (List ℕ)) (known : ParentsOf) (e : ParentsFault) → IsNamed ms known
    → put_child parent o known ≡ Err e → ChildError ms o e
child_error ms parent None known e valid h = cc
child_error ms parent (Some child) known e valid h = by (known child) refl h
  where
    by : (o : Option (List ℕ)) → known child ≡ o
        → cond (is_some o) (Err fault.TwoParents) (Ok (update (pointwise nat_eq) known child (Some parent))) ≡ Err e → ChildError ms (Some child) e
    by None f g = cc
    by (Some q) f g = let w = (valid.is_map.same child q).0 f in (cc, (w.0, q, w.1))

children_error : (ms : Mentions) (key parent : List ℕ) → name key ≡ Some parent → (before uss : List (List ℕ)) (known : ParentsOf) (e : ParentsFault)
    → put_all (ms ++ mentions_by key before) no_parents ≡ Ok known → put_children parent uss known ≡ Err e → IsFirstBadChild ms key (before ++ uss) e
children_error ms key parent is before [] known e so_far h = cc
children_error ms key parent is before (us ∷ uss) known e so_far h =
    by (put_child parent (name us) known) refl h (λ more g k. children_error ms key parent is (before ++ us ∷ []) uss more e g k)
  where
    on : (more : ParentsOf) → put_child parent (name us) known ≡ Ok more → put_all (ms ++ mentions_by key (before ++ us ∷ [])) no_parents ≡ Ok more
    on more f =
        ap (λ l. put_all (ms ++ l) no_parents) (map_push (λ vs. (vs, key)) before us)
        ∙ ap (λ l. put_all l no_parents) (sym (append_assoc ms (mentions_by key before) ((us, key) ∷ [])))
        ∙ each_push _ (ms ++ mentions_by key before) (us, key) no_parents known more so_far (child_put key parent us known is ∙ f)

    by : (r : Read) → put_child parent (name us) known ≡ r → and_then (λ more. put_children parent uss more) r ≡ Err e
        → ((more : ParentsOf) → put_all (ms ++ mentions_by key (before ++ us ∷ [])) no_parents ≡ Ok more → put_children parent uss more ≡ Err e
        → IsFirstBadChild ms key ((before ++ us ∷ []) ++ uss) e)
        → IsFirstBadChild ms key (before ++ us ∷ uss) e
    by (Ok more) f g go = subst (λ l. IsFirstBadChild ms key l e) (append_assoc before (us ∷ []) uss) (go more (on more f) g)
    by (Err d) f g go =
        let valid = all_named (ms ++ mentions_by key before) known so_far in
        record {
          before = before;
          text = us;
          after = uss;
          are = refl;
          known = known;
          valid = valid;
          error = child_error (ms ++ mentions_by key before) parent (name us) known e valid (f ∙ g);
        }

entry_error : (ms : Mentions) (x : List ℕ × Resource) (known : ParentsOf) (e : ParentsFault) → put_all ms no_parents ≡ Ok known
    → put_entry (name x.0) x.1 known ≡ Err e → EntryError ms x.0 (name x.0) (texts_in x.1) e
entry_error ms x known e so_far h = by (name x.0) refl h
  where
    in_value : (parent : List ℕ) → name x.0 ≡ Some parent → (p : Option (List (List ℕ))) → put_value parent p known ≡ Err e
        → EntryError ms x.0 (Some parent) p e
    in_value parent f None g = cc
    in_value parent f (Some uss) g =
        children_error ms x.0 parent f [] uss known e (ap (λ l. put_all l no_parents) (append-nil ms) ∙ so_far) g

    by : (o : Option (List ℕ)) → name x.0 ≡ o → put_entry o x.1 known ≡ Err e → EntryError ms x.0 o (texts_in x.1) e
    by None f g = cc
    by (Some parent) f g = in_value parent f (texts_in x.1) g

entries_error : (before es : Entries) (known : ParentsOf) (e : ParentsFault) → put_entries before no_parents ≡ Ok known → put_entries es known ≡ Err e
    → IsFirstError (before ++ es) e
entries_error before [] known e so_far h = cc
entries_error before (x ∷ es) known e so_far h =
    by (put_entry (name x.0) x.1 known) refl h (λ more g k. entries_error (before ++ x ∷ []) es more e g k)
  where
    by : (r : Read) → put_entry (name x.0) x.1 known ≡ r → and_then (λ more. put_entries es more) r ≡ Err e
        → ((more : ParentsOf) → put_entries (before ++ x ∷ []) no_parents ≡ Ok more → put_entries es more ≡ Err e
        → IsFirstError ((before ++ x ∷ []) ++ es) e)
        → IsFirstError (before ++ x ∷ es) e
    by (Ok more) f g go =
        subst (λ l. IsFirstError l e) (append_assoc before (x ∷ []) es) (go more (each_push _ before x no_parents known more so_far f) g)
    by (Err d) f g go = record {
      before = before;
      entry = x;
      after = es;
      are = refl;
      known = known;
      valid = entries_give before known so_far;
      error = entry_error (mentions before) x known e (entries_all before no_parents known so_far) (f ∙ g);
    }

pub table_gives : (o : Option Entries) (m : ParentsOf) → read_entries o ≡ Ok m → TableGives o m
table_gives None m e = cc
table_gives (Some es) m e = entries_give es m e

pub table_refuses : (o : Option Entries) (e : ParentsFault) → read_entries o ≡ Err e → TableRefuses o e
table_refuses None e h = cc
table_refuses (Some es) e h = entries_error [] es no_parents e refl h
