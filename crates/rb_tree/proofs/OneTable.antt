-- Proves that two different sorted lists of entries differ at some key.
use Rattle.std.proofs.Common.{◌≡◌, ℕ, List, Option, Some, None, Bool, true, false, cond, nat_eq, refl, sym, ap, subst, ◌∙◌}
use Rattle.std.proofs.lemmas.Cmp.{nat_list_cmp_total}
use Rattle.std.proofs.lemmas.Map.Text.{is_eq-slice_cmp}
use Rattle.std.proofs.lemmas.Map.Keys.{sorted_head, sorted_tail}
use Rattle.std.proofs.lemmas.Slice.Eq.{bytes_eq-Decides}
use Rattle.std.specs.declared.cmp.Ordering.{Ordering}
use Rattle.std.specs.declared.cmp.Ordering.TheVariants.{Less, Equal, Greater}
use Rattle.std.specs.Ordering.{nat_cmp, ordering_reverse, is_eq}
use Rattle.std.specs.Cmp.Lexicographic.{pointwise, slice_cmp}
use Rattle.std.specs.List.{AllByRecursion}
use Rattle.std.specs.List.Sorted.{IsStrictlySortedBy}
use Rattle.std.specs.Map.{lookup, keys_of}
use Rattle.rb_tree.specs.Resource.{Resource, table, Members, no_entries, entry_and}
use Rattle.rb_tree.specs.Keys.{pairs}
use Rattle.rb_tree.specs.Table.{IsTableOf}

abbrev at : List ℕ → Members → Option Resource
at q es = lookup (pointwise nat_eq q) (pairs es)

abbrev Above : List ℕ → Members → Type 0
Above q es = AllByRecursion (λ k. slice_cmp nat_cmp q k ≡ Less) (keys_of (pairs es))

-- a key below another isn't that one
not_same : (q k : List ℕ) → slice_cmp nat_cmp q k ≡ Less → pointwise nat_eq q k ≡ false
not_same q k h = sym (is_eq-slice_cmp q k) ∙ ap is_eq h

is_same : (k : List ℕ) → pointwise nat_eq k k ≡ true
is_same k = (bytes_eq-Decides k k).1 refl

absent : (q : List ℕ) (es : Members) → Above q es → at q es ≡ None
absent q no_entries h = refl
absent q (entry_and k t es) h = rw (not_same q k h.0) (absent q es h.1)

above_more : (q k : List ℕ) (es : Members) → slice_cmp nat_cmp q k ≡ Less → Above k es → Above q es
above_more q k no_entries h up = tt
above_more q k (entry_and l t es) h up = (nat_list_cmp_total.trans q k l h up.0, above_more q k es h up.1)

here : (k : List ℕ) (t : Resource) (es : Members) → at k (entry_and k t es) ≡ Some t
here k t es = rw (is_same k) refl

differ : (o : Option Resource) (t : Resource) → o ≡ None → o ≡ Some t → ⊥
differ o t e f = cc

some_is : (t u : Resource) → ◌≡◌ {A = Option Resource} (Some t) (Some u) → t ≡ u
some_is t u h = cc

-- after equal first keys the rest agrees
rest_same : (k : List ℕ) (t u : Resource) (es fs : Members) → Above k es → Above k fs → ((q : List ℕ) → at q (entry_and k t es) ≡ at q (entry_and k u fs))
    → (q : List ℕ) → at q es ≡ at q fs
rest_same k t u es fs p r same q = by (pointwise nat_eq q k) refl (same q)
  where
    by : (b : Bool) → pointwise nat_eq q k ≡ b → cond b (Some t) (at q es) ≡ cond b (Some u) (at q fs) → at q es ≡ at q fs
    by true e h =
        let is : q ≡ k = (bytes_eq-Decides q k).0 e in
        subst (λ (x : List ℕ). at x es ≡ at x fs) (sym is) (absent k es p ∙ sym (absent k fs r))
    by false e h = h

heads : (o : Ordering) (k l : List ℕ) (t u : Resource) (es fs : Members) → slice_cmp nat_cmp k l ≡ o → Above k es → Above l fs
    → ((q : List ℕ) → at q (entry_and k t es) ≡ at q (entry_and l u fs)) → (((q : List ℕ) → at q es ≡ at q fs) → es ≡ fs) → entry_and k t es ≡ entry_and l u fs
heads Less k l t u es fs is p r same later =
    absurd (differ (at k (entry_and l u fs)) t (absent k (entry_and l u fs) (is, above_more k l fs is r)) (sym (same k) ∙ here k t es))
heads Greater k l t u es fs is p r same later =
    let less : slice_cmp nat_cmp l k ≡ Less = nat_list_cmp_total.antisymm l k ∙ ap ordering_reverse is in
    absurd (differ (at l (entry_and k t es)) u (absent l (entry_and k t es) (less, above_more l k es less p)) (same l ∙ here l u fs))
heads Equal k l t u es fs is p r same later =
    let key : l ≡ k = sym ((bytes_eq-Decides k l).0 (sym (is_eq-slice_cmp k l) ∙ ap is_eq is)) in
    let r' : Above k fs = subst (λ (x : List ℕ). Above x fs) key r in
    let same' : (q : List ℕ) → at q (entry_and k t es) ≡ at q (entry_and k u fs) =
    subst (λ (x : List ℕ). (q : List ℕ) → at q (entry_and k t es) ≡ at q (entry_and x u fs)) key same in
    let first : t ≡ u = some_is t u (sym (here k t es) ∙ same' k ∙ here k u fs) in
    ap (λ (x : Resource). entry_and k x es) first ∙ ap (entry_and k u) (later (rest_same k t u es fs p r' same'))
    ∙ ap (λ (x : List ℕ). entry_and x u fs) (sym key)

pub one_order : (es fs : Members) → IsStrictlySortedBy (slice_cmp nat_cmp) (keys_of (pairs es)) → IsStrictlySortedBy (slice_cmp nat_cmp) (keys_of (pairs fs))
    → ((q : List ℕ) → lookup (pointwise nat_eq q) (pairs es) ≡ lookup (pointwise nat_eq q) (pairs fs)) → es ≡ fs
one_order no_entries no_entries p r same = refl
one_order no_entries (entry_and l u fs) p r same = absurd (differ None u refl (same l ∙ here l u fs))
one_order (entry_and k t es) no_entries p r same = absurd (differ None t refl (sym (same k) ∙ here k t es))
one_order (entry_and k t es) (entry_and l u fs) p r same =
    heads (slice_cmp nat_cmp k l) k l t u es fs refl
    (sorted_head (slice_cmp nat_cmp) k (keys_of (pairs es)) p) (sorted_head (slice_cmp nat_cmp) l (keys_of (pairs fs)) r) same
    (λ h. one_order es fs (sorted_tail (slice_cmp nat_cmp) k (keys_of (pairs es)) p) (sorted_tail (slice_cmp nat_cmp) l (keys_of (pairs fs)) r) h)

pub one_table : (ps : List (List ℕ × Resource)) (t u : Resource) → IsTableOf ps t → IsTableOf ps u → t ≡ u
one_table ps t u a b = a.is ∙ ap table (one_order a.entries b.entries a.ordered.ascend b.ordered.ascend (λ q. a.same q ∙ sym (b.same q))) ∙ sym b.is
