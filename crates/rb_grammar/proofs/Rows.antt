-- Members of a table in order: what is at each key, one more, and that these determine a table.
use Rattle.std.proofs.Common.{◌≡◌, ℕ, suc, ◌≤◌, max, List, [], ◌∷◌, Option, Some, None, Ordering, Less, Equal, Greater, nat_cmp, Bool, true, false, cond, All}
use Rattle.std.proofs.Common.{refl, sym, ap, subst, ◌∙◌, arith, ◌⊎◌, inl, inr}
use Rattle.std.specs.Prelude.{nat_eq}
use Rattle.std.specs.Cmp.Lexicographic.{slice_cmp, pointwise}
use Rattle.std.specs.List.{AllByRecursion}
use Rattle.std.specs.List.Sorted.{IsStrictlySortedBy}
use Rattle.std.specs.Map.{keys_of}
use Rattle.std.specs.Ordering.{match_ordering, ordering_reverse, is_eq}
use Rattle.std.proofs.lemmas.Cmp.{nat_list_cmp_total}
use Rattle.std.proofs.lemmas.List.Elements.{All-cons}
use Rattle.std.proofs.lemmas.Map.Text.{is_eq-slice_cmp}
use Rattle.std.proofs.lemmas.Slice.Eq.{bytes_eq-Decides}
use Rattle.rb_tree.specs.Resource.{Resource, height, Members, no_entries, entry_and, entries_height}
use Rattle.rb_tree.specs.Keys.{IsKey, IsTable, pairs}
use Rattle.rb_grammar.specs.Good.{item_at}

abbrev cmp : List ℕ → List ℕ → Ordering
cmp = slice_cmp nat_cmp

pub same_or_not : (xs ys : List ℕ) → (xs ≡ ys) ⊎ (xs ≡ ys → ⊥)
same_or_not xs ys = decided (pointwise nat_eq xs ys) refl where
  decided : (b : Bool) → pointwise nat_eq xs ys ≡ b → (xs ≡ ys) ⊎ (xs ≡ ys → ⊥)
  decided true e = inl ((bytes_eq-Decides xs ys).0 e)
  decided false e = inr (λ same. let yes = (bytes_eq-Decides xs ys).1 same in absurd cc)

-- ---- what is at a key

pub here : (k : List ℕ) (d : Resource) (rows : Members) → item_at k (entry_and k d rows) ≡ Some d
here k d rows = rw ((bytes_eq-Decides k k).1 refl) refl

pub skips : (q k : List ℕ) (d : Resource) (rows : Members) → (q ≡ k → ⊥) → item_at q (entry_and k d rows) ≡ item_at q rows
skips q k d rows other = by (pointwise nat_eq q k) refl where
  by : (b : Bool) → pointwise nat_eq q k ≡ b → cond b (Some d) (item_at q rows) ≡ item_at q rows
  by true e = absurd (other ((bytes_eq-Decides q k).0 e))
  by false e = refl

differ : (o : Option Resource) (d : Resource) → o ≡ None → o ≡ Some d → ⊥
differ o d e f = cc

pub some_is : (d e : Resource) → ◌≡◌ {A = Option Resource} (Some d) (Some e) → d ≡ e
some_is d e h = cc

pub absent : (o : Option Resource) → ((d : Resource) → o ≡ Some d → ⊥) → o ≡ None
absent None h = refl
absent (Some d) h = absurd (h d refl)

-- ---- the order

abbrev pub AscendFrom : List ℕ → Members → Type 0
AscendFrom low no_entries = Unit {0}
AscendFrom low (entry_and k d rows) = (cmp low k ≡ Less) × AscendFrom k rows

abbrev pub Ascend : Members → Type 0
Ascend no_entries = Unit {0}
Ascend (entry_and k d rows) = AscendFrom k rows

sorted_from : (low : List ℕ) (rows : Members) → AllByRecursion (λ k. cmp low k ≡ Less) (keys_of (pairs rows)) → IsStrictlySortedBy cmp (keys_of (pairs rows))
    → AscendFrom low rows
unfolding IsStrictlySortedBy
sorted_from low no_entries all sorted = tt
sorted_from low (entry_and k d rows) all sorted = (all.0, sorted_from k rows sorted.0 sorted.1)

ascend_sorted_of : (rows : Members) → IsStrictlySortedBy cmp (keys_of (pairs rows)) → Ascend rows
unfolding IsStrictlySortedBy
ascend_sorted_of no_entries sorted = tt
ascend_sorted_of (entry_and k d rows) sorted = sorted_from k rows sorted.0 sorted.1

pub ascend_of : (rows : Members) → IsTable rows → Ascend rows
ascend_of rows t = ascend_sorted_of rows t.ascend

above_all : (low : List ℕ) (rows : Members) → AscendFrom low rows → AllByRecursion (λ k. cmp low k ≡ Less) (keys_of (pairs rows))
above_all low no_entries up = tt
above_all low (entry_and k d rows) up = (up.0, later low k rows up.0 up.1) where
  later : (low k : List ℕ) (rows : Members) → cmp low k ≡ Less → AscendFrom k rows → AllByRecursion (λ q. cmp low q ≡ Less) (keys_of (pairs rows))
  later low k no_entries below up = tt
  later low k (entry_and l e rows) below up = let lower : cmp low l ≡ Less = nat_list_cmp_total.trans low k l below up.0 in (lower, later low l rows lower up.1)

ascend_from : (k : List ℕ) (rows : Members) → AscendFrom k rows → Ascend rows
ascend_from k no_entries up = tt
ascend_from k (entry_and l d rows) up = up.1

pub ascend_sorted : (rows : Members) → Ascend rows → IsStrictlySortedBy cmp (keys_of (pairs rows))
unfolding IsStrictlySortedBy
ascend_sorted no_entries up = tt
ascend_sorted (entry_and k d rows) up = (above_all k rows up, ascend_sorted rows (ascend_from k rows up))

greater_is : (k l : List ℕ) → cmp k l ≡ Greater → cmp l k ≡ Less
greater_is k l e = nat_list_cmp_total.antisymm l k ∙ ap ordering_reverse e

not_itself : (k : List ℕ) → cmp k k ≡ Less → ⊥
not_itself k e = let same : is_eq (cmp k k) ≡ true = is_eq-slice_cmp k k ∙ (bytes_eq-Decides k k).1 refl in let other : is_eq (cmp k k) ≡ false = ap is_eq e in
    cc

below_other : (k l : List ℕ) → cmp k l ≡ Less → k ≡ l → ⊥
below_other k l below same = not_itself k (ap (cmp k) same ∙ below)

below_absent : (q k : List ℕ) (rows : Members) → cmp q k ≡ Less → AscendFrom k rows → item_at q rows ≡ None
below_absent q k no_entries below up = refl
below_absent q k (entry_and l d rows) below up =
    let lower : cmp q l ≡ Less = nat_list_cmp_total.trans q k l below up.0 in skips q l d rows (below_other q l lower) ∙ below_absent q l rows lower up.1

first_absent : (q l : List ℕ) (e : Resource) (rows : Members) → cmp q l ≡ Less → AscendFrom l rows → item_at q (entry_and l e rows) ≡ None
first_absent q l e rows below up = skips q l e rows (below_other q l below) ∙ below_absent q l rows below up

pub tail_absent : (k : List ℕ) (rows : Members) → AscendFrom k rows → item_at k rows ≡ None
tail_absent k no_entries up = refl
tail_absent k (entry_and l d rows) up = first_absent k l d rows up.0 up.1

-- ---- tables differ in what is at some key

abbrev pub Same : Members → Members → Type 0
Same r s = (q : List ℕ) → item_at q r ≡ item_at q s

joined : (k : List ℕ) (d e : Resource) (r s : Members) → AscendFrom k r → AscendFrom k s → Same (entry_and k d r) (entry_and k e s) → (Same r s → r ≡ s)
    → entry_and k d r ≡ entry_and k e s
joined k d e r s p q same later =
    let first : d ≡ e = some_is d e (sym (here k d r) ∙ same k ∙ here k e s) in
    ap (λ x. entry_and k x r) first ∙ ap (entry_and k e) (later (λ n. elim (same_or_not n k) [
      | inl is ↦ rw is (tail_absent k r p ∙ sym (tail_absent k s q))
      | inr other ↦ sym (skips n k d r other) ∙ same n ∙ skips n k e s other
    ]))

heads : (o : Ordering) (k l : List ℕ) (d e : Resource) (r s : Members) → cmp k l ≡ o → AscendFrom k r → AscendFrom l s
    → Same (entry_and k d r) (entry_and l e s) → (Same r s → r ≡ s) → entry_and k d r ≡ entry_and l e s
heads Less k l d e r s is p q same later = absurd (differ (item_at k (entry_and l e s)) d (first_absent k l e s is q) (sym (same k) ∙ here k d r))
heads Greater k l d e r s is p q same later = absurd (differ (item_at l (entry_and k d r)) e (first_absent l k d r (greater_is k l is) p) (same l ∙ here l e s))
heads Equal k l d e r s is p q same later =
    let key : k ≡ l = (bytes_eq-Decides k l).0 (sym (is_eq-slice_cmp k l) ∙ ap is_eq is) in
    subst (λ (n : List ℕ). AscendFrom n s → Same (entry_and k d r) (entry_and n e s) → entry_and k d r ≡ entry_and n e s) key
    (λ q same. joined k d e r s p q same later) q same

pub rows_same : (r s : Members) → Ascend r → Ascend s → Same r s → r ≡ s
rows_same no_entries no_entries p q same = refl
rows_same no_entries (entry_and l e s) p q same = absurd (differ (item_at l no_entries) e refl (same l ∙ here l e s))
rows_same (entry_and k d r) no_entries p q same = absurd (differ (item_at k no_entries) d refl (sym (same k) ∙ here k d r))
rows_same (entry_and k d r) (entry_and l e s) p q same =
    heads (cmp k l) k l d e r s refl p q same (λ h. rows_same r s (ascend_from k r p) (ascend_from l s q) h)

-- ---- one more

abbrev pub put : List ℕ → Resource → Members → Members
put k d no_entries = entry_and k d no_entries
put k d (entry_and l e rows) = match_ordering (cmp k l) (entry_and k d (entry_and l e rows)) (entry_and l d rows) (entry_and l e (put k d rows))

put_at : (o : Ordering) (k l : List ℕ) (d e : Resource) (rows : Members) → cmp k l ≡ o → item_at k (put k d rows) ≡ Some d
    → item_at k (match_ordering o (entry_and k d (entry_and l e rows)) (entry_and l d rows) (entry_and l e (put k d rows))) ≡ Some d
put_at Less k l d e rows is later = here k d (entry_and l e rows)
put_at Equal k l d e rows is later =
    let key : k ≡ l = (bytes_eq-Decides k l).0 (sym (is_eq-slice_cmp k l) ∙ ap is_eq is) in
    ap (λ q. item_at k (entry_and q d rows)) (sym key) ∙ here k d rows
put_at Greater k l d e rows is later = skips k l e (put k d rows) (λ same. below_other l k (greater_is k l is) (sym same)) ∙ later

pub item-put : (k : List ℕ) (d : Resource) (rows : Members) → item_at k (put k d rows) ≡ Some d
item-put k d no_entries = here k d no_entries
item-put k d (entry_and l e rows) = put_at (cmp k l) k l d e rows refl (item-put k d rows)

put_other_at : (o : Ordering) (q k l : List ℕ) (d e : Resource) (rows : Members) → cmp k l ≡ o → (q ≡ k → ⊥) → item_at q (put k d rows) ≡ item_at q rows
    → item_at q (match_ordering o (entry_and k d (entry_and l e rows)) (entry_and l d rows) (entry_and l e (put k d rows))) ≡ item_at q (entry_and l e rows)
put_other_at Less q k l d e rows is other later = skips q k d (entry_and l e rows) other
put_other_at Equal q k l d e rows is other later =
    let same : k ≡ l = (bytes_eq-Decides k l).0 (sym (is_eq-slice_cmp k l) ∙ ap is_eq is) in
    let apart = λ (h : q ≡ l). other (h ∙ sym same) in
    skips q l d rows apart ∙ sym (skips q l e rows apart)
put_other_at Greater q k l d e rows is other later = ap (λ r. cond (pointwise nat_eq q l) (Some e) r) later

pub item-put_other : (q k : List ℕ) (d : Resource) (rows : Members) → (q ≡ k → ⊥) → item_at q (put k d rows) ≡ item_at q rows
item-put_other q k d no_entries other = skips q k d no_entries other
item-put_other q k d (entry_and l e rows) other = put_other_at (cmp k l) q k l d e rows refl other (item-put_other q k d rows other)

ascend_put_at : (o : Ordering) (low k l : List ℕ) (d e : Resource) (rows : Members) → cmp k l ≡ o → cmp low k ≡ Less → AscendFrom low (entry_and l e rows)
    → (cmp l k ≡ Less → AscendFrom l (put k d rows))
    → AscendFrom low (match_ordering o (entry_and k d (entry_and l e rows)) (entry_and l d rows) (entry_and l e (put k d rows)))
ascend_put_at Less low k l d e rows is below up later = (below, (is, up.1))
ascend_put_at Equal low k l d e rows is below up later = up
ascend_put_at Greater low k l d e rows is below up later = (up.0, later (greater_is k l is))

ascend_put : (low k : List ℕ) (d : Resource) (rows : Members) → cmp low k ≡ Less → AscendFrom low rows → AscendFrom low (put k d rows)
ascend_put low k d no_entries below up = (below, tt)
ascend_put low k d (entry_and l e rows) below up = ascend_put_at (cmp k l) low k l d e rows refl below up (λ h. ascend_put l k d rows h up.1)

ascend_first : (k : List ℕ) (d : Resource) (rows : Members) → Ascend rows → Ascend (put k d rows)
ascend_first k d no_entries up = tt
ascend_first k d (entry_and l e rows) up = placed (cmp k l) refl where
  placed : (o : Ordering) → cmp k l ≡ o → Ascend (match_ordering o (entry_and k d (entry_and l e rows)) (entry_and l d rows) (entry_and l e (put k d rows)))
  placed Less is = (is, up)
  placed Equal is = up
  placed Greater is = ascend_put l k d rows (greater_is k l is) up

keys_put_at : (o : Ordering) (k l : List ℕ) (d e : Resource) (rows : Members) → IsKey k → All IsKey (l ∷ keys_of (pairs rows))
    → (All IsKey (keys_of (pairs rows)) → All IsKey (keys_of (pairs (put k d rows))))
    → All IsKey (keys_of (pairs (match_ordering o (entry_and k d (entry_and l e rows)) (entry_and l d rows) (entry_and l e (put k d rows)))))
keys_put_at Less k l d e rows good all later = All-cons IsKey k (l ∷ keys_of (pairs rows)) good all
keys_put_at Equal k l d e rows good all later = all
keys_put_at Greater k l d e rows good all later =
    All-cons IsKey l (keys_of (pairs (put k d rows))) (all 0 [] (omega arith)) (later (λ i q h. all (suc i) q (omega arith)))

keys_put : (k : List ℕ) (d : Resource) (rows : Members) → IsKey k → All IsKey (keys_of (pairs rows)) → All IsKey (keys_of (pairs (put k d rows)))
keys_put k d no_entries good all = All-cons IsKey k [] good all
keys_put k d (entry_and l e rows) good all = keys_put_at (cmp k l) k l d e rows good all (λ h. keys_put k d rows good h)

pub table_none : IsTable no_entries
table_none = record { keys_ok = λ i q h. absurd (omega arith); ascend = ascend_sorted no_entries tt }

pub table_put : (k : List ℕ) (d : Resource) (rows : Members) → IsKey k → IsTable rows → IsTable (put k d rows)
table_put k d rows good t =
    record { keys_ok = keys_put k d rows good t.keys_ok; ascend = ascend_sorted (put k d rows) (ascend_first k d rows (ascend_of rows t)) }

-- ---- heights

item_low_at : (b : Bool) (t d : Resource) (o : Option Resource) (n : ℕ) → (o ≡ Some d → height d ≤ n) → cond b (Some t) o ≡ Some d → height d ≤ max (height t) n
item_low_at true t d o n later e = let same : height t ≡ height d = ap height (some_is t d e) in omega arith
item_low_at false t d o n later e = omega (arith, later e)

pub item_low : (q : List ℕ) (rows : Members) (d : Resource) → item_at q rows ≡ Some d → height d ≤ entries_height rows
item_low q no_entries d e = absurd (differ (item_at q no_entries) d refl e)
item_low q (entry_and k t rows) d e = item_low_at (pointwise nat_eq q k) t d (item_at q rows) (entries_height rows) (λ h. item_low q rows d h) e

pub rows_low : (rows : Members) (n : ℕ) → Ascend rows → ((q : List ℕ) (d : Resource) → item_at q rows ≡ Some d → height d ≤ n) → entries_height rows ≤ n
rows_low no_entries n up each = omega arith
rows_low (entry_and k d rows) n up each =
    let first = each k d (here k d rows) in
    let others =
    rows_low rows n (ascend_from k rows up) (λ q e h. each q e
    (skips q k d rows (λ same. differ (item_at q rows) e (ap (λ x. item_at x rows) same ∙ tail_absent k rows up) h) ∙ h)) in
    omega arith
