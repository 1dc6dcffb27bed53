-- Proves the binary search among the entries of a table.
use Rattle.std.proofs.Common.{◌≡◌, ℕ, zero, suc, ◌<◌, ◌≤◌, ◌⊎◌, inl, inr, List, [], ◌∷◌, length, get_or, cond, nat_eq, Some, None, Result, Ok, Err, MatchResult}
use Rattle.std.proofs.Common.{refl, ap, sym, subst, ◌∙◌, arith}
use Rattle.std.proofs.Math.Nat.{eq-or-lt_of_le}
use Rattle.std.proofs.lemmas.Cmp.{nat_list_cmp_total, nat_list_eq_equiv}
use Rattle.std.proofs.lemmas.Map.Text.{is_eq-slice_cmp}
use Rattle.std.proofs.lemmas.Map.Keys.{Less-from_sorted, IsDistinct-from_sorted, IsDistinct-from_apart, apart_from_distinct}
use Rattle.std.proofs.lemmas.Map.Entries.{lookup_from_place, lookup_at_gap}
use Rattle.std.proofs.lemmas.List.{length-map}
use Rattle.std.proofs.lemmas.Slice.Eq.{bytes_eq-Decides}
use Rattle.std.specs.declared.cmp.Ordering.{Ordering}
use Rattle.std.specs.declared.cmp.Ordering.TheVariants.{Less, Equal, Greater}
use Rattle.std.specs.Ordering.{nat_cmp, ordering_index, ordering_reverse, is_eq, eq_by_cmp}
use Rattle.std.specs.BTreeMap.{is_at}
use Rattle.std.specs.Cmp.Lexicographic.{pointwise, slice_cmp}
use Rattle.std.specs.List.{slice_get, IsDistinct}
use Rattle.std.specs.List.Sorted.{IsSearchInRange, IsBinarySearchResult, IsNonDecreasingBy}
use Rattle.std.specs.Map.{lookup, keys_of}
use Rattle.rb_tree.specs.Resource.{Resource}
use Rattle.rb_tree.specs.Keys.{pairs, IsTable}
use Rattle.rb_tree.specs.View.{view_of, entries_of}
use Rattle.rb_tree.specs.declared.tree.Entry.{Entry}
use Rattle.rb_tree.specs.declared.tree.Tree.TheVariants.{Int}
use Rattle.rb_tree.proofs.Views.{entries_of_len}

turned : (a b : List ℕ) → slice_cmp nat_cmp a b ≡ Less → slice_cmp nat_cmp b a ≡ Greater
turned a b h = nat_list_cmp_total.antisymm b a ∙ ap ordering_reverse h

turned_back : (a b : List ℕ) → slice_cmp nat_cmp a b ≡ Greater → slice_cmp nat_cmp b a ≡ Less
turned_back a b h = nat_list_cmp_total.antisymm b a ∙ ap ordering_reverse h

-- a key that is not below q is below no key that is at most q
past_equal : (a b q : List ℕ) → slice_cmp nat_cmp a b ≡ Less → slice_cmp nat_cmp a q ≡ Equal → slice_cmp nat_cmp b q ≡ Greater
past_equal a b q h e = turned q b (sym (nat_list_cmp_total.congr a q b e) ∙ h)

past_greater : (a b q : List ℕ) → slice_cmp nat_cmp a b ≡ Less → slice_cmp nat_cmp a q ≡ Greater → slice_cmp nat_cmp b q ≡ Greater
past_greater a b q h e = turned q b (nat_list_cmp_total.trans q a b (turned_back a q e) h)

-- along rising keys, the comparisons with one key rise
rising : (a b q : List ℕ) (o p : Ordering) → slice_cmp nat_cmp a b ≡ Less → slice_cmp nat_cmp a q ≡ o → slice_cmp nat_cmp b q ≡ p
    → ordering_index o ≤ ordering_index p
rising a b q Less p h e f = omega arith
rising a b q Equal Less h e f = let g = past_equal a b q h e in cc
rising a b q Equal Equal h e f = omega arith
rising a b q Equal Greater h e f = omega arith
rising a b q Greater Less h e f = let g = past_greater a b q h e in cc
rising a b q Greater Equal h e f = let g = past_greater a b q h e in cc
rising a b q Greater Greater h e f = omega arith

key_get : (es : List Entry) (i : ℕ) (d : Entry) → get_or (keys_of (pairs (entries_of es))) i d.key ≡ (get_or es i d).key
key_get [] i d = refl
key_get (e ∷ es) zero d = refl
key_get (e ∷ es) (suc i) d = key_get es i d

entry_get : (es : List Entry) (i : ℕ) (d : Entry) → i < length es
    → slice_get (pairs (entries_of es)) i ≡ Some ((get_or es i d).key, view_of (get_or es i d).tree)
entry_get [] i d h = absurd (omega arith)
entry_get (e ∷ es) zero d h = refl
entry_get (e ∷ es) (suc i) d h = entry_get es i d (omega arith)

same_lookup : (q : List ℕ) (ps : List (List ℕ × Resource)) → lookup (is_at (slice_cmp nat_cmp q)) ps ≡ lookup (pointwise nat_eq q) ps
same_lookup q [] = refl
same_lookup q (p ∷ ps) = λ i. cond (is_eq-slice_cmp q p.0 i) (Some p.1) (same_lookup q ps i)

got : {A : Type 0} (xs : List A) (i : ℕ) (x : A) → slice_get xs i ≡ Some x → i < length xs
got [] i x h = absurd cc
got (y ∷ xs) zero x h = omega arith
got (y ∷ xs) (suc i) x h = omega (arith, got xs i x h)

blank : Entry
blank = record { key = []; tree = Int 0 }

module _ (q : List ℕ) (es : List Entry) (table : IsTable (entries_of es)) where
  keys : List (List ℕ)
  keys = keys_of (pairs (entries_of es))

  keys_len : length (keys_of (pairs (entries_of es))) ≡ length es
  keys_len = length-map (pairs (entries_of es)) (λ e. e.0) ∙ entries_of_len es

  ascending : (i j : ℕ) (d : Entry) → i < j → j < length es → slice_cmp nat_cmp (get_or es i d).key (get_or es j d).key ≡ Less
  ascending i j d h l =
      let less = Less-from_sorted (slice_cmp nat_cmp) (keys_of (pairs (entries_of es))) i j d.key table.ascend h (omega (arith, keys_len)) in
      rw (← key_get es i d, ← key_get es j d) less

  rises : IsNonDecreasingBy (λ e. ordering_index (slice_cmp nat_cmp e.key q)) es
  rises i j d h l = by (eq-or-lt_of_le h)
    where
      by : (i ≡ j) ⊎ (i < j) → ordering_index (slice_cmp nat_cmp (get_or es i d).key q) ≤ ordering_index (slice_cmp nat_cmp (get_or es j d).key q)
      by (inl e) =
          subst (λ k. ordering_index (slice_cmp nat_cmp (get_or es i d).key q) ≤ ordering_index (slice_cmp nat_cmp (get_or es k d).key q)) e (omega arith)
      by (inr u) = rising (get_or es i d).key (get_or es j d).key q _ _ (ascending i j d u l) refl refl

  apart : IsDistinct (pointwise nat_eq) (keys_of (pairs (entries_of es)))
  apart = IsDistinct-from_apart (pointwise nat_eq) (keys_of (pairs (entries_of es))) (λ i j d h l.
      sym (is_eq-slice_cmp (get_or (keys_of (pairs (entries_of es))) i d) (get_or (keys_of (pairs (entries_of es))) j d))
      ∙ apart_from_distinct (eq_by_cmp (slice_cmp nat_cmp)) (keys_of (pairs (entries_of es))) i j d
      (IsDistinct-from_sorted (slice_cmp nat_cmp) (keys_of (pairs (entries_of es))) table.ascend) h l)

  -- a hit is the entry with the key, and a miss says that there is none
  pub halved : (r : Result ℕ ℕ) → IsSearchInRange r (length es) → IsBinarySearchResult (λ e. slice_cmp nat_cmp e.key q) es r
      → MatchResult r (λ i. (d : Entry) → lookup (pointwise nat_eq q) (pairs (entries_of es)) ≡ Some (view_of (get_or es i d).tree))
      (λ i. lookup (pointwise nat_eq q) (pairs (entries_of es)) ≡ None)
  halved (Ok i) within equal = λ d.
      let same : (get_or es i d).key ≡ q = (bytes_eq-Decides (get_or es i d).key q).0 (sym (is_eq-slice_cmp (get_or es i d).key q) ∙ ap is_eq (equal d)) in
      subst (λ (k : List ℕ). lookup (pointwise nat_eq k) (pairs (entries_of es)) ≡ Some (view_of (get_or es i d).tree)) same
      (lookup_from_place {eq = pointwise nat_eq} nat_list_eq_equiv (pairs (entries_of es)) i (get_or es i d).key (view_of (get_or es i d).tree) apart
      (entry_get es i d within))
  halved (Err i) within parted =
      sym (same_lookup q (pairs (entries_of es))) ∙ lookup_at_gap nat_list_cmp_total q (pairs (entries_of es)) i table.ascend before behind
    where
      key_is : (j : ℕ) (e : List ℕ × Resource) → j < length es → slice_get (pairs (entries_of es)) j ≡ Some e → (get_or es j blank).key ≡ e.0
      key_is j e l h =
          let both : Some ((get_or es j blank).key, view_of (get_or es j blank).tree) ≡ Some e = sym (entry_get es j blank l) ∙ h in
          let same : ((get_or es j blank).key, view_of (get_or es j blank).tree) ≡ e = cc in
          ap (λ (x : List ℕ × Resource). x.0) same

      before : (j : ℕ) (e : List ℕ × Resource) → j < i → slice_get (pairs (entries_of es)) j ≡ Some e → slice_cmp nat_cmp q e.0 ≡ Greater
      before j e l h =
          let k = key_is j e (omega arith) h in
          turned e.0 q (rw (← k) ((parted rises).0 j blank (omega arith) l))

      behind : (e : List ℕ × Resource) → slice_get (pairs (entries_of es)) i ≡ Some e → slice_cmp nat_cmp q e.0 ≡ Less
      behind e h =
          let l : i < length es = rw (← entries_of_len es) (got (pairs (entries_of es)) i e h) in
          let k = key_is i e l h in
          turned_back e.0 q (rw (← k) ((parted rises).1 i blank (omega arith) l))
