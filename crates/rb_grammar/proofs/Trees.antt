-- Proves that a form spells one tree, as high as the form.
use Rattle.std.proofs.Common.{◌≡◌, ℕ, ℤ, suc, ◌≤◌, max, Bool, true, false, List, [], ◌∷◌, Option, Some, None, refl, sym, ap, ◌∙◌, arith, ◌⊎◌, inl, inr}
use Rattle.rb_tree.specs.Resource.{Resource, height, Resources, no_trees, tree_and, trees_height, Members}
use Rattle.rb_tree.specs.Resource as resource
use Rattle.rb_tree.specs.Keys.{IsKey, IsTable}
use Rattle.rb_grammar.specs.Numeral.{IsIntText, IsElementText, IsHexText}
use Rattle.rb_grammar.specs.Form.{Leaf, string, alias, binary, int, ints, Body, plain, group, listed, leaf, table, array, Entries, no_entries, entry, Elements}
use Rattle.rb_grammar.specs.Form.{no_elements, one_text, one_body, IsKeyOf}
use Rattle.rb_grammar.specs.Good.{HasKeys, HaveKeys, EachHasKeys, text_or_none, AreElementTexts, LeafSpells, item_at, HasJust, Spells, EachAtItsKey, EachSpells}
use Rattle.rb_grammar.specs.Reading.{Tests}
use Rattle.rb_grammar.specs.Tests.{AreTests}
use Rattle.rb_grammar.proofs.Numbers.{int_one, element_one, bytes_one}
use Rattle.rb_grammar.proofs.Rows.{same_or_not, some_is, absent, ascend_of, rows_same, put, item-put, item-put_other, table_none, table_put, item_low, rows_low}
use Rattle.rb_grammar.proofs.Sound.{TextPassed, NumbersPassed, LeafPassed, Passed, AllPassed, EachPassed}
use Rattle.rb_grammar.proofs.Height.{body_height, entries_height, elements_height}

-- ---- one tree

key_or_not : (es : Entries) (q : List ℕ) → IsKeyOf es q ⊎ (IsKeyOf es q → ⊥)
key_or_not no_entries q = inr (λ h. h)
key_or_not (entry k b c es) q = elim (same_or_not q k) [
  | inl is ↦ inl (inl is)
  | inr other ↦ elim (key_or_not es q) [ inl h ↦ inl (inr h) | inr isnt ↦ inr (neither other isnt) ]
] where
  neither : (q ≡ k → ⊥) → (IsKeyOf es q → ⊥) → (q ≡ k) ⊎ IsKeyOf es q → ⊥
  neither other isnt (inl h) = other h
  neither other isnt (inr h) = isnt h

elements_one : (ns : List (List ℕ × Bool)) (ys zs : List ℤ) → AreElementTexts ns ys → AreElementTexts ns zs → ys ≡ zs
elements_one [] [] [] p q = refl
elements_one [] [] (z ∷ zs) p q = absurd q
elements_one [] (y ∷ ys) zs p q = absurd p
elements_one (n ∷ ns) [] zs p q = absurd p
elements_one (n ∷ ns) (y ∷ ys) [] p q = absurd q
elements_one (n ∷ ns) (y ∷ ys) (z ∷ zs) p q = ap (λ x. x ∷ ys) (element_one n.0 y z p.0 q.0) ∙ ap (λ xs. z ∷ xs) (elements_one ns ys zs p.1 q.1)

leaf_one : (l : Leaf) (d e : Resource) → LeafSpells l d → LeafSpells l e → d ≡ e
leaf_one (string t) d e p q = p ∙ sym q
leaf_one (alias t) d e p q = p ∙ sym q
leaf_one (binary long t) d e p q = p.2 ∙ ap resource.binary (bytes_one (text_or_none t) p.0 q.0 p.1 q.1) ∙ sym q.2
leaf_one (int long s) d e p q = p.2 ∙ ap resource.int (int_one s p.0 q.0 p.1 q.1) ∙ sym q.2
leaf_one (ints ns) d e p q = p.2 ∙ ap resource.ints (elements_one ns p.0 q.0 p.1 q.1) ∙ sym q.2

table_one : (es : Entries) (r s : Members) → IsTable r → IsTable s → HasJust es r → HasJust es s → ((k : List ℕ) → IsKeyOf es k → item_at k r ≡ item_at k s)
    → r ≡ s
table_one es r s t u just other at_keys = rows_same r s (ascend_of r t) (ascend_of s u) (λ k. elim (key_or_not es k) [
  | inl h ↦ at_keys k h
  | inr isnt ↦ absent (item_at k r) (λ d h. isnt (just k d h)) ∙ sym (absent (item_at k s) (λ d h. isnt (other k d h)))
])

mutual
  pub tree_one : (b : Body) (d e : Resource) → Spells b d → Spells b e → d ≡ e
  tree_one (plain t) d e p q = p ∙ sym q
  tree_one (group es) d e p q = p.1 ∙ ap resource.table (table_one es p.0 q.0 p.2 q.2 p.3 q.3 (λ k h. at_key_one es p.0 q.0 k p.4 q.4 h)) ∙ sym q.1
  tree_one (listed xs) d e p q = p.1 ∙ ap resource.array (trees_one xs p.0 q.0 p.2 q.2) ∙ sym q.1
  tree_one (leaf l) d e p q = leaf_one l d e p q
  tree_one (table es) d e p q = p.1 ∙ ap resource.table (table_one es p.0 q.0 p.2 q.2 p.3 q.3 (λ k h. at_key_one es p.0 q.0 k p.4 q.4 h)) ∙ sym q.1
  tree_one (array xs) d e p q = p.1 ∙ ap resource.array (trees_one xs p.0 q.0 p.2 q.2) ∙ sym q.1

  at_key_one : (es : Entries) (r s : Members) (k : List ℕ) → EachAtItsKey es r → EachAtItsKey es s → IsKeyOf es k → item_at k r ≡ item_at k s
  at_key_one no_entries r s k p q h = absurd h
  at_key_one (entry l b c es) r s k p q (inl is) = rw is (p.0.1 ∙ ap (λ d. Some d) (tree_one b p.0.0 q.0.0 p.0.2 q.0.2) ∙ sym q.0.1)
  at_key_one (entry l b c es) r s k p q (inr h) = at_key_one es r s k p.1 q.1 h

  trees_one : (xs : Elements) (ts us : Resources) → EachSpells xs ts → EachSpells xs us → ts ≡ us
  trees_one no_elements ts us p q = p ∙ sym q
  trees_one (one_text t c xs) ts us p q = p.1 ∙ ap (tree_and (resource.string t)) (trees_one xs p.0 q.0 p.2 q.2) ∙ sym q.1
  trees_one (one_body b c xs) ts us p q =
      p.2 ∙ ap (λ d. tree_and d p.1) (tree_one b p.0 q.0 p.3 q.3) ∙ ap (tree_and q.0) (trees_one xs p.1 q.1 p.4 q.4) ∙ sym q.2

-- ---- its height

leaf_height : (l : Leaf) (d : Resource) → LeafSpells l d → height d ≡ 1
leaf_height (string t) d p = ap height p
leaf_height (alias t) d p = ap height p
leaf_height t d p = ap height p.2

table_height : (es : Entries) (rows : Members) → IsTable rows → HasJust es rows
    → ((q : List ℕ) (d : Resource) → IsKeyOf es q → item_at q rows ≡ Some d → height d ≤ entries_height es) → entries_height es ≤ resource.entries_height rows
    → resource.entries_height rows ≡ entries_height es
table_height es rows t just low high = let same = rows_low rows (entries_height es) (ascend_of rows t) (λ q d h. low q d (just q d h) h) in omega arith

mutual
  pub tree_height : (b : Body) (d : Resource) → Spells b d → height d ≡ body_height b
  tree_height (plain t) d p = ap height p
  tree_height (group es) d p = ap height p.1 ∙ ap suc (table_height es p.0 p.2 p.3 (λ q d h e. at_key_low es p.0 q d p.4 h e) (at_key_high es p.0 p.4))
  tree_height (listed xs) d p = ap height p.1 ∙ ap suc (array_height xs p.0 p.2)
  tree_height (leaf l) d p = leaf_height l d p
  tree_height (table es) d p = ap height p.1 ∙ ap suc (table_height es p.0 p.2 p.3 (λ q d h e. at_key_low es p.0 q d p.4 h e) (at_key_high es p.0 p.4))
  tree_height (array xs) d p = ap height p.1 ∙ ap suc (array_height xs p.0 p.2)

  at_key_low : (es : Entries) (rows : Members) (q : List ℕ) (d : Resource) → EachAtItsKey es rows → IsKeyOf es q → item_at q rows ≡ Some d
      → height d ≤ entries_height es
  at_key_low no_entries rows q d p h e = absurd h
  at_key_low (entry k b c es) rows q d p (inl is) e =
      let same : height p.0.0 ≡ height d = ap height (some_is p.0.0 d (sym p.0.1 ∙ ap (λ x. item_at x rows) (sym is) ∙ e)) in
      let high = tree_height b p.0.0 p.0.2 in
      omega arith
  at_key_low (entry k b c es) rows q d p (inr h) e = let low = at_key_low es rows q d p.1 h e in omega arith

  at_key_high : (es : Entries) (rows : Members) → EachAtItsKey es rows → entries_height es ≤ resource.entries_height rows
  at_key_high no_entries rows p = omega arith
  at_key_high (entry k b c es) rows p =
      let first = item_low k rows p.0.0 p.0.1 in
      let high = tree_height b p.0.0 p.0.2 in
      let others = at_key_high es rows p.1 in
      omega arith

  array_height : (xs : Elements) (ts : Resources) → EachSpells xs ts → trees_height ts ≡ elements_height xs
  array_height no_elements ts p = ap trees_height p
  array_height (one_text t c xs) ts p = let others = array_height xs p.0 p.2 in ap trees_height p.1 ∙ ap (max 1) others
  array_height (one_body b c xs) ts p =
      ap trees_height p.2 ∙ ap (λ n. max n (trees_height p.1)) (tree_height b p.0 p.3) ∙ ap (max (body_height b)) (array_height xs p.1 p.4)

-- ---- there is one, if the tests have passed

each_still : (es : Entries) (rows : Members) (k : List ℕ) (d : Resource) → (IsKeyOf es k → ⊥) → EachAtItsKey es rows → EachAtItsKey es (put k d rows)
each_still no_entries rows k d other p = tt
each_still (entry l b c es) rows k d other p =
    ((p.0.0, item-put_other l k d rows (λ same. other (inl (sym same))) ∙ p.0.1, p.0.2), each_still es rows k d (λ h. other (inr h)) p.1)

module _ (tests : Tests) (are : AreTests tests) where
  elements_there : (ns : List (List ℕ × Bool)) → NumbersPassed tests ns → (zs : List ℤ) × AreElementTexts ns zs
  elements_there [] passed = ([], tt)
  elements_there (n ∷ ns) passed = let z = are.elements.0 n.0 passed.0 in let zs = elements_there ns passed.1 in (z.0 ∷ zs.0, (z.1, zs.1))

  bytes_there : (t : Option (List ℕ)) → TextPassed tests t tests.is_hex → (bytes : List ℕ) × IsHexText (text_or_none t) bytes
  bytes_there None passed = ([], ([], tt, refl, refl))
  bytes_there (Some s) passed = are.bytes.0 s passed

  leaf_there : (l : Leaf) → LeafPassed tests l → (d : Resource) × LeafSpells l d
  leaf_there (string t) passed = (resource.string (text_or_none t), refl)
  leaf_there (alias t) passed = (resource.alias (text_or_none t), refl)
  leaf_there (binary long t) passed = let h = bytes_there t passed in (resource.binary h.0, (h.0, h.1, refl))
  leaf_there (int long s) passed = let h = are.ints.0 s passed in (resource.int h.0, (h.0, h.1, refl))
  leaf_there (ints ns) passed = let h = elements_there ns passed in (resource.ints h.0, (h.0, h.1, refl))

  pub record Rows (es : Entries) : Type 0 where
    pub rows : Members
    pub table : IsTable rows
    pub just : HasJust es rows
    pub each : EachAtItsKey es rows

  one_more : (k : List ℕ) (b : Body) (c : Bool) (es : Entries) (d : Resource) → Spells b d → IsKey k → (IsKeyOf es k → ⊥) → Rows es → Rows (entry k b c es)
  one_more k b c es d spelled good once r = record {
    rows = put k d r.rows;
    table = table_put k d r.rows good r.table;
    just = λ q e h. just q e h;
    each = ((d, item-put k d r.rows, spelled), each_still es r.rows k d once r.each);
  } where
    just : (q : List ℕ) (e : Resource) → item_at q (put k d r.rows) ≡ Some e → (q ≡ k) ⊎ IsKeyOf es q
    just q e h = elim (same_or_not q k) [
      | inl same ↦ inl same
      | inr other ↦ inr (r.just q e (sym (item-put_other q k d r.rows other) ∙ h))
    ]

  mutual
    pub tree_there : (b : Body) → Passed tests b → (d : Resource) × Spells b d
    tree_there (plain t) passed = (resource.string t, refl)
    tree_there (group es) passed = let r = rows_there es passed in (resource.table r.rows, (r.rows, refl, r.table, r.just, r.each))
    tree_there (listed xs) passed = let h = trees_there xs passed in (resource.array h.0, (h.0, refl, h.1))
    tree_there (leaf l) passed = leaf_there l passed
    tree_there (table es) passed = let r = rows_there es passed in (resource.table r.rows, (r.rows, refl, r.table, r.just, r.each))
    tree_there (array xs) passed = let h = trees_there xs passed in (resource.array h.0, (h.0, refl, h.1))

    rows_there : (es : Entries) → AllPassed tests es → Rows es
    rows_there no_entries passed = record { rows = resource.no_entries; table = table_none; just = λ q e h. absurd cc; each = tt }
    rows_there (entry k b c es) passed = let h = tree_there b passed.2 in one_more k b c es h.0 h.1 (are.keys.0 k passed.0) passed.1 (rows_there es passed.3)

    trees_there : (xs : Elements) → EachPassed tests xs → (ts : Resources) × EachSpells xs ts
    trees_there no_elements passed = (no_trees, refl)
    trees_there (one_text t c xs) passed = let h = trees_there xs passed in (tree_and (resource.string t) h.0, (h.0, refl, h.1))
    trees_there (one_body b c xs) passed = let d = tree_there b passed.0 in let h = trees_there xs passed.1 in (tree_and d.0 h.0, (d.0, h.0, refl, d.1, h.1))

  -- what is spelled has passed the tests, and has its keys
  passed_test : (s : List ℕ) (b : Bool) → tests.is_key s ≡ b → IsKey s → tests.is_key s ≡ true
  passed_test s true e h = e
  passed_test s false e h = absurd (are.keys.1 s e h)

  means_passes : {A : Type 0} (test : List ℕ → Bool) (means : List ℕ → A → Type 0) (s : List ℕ) (x : A)
      → ((s : List ℕ) → test s ≡ false → (x : A) → means s x → ⊥) → means s x → test s ≡ true
  means_passes test means s x not h = by (test s) refl where
    by : (b : Bool) → test s ≡ b → test s ≡ true
    by true e = e
    by false e = absurd (not s e x h)

  elements_passed : (ns : List (List ℕ × Bool)) (zs : List ℤ) → AreElementTexts ns zs → NumbersPassed tests ns
  elements_passed [] zs h = tt
  elements_passed (n ∷ ns) [] h = absurd h
  elements_passed (n ∷ ns) (z ∷ zs) h = (means_passes tests.is_element IsElementText n.0 z are.elements.1 h.0, elements_passed ns zs h.1)

  bytes_passed : (t : Option (List ℕ)) (bytes : List ℕ) → IsHexText (text_or_none t) bytes → TextPassed tests t tests.is_hex
  bytes_passed None bytes h = tt
  bytes_passed (Some s) bytes h = means_passes tests.is_hex IsHexText s bytes are.bytes.1 h

  leaf_passed : (l : Leaf) (d : Resource) → LeafSpells l d → LeafPassed tests l
  leaf_passed (string t) d h = tt
  leaf_passed (alias t) d h = tt
  leaf_passed (binary long t) d h = bytes_passed t h.0 h.1
  leaf_passed (int long s) d h = means_passes tests.is_int IsIntText s h.0 are.ints.1 h.1
  leaf_passed (ints ns) d h = elements_passed ns h.0 h.1

  mutual
    pub passed_tree : (b : Body) (d : Resource) → HasKeys b → Spells b d → Passed tests b
    passed_tree (plain t) d keys h = tt
    passed_tree (group es) d keys h = passed_rows es h.0 keys h.4
    passed_tree (listed xs) d keys h = passed_trees xs h.0 keys h.2
    passed_tree (leaf l) d keys h = leaf_passed l d h
    passed_tree (table es) d keys h = passed_rows es h.0 keys h.4
    passed_tree (array xs) d keys h = passed_trees xs h.0 keys h.2

    pub passed_rows : (es : Entries) (rows : Members) → HaveKeys es → EachAtItsKey es rows → AllPassed tests es
    passed_rows no_entries rows keys h = tt
    passed_rows (entry k b c es) rows keys h =
        (passed_test k (tests.is_key k) refl keys.0, keys.1, passed_tree b h.0.0 keys.2 h.0.2, passed_rows es rows keys.3 h.1)

    passed_trees : (xs : Elements) (ts : Resources) → EachHasKeys xs → EachSpells xs ts → EachPassed tests xs
    passed_trees no_elements ts keys h = tt
    passed_trees (one_text t c xs) ts keys h = passed_trees xs h.0 keys h.2
    passed_trees (one_body b c xs) ts keys h = (passed_tree b h.0 keys.0 h.3, passed_trees xs h.1 keys.1 h.4)

  mutual
    pub passed_keys : (b : Body) → Passed tests b → HasKeys b
    passed_keys (plain t) p = tt
    passed_keys (group es) p = rows_keys es p
    passed_keys (listed xs) p = trees_keys xs p
    passed_keys (leaf l) p = tt
    passed_keys (table es) p = rows_keys es p
    passed_keys (array xs) p = trees_keys xs p

    pub rows_keys : (es : Entries) → AllPassed tests es → HaveKeys es
    rows_keys no_entries p = tt
    rows_keys (entry k b c es) p = (are.keys.0 k p.0, p.1, passed_keys b p.2, rows_keys es p.3)

    trees_keys : (xs : Elements) → EachPassed tests xs → EachHasKeys xs
    trees_keys no_elements p = tt
    trees_keys (one_text t c xs) p = trees_keys xs p
    trees_keys (one_body b c xs) p = (passed_keys b p.0, trees_keys xs p.1)
