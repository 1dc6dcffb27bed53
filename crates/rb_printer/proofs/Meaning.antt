-- The written form of a sound tree is a form, has the tree's keys, and spells the tree.
use Rattle.std.proofs.Common.{◌≡◌, ℕ, List, Option, Some, None, Bool, true, false, Ordering, Less, nat_cmp, inl, inr, refl, sym, ap, ◌∙◌}
use Rattle.std.specs.Cmp.Lexicographic.{slice_cmp}
use Rattle.std.specs.Ordering.{is_eq}
use Rattle.std.proofs.lemmas.Cmp.{nat_list_cmp_total}
use Rattle.std.proofs.lemmas.Map.Text.{is_eq-slice_cmp}
use Rattle.std.proofs.lemmas.Slice.Eq.{bytes_eq-Decides}
use Rattle.rb_tree.specs.Resource.{Resource, string, int, ints, binary, alias, array, table, Resources, no_trees, tree_and, Members, no_entries, entry_and}
use Rattle.rb_grammar.specs.Form as form
use Rattle.rb_grammar.specs.Form.{Body, Entries, Elements, BeginArray, AreSome, IsForm, AreForms, EachIsForm, IsKeyOf}
use Rattle.rb_grammar.specs.Good.{HasKeys, HaveKeys, EachHasKeys, item_at, HasJust, Spells, EachAtItsKey, EachSpells}
use Rattle.rb_grammar.proofs.Rows.{same_or_not, here, skips, Ascend, AscendFrom, ascend_of, tail_absent}
use Rattle.rb_printer.specs.Page.{has_items, has_entries}
use Rattle.rb_printer.specs.inner.Formed.{array_form, table_form, item_form, body_form, items_form, entries_form}
use Rattle.rb_printer.specs.Sound.{IsSound, AreSound, EachSound}
use Rattle.rb_printer.proofs.Forming.{KeysAre, keys_are}
use Rattle.rb_printer.proofs.Numbers.{int_text, element_texts, hex_text}

-- ---- a form

array_is : (b : Bool) (xs : Elements) → (b ≡ true → BeginArray xs) → EachIsForm xs → IsForm (array_form b xs)
array_is true xs begins h = (begins refl, h)
array_is false xs begins h = h

table_is : (b : Bool) (es : Entries) → (b ≡ true → AreSome es) → AreForms es → IsForm (table_form b es)
table_is true es some h = (some refl, h)
table_is false es some h = h

begins_item : (t : Resource) (b : Body) (xs : Elements) → BeginArray (item_form t b xs)
begins_item (string us) b xs = refl
begins_item (int n) b xs = tt
begins_item (ints zs) b xs = tt
begins_item (binary bs) b xs = tt
begins_item (alias us) b xs = tt
begins_item (array ts) b xs = tt
begins_item (table es) b xs = tt

begins : (ts : Resources) → has_items ts ≡ true → BeginArray (items_form ts)
begins no_trees e = tt
begins (tree_and t ts) e = begins_item t (body_form t) (items_form ts)

some : (es : Members) → has_entries es ≡ true → AreSome (entries_form es)
some no_entries e = cc
some (entry_and k t es) e = tt

item_is : (t : Resource) (b : Body) (xs : Elements) → IsForm b → EachIsForm xs → EachIsForm (item_form t b xs)
item_is (string us) b xs p h = h
item_is (int n) b xs p h = (p, h)
item_is (ints zs) b xs p h = (p, h)
item_is (binary bs) b xs p h = (p, h)
item_is (alias us) b xs p h = (p, h)
item_is (array ts) b xs p h = (p, h)
item_is (table es) b xs p h = (p, h)

mutual
  pub is_form : (t : Resource) → IsForm (body_form t)
  is_form (string us) = tt
  is_form (int n) = tt
  is_form (ints zs) = tt
  is_form (binary bs) = tt
  is_form (alias us) = tt
  is_form (array ts) = array_is (has_items ts) (items_form ts) (begins ts) (each_is_form ts)
  is_form (table es) = table_is (has_entries es) (entries_form es) (some es) (are_forms es)

  pub each_is_form : (ts : Resources) → EachIsForm (items_form ts)
  each_is_form no_trees = tt
  each_is_form (tree_and t ts) = item_is t (body_form t) (items_form ts) (is_form t) (each_is_form ts)

  pub are_forms : (es : Members) → AreForms (entries_form es)
  are_forms no_entries = tt
  are_forms (entry_and k t es) = (is_form t, are_forms es)

-- ---- its keys

abbrev cmp : List ℕ → List ℕ → Ordering
cmp = slice_cmp nat_cmp

above : (k : List ℕ) (es : Members) (q : List ℕ) → AscendFrom k es → IsKeyOf (entries_form es) q → cmp k q ≡ Less
above k no_entries q up is = absurd is
above k (entry_and l t es) q up (inl same) = rw same up.0
above k (entry_and l t es) q up (inr later) = nat_list_cmp_total.trans k l q up.0 (above l es q up.1 later)

not_itself : (k : List ℕ) → cmp k k ≡ Less → ⊥
not_itself k e = let same : is_eq (cmp k k) ≡ true = is_eq-slice_cmp k k ∙ (bytes_eq-Decides k k).1 refl in let other : is_eq (cmp k k) ≡ false = ap is_eq e in
    cc

onward : (k : List ℕ) (es : Members) → AscendFrom k es → Ascend es
onward k no_entries up = tt
onward k (entry_and l t es) up = up.1

array_keys : (b : Bool) (xs : Elements) → EachHasKeys xs → HasKeys (array_form b xs)
array_keys true xs h = h
array_keys false xs h = h

table_keys : (b : Bool) (es : Entries) → HaveKeys es → HasKeys (table_form b es)
table_keys true es h = h
table_keys false es h = h

item_keys : (t : Resource) (b : Body) (xs : Elements) → HasKeys b → EachHasKeys xs → EachHasKeys (item_form t b xs)
item_keys (string us) b xs p h = h
item_keys (int n) b xs p h = (p, h)
item_keys (ints zs) b xs p h = (p, h)
item_keys (binary bs) b xs p h = (p, h)
item_keys (alias us) b xs p h = (p, h)
item_keys (array ts) b xs p h = (p, h)
item_keys (table es) b xs p h = (p, h)

mutual
  pub has_keys : (t : Resource) → IsSound t → HasKeys (body_form t)
  has_keys (string us) s = tt
  has_keys (int n) s = tt
  has_keys (ints zs) s = tt
  has_keys (binary bs) s = tt
  has_keys (alias us) s = tt
  has_keys (array ts) s = array_keys (has_items ts) (items_form ts) (each_has_keys ts s)
  has_keys (table es) s = table_keys (has_entries es) (entries_form es) (have_keys es (keys_are es s.0) (ascend_of es s.0) s.1)

  pub each_has_keys : (ts : Resources) → AreSound ts → EachHasKeys (items_form ts)
  each_has_keys no_trees s = tt
  each_has_keys (tree_and t ts) s = item_keys t (body_form t) (items_form ts) (has_keys t s.0) (each_has_keys ts s.1)

  pub have_keys : (es : Members) → KeysAre es → Ascend es → EachSound es → HaveKeys (entries_form es)
  have_keys no_entries ks up s = tt
  have_keys (entry_and k t es) ks up s =
      (ks.0, λ is. not_itself k (above k es k up is), has_keys t s.0, have_keys es ks.1 (onward k es up) s.1)

pub table_has_keys : (es : Members) → IsSound (table es) → HaveKeys (entries_form es)
table_has_keys es s = have_keys es (keys_are es s.0) (ascend_of es s.0) s.1

-- ---- what it spells

has_just : (rows : Members) → HasJust (entries_form rows) rows
has_just no_entries k d e = let none : ◌≡◌ {A = Option Resource} None (Some d) = e in absurd cc
has_just (entry_and l t rows) k d e = elim (same_or_not k l) [
  | inl same ↦ inl same
  | inr other ↦ inr (has_just rows k d (sym (skips k l t rows other) ∙ e))
]

abbrev Within : Members → Members → Type 0
Within es rows = (q : List ℕ) (d : Resource) → item_at q es ≡ Some d → item_at q rows ≡ Some d

within_tail : (k : List ℕ) (t : Resource) (es rows : Members) → AscendFrom k es → Within (entry_and k t es) rows → Within es rows
within_tail k t es rows up w q d e = elim (same_or_not q k) [
  | inl same ↦ let none = tail_absent k es up in let there : item_at k es ≡ Some d = rw (sym same) e in absurd cc
  | inr other ↦ w q d (skips q k t es other ∙ e)
]

array_spells : (b : Bool) (xs : Elements) (ts : Resources) → EachSpells xs ts → Spells (array_form b xs) (array ts)
array_spells true xs ts h = (ts, refl, h)
array_spells false xs ts h = (ts, refl, h)

table_spells : (b : Bool) (es : Entries) (d : Resource) → Spells (form.table es) d → Spells (table_form b es) d
table_spells true es d h = h
table_spells false es d h = h

item_spells : (t : Resource) (b : Body) (xs : Elements) (ts : Resources) → Spells b t → EachSpells xs ts → EachSpells (item_form t b xs) (tree_and t ts)
item_spells (string us) b xs ts p h = (ts, refl, h)
item_spells (int n) b xs ts p h = (int n, ts, refl, p, h)
item_spells (ints zs) b xs ts p h = (ints zs, ts, refl, p, h)
item_spells (binary bs) b xs ts p h = (binary bs, ts, refl, p, h)
item_spells (alias us) b xs ts p h = (alias us, ts, refl, p, h)
item_spells (array us) b xs ts p h = (array us, ts, refl, p, h)
item_spells (table es) b xs ts p h = (table es, ts, refl, p, h)

mutual
  pub spells : (t : Resource) → IsSound t → Spells (body_form t) t
  spells (string us) s = refl
  spells (int n) s = (n, int_text n s, refl)
  spells (ints zs) s = (zs, element_texts zs s, refl)
  spells (binary bs) s = (bs, hex_text bs s, refl)
  spells (alias us) s = refl
  spells (array ts) s = array_spells (has_items ts) (items_form ts) ts (each_spells ts s)
  spells (table es) s =
      table_spells (has_entries es) (entries_form es) (table es)
      (es, refl, s.0, has_just es, each_at_its_key es es (ascend_of es s.0) s.1 (λ q d e. e))

  pub each_spells : (ts : Resources) → AreSound ts → EachSpells (items_form ts) ts
  each_spells no_trees s = refl
  each_spells (tree_and t ts) s = item_spells t (body_form t) (items_form ts) ts (spells t s.0) (each_spells ts s.1)

  pub each_at_its_key : (es rows : Members) → Ascend es → EachSound es → Within es rows → EachAtItsKey (entries_form es) rows
  each_at_its_key no_entries rows up s w = tt
  each_at_its_key (entry_and k t es) rows up s w =
      ((t, w k t (here k t es), spells t s.0), each_at_its_key es rows (onward k es up) s.1 (within_tail k t es rows up w))

pub table_means : (es : Members) → IsSound (table es) → Spells (form.table (entries_form es)) (table es)
table_means es s = (es, refl, s.0, has_just es, each_at_its_key es es (ascend_of es s.0) s.1 (λ q d e. e))
