-- A tree is put byte by byte: its children one after the other, and what follows them.
use Rattle.std.proofs.Common.{◌≡◌, ℕ, zero, suc, ◌+◌, ◌%◌, ◌<◌, ℤ, List, [], ◌∷◌, ◌++◌, length, take, map, Some, refl, sym, ap, ◌∙◌, arith}
use Rattle.std.specs.Prelude.{slice_get}
use Rattle.std.specs.Map.{keys_of, values_of}
use Rattle.std.proofs.lemmas.List.{append_assoc, append-nil, length-append, length-map, take_all}
use Rattle.rb_tree.specs.Resource.{Resource, Resources, no_trees, tree_and, Members, no_entries, entry_and}
use Rattle.rb_tree.specs.Keys.{items, pairs}
use Rattle.rb_tree.specs.View.{view_of}
use Rattle.rb_tree.specs.declared.tree.Tree.{Tree}
use Rattle.rb_tree.specs.declared.tree.Tree.TheVariants as trees
use Rattle.rb_format.specs.declared.kind.ItemKind.{ItemKind}
use Rattle.rb_format.specs.declared.kind.ItemKind.TheVariants as kinds
use Rattle.rb_writer.specs.Bytes.{place_of}
use Rattle.rb_writer.specs.Values.{data_of, item_of, trees_data, trees_items, entries_data, entries_items, array_data, table_data, table_item, item_word}
use Rattle.rb_writer.specs.Values.{text_data, numbers_data, binary_data, skipped}
use Rattle.rb_writer.specs.inner.Growth.{Laid}
use Rattle.rb_writer.specs.inner.Standing.{ChildrenLaid, children_data, children_items, PutsArray, WritesTable, EachLaid, TreeLaid}
use Rattle.rb_writer.specs.declared.keys.KeyOffsets.{KeyOffsets}
use Rattle.rb_writer.proofs.Laying.{array_laid, table_laid}

data_snoc : (at : List ℕ → ℕ) (n : ℕ) (cs : List Resource) (u : Resource)
    → children_data at n (cs ++ u ∷ []) ≡ children_data at n cs ++ data_of at (n + length (children_data at n cs)) u
data_snoc at n [] u = let z : n + 0 ≡ n = omega arith in rw z (append-nil (data_of at n u))
data_snoc at n (t ∷ cs) u =
    let d : List ℕ = data_of at n t in
    let x : List ℕ = children_data at (n + length d) cs in
    let m : n + length (d ++ x) ≡ n + length d + length x = omega (arith, length-append d x) in
    rw m (ap (λ (y : List ℕ). d ++ y) (data_snoc at (n + length d) cs u) ∙ sym (append_assoc d x (data_of at (n + length d + length x) u)))

items_snoc : (at : List ℕ → ℕ) (n : ℕ) (cs : List Resource) (u : Resource)
    → children_items at n (cs ++ u ∷ []) ≡ children_items at n cs ++ item_of at (n + length (children_data at n cs)) u ∷ []
items_snoc at n [] u = let z : n + 0 ≡ n = omega arith in rw z refl
items_snoc at n (t ∷ cs) u =
    let d : List ℕ = data_of at n t in
    let x : List ℕ = children_data at (n + length d) cs in
    let m : n + length (d ++ x) ≡ n + length d + length x = omega (arith, length-append d x) in
    rw m (ap (λ (y : List ℕ). item_of at n t ∷ y) (items_snoc at (n + length d) cs u))

take_next : (cs : List Resource) (i : ℕ) (u : Resource) → Some u ≡ slice_get cs i → take (suc i) cs ≡ take i cs ++ u ∷ []
take_next [] i u e = cc
take_next (t ∷ cs) zero u e = let s : t ≡ u = cc in rw s refl
take_next (t ∷ cs) (suc i) u e = ap (λ (xs : List Resource). t ∷ xs) (take_next cs i u e)

pub none_laid_yet : (at : List ℕ → ℕ) (old : List ℕ) (cs : List Resource) → ChildrenLaid at old old cs [] 0
none_laid_yet at old cs = record { joined = sym (append-nil old); items_are = refl }

pub laid_more : (at : List ℕ → ℕ) (old mid new : List ℕ) (cs : List Resource) (is : List ℕ) (n item : ℕ) (u : Resource) → ChildrenLaid at old mid cs is n
    → Some u ≡ slice_get cs n → Laid mid new (data_of at (length mid) u) (item_of at (length mid) u) item
    → ChildrenLaid at old new cs (is ++ item ∷ []) (n + 1)
laid_more at old mid new cs is n item u c e p =
    let up : n + 1 ≡ suc n = omega arith in
    let before : List Resource = take n cs in
    let x : List ℕ = children_data at (length old) before in
    let len : length mid ≡ length old + length x = ap length c.joined ∙ length-append old x in
    let next : take (suc n) cs ≡ before ++ u ∷ [] = take_next cs n u e in
    let d : List ℕ = data_of at (length old + length x) u in
    let new_is : new ≡ mid ++ d = p.joined ∙ ap (λ m. mid ++ data_of at m u) len in
    record {
      joined = rw (up, next) (new_is ∙ ap (λ (m : List ℕ). m ++ d) c.joined ∙ append_assoc old x d
          ∙ ap (λ (m : List ℕ). old ++ m) (sym (data_snoc at (length old) before u)));
      items_are = rw (up, next) (ap (λ m. is ++ m ∷ []) (p.place_is ∙ ap (λ m. item_of at m u) len)
          ∙ ap (λ (m : List ℕ). m ++ item_of at (length old + length x) u ∷ []) c.items_are ∙ sym (items_snoc at (length old) before u));
    }

trees_data_are : (at : List ℕ → ℕ) (n : ℕ) (ts : Resources) → children_data at n (items ts) ≡ trees_data at n ts
trees_data_are at n no_trees = refl
trees_data_are at n (tree_and t ts) = ap (λ (m : List ℕ). data_of at n t ++ m) (trees_data_are at (n + length (data_of at n t)) ts)

trees_items_are : (at : List ℕ → ℕ) (n : ℕ) (ts : Resources) → children_items at n (items ts) ≡ trees_items at n ts
trees_items_are at n no_trees = refl
trees_items_are at n (tree_and t ts) = ap (λ (m : List ℕ). item_of at n t ∷ m) (trees_items_are at (n + length (data_of at n t)) ts)

entries_data_are : (at : List ℕ → ℕ) (n : ℕ) (es : Members) → children_data at n (values_of (pairs es)) ≡ entries_data at n es
entries_data_are at n no_entries = refl
entries_data_are at n (entry_and k t es) = ap (λ (m : List ℕ). data_of at n t ++ m) (entries_data_are at (n + length (data_of at n t)) es)

entries_items_are : (at : List ℕ → ℕ) (n : ℕ) (es : Members) → children_items at n (values_of (pairs es)) ≡ entries_items at n es
entries_items_are at n no_entries = refl
entries_items_are at n (entry_and k t es) = ap (λ (m : List ℕ). item_of at n t ∷ m) (entries_items_are at (n + length (data_of at n t)) es)

-- all children were put
all_laid : (at : List ℕ → ℕ) (old mid : List ℕ) (cs : List Resource) (is : List ℕ) (n : ℕ) → ChildrenLaid at old mid cs is n → n ≡ length cs
    → (mid ≡ old ++ children_data at (length old) cs) × (is ≡ children_items at (length old) cs)
all_laid at old mid cs is n c e =
    let all : take n cs ≡ cs = take_all n cs (omega (arith, e)) in
    (c.joined ∙ ap (λ (xs : List Resource). old ++ children_data at (length old) xs) all, c.items_are ∙ ap (children_items at (length old)) all)

-- what is put after the children stands after the old
after : (old mid new x own : List ℕ) → mid ≡ old ++ x → new ≡ mid ++ own → new ≡ old ++ (x ++ own)
after old mid new x own p q = q ∙ ap (λ (m : List ℕ). m ++ own) p ∙ append_assoc old x own

no_items : (is : List ℕ) → length is ≡ 0 → is ≡ []
no_items [] h = refl
no_items (i ∷ is) h = absurd (omega arith)

-- ---- each kind of tree

pub array_laid_whole : (keys : KeyOffsets) (old mid new is : List ℕ) (n o word : ℕ) (ts : Resources) (t : Tree) → t ≡ trees.Array ts
    → EachLaid keys old mid (items ts) is n → n ≡ length (items ts) → PutsArray mid new is o → 0 < length is → word ≡ item_word kinds.Array o
    → TreeLaid keys old new (view_of t) word
array_laid_whole keys old mid new is n o word ts t eq each e p some w = rw eq (λ at a.
    let c = all_laid at old mid (items ts) is n (each at a) e in
    let x : List ℕ = trees_data at (length old) ts in
    let mid_is : mid ≡ old ++ x = c.0 ∙ ap (λ (m : List ℕ). old ++ m) (trees_data_are at (length old) ts) in
    let is_are : is ≡ trees_items at (length old) ts = c.1 ∙ trees_items_are at (length old) ts in
    let len : length mid ≡ length old + length x = ap length mid_is ∙ length-append old x in
    let own = array_laid mid new is o some p in
    record {
      joined = after old mid new x (array_data (trees_items at (length old) ts)) mid_is (own.joined ∙ ap (λ (m : List ℕ). mid ++ array_data m) is_are);
      place_is = w ∙ ap (item_word kinds.Array) (own.place_is ∙ ap (λ (m : List ℕ). place_of (length mid) m) is_are
          ∙ ap (λ m. place_of m (trees_items at (length old) ts)) len);
    })

pub empty_array_laid : (keys : KeyOffsets) (old mid is : List ℕ) (n word : ℕ) (ts : Resources) (t : Tree) → t ≡ trees.Array ts
    → EachLaid keys old mid (items ts) is n → n ≡ length (items ts) → length is ≡ 0 → word ≡ item_word kinds.Array 0
    → TreeLaid keys old mid (view_of t) word
empty_array_laid keys old mid is n word ts t eq each e none w = rw eq (λ at a.
    let c = all_laid at old mid (items ts) is n (each at a) e in
    let x : List ℕ = trees_data at (length old) ts in
    let mid_is : mid ≡ old ++ x = c.0 ∙ ap (λ (m : List ℕ). old ++ m) (trees_data_are at (length old) ts) in
    let is_are : trees_items at (length old) ts ≡ [] = sym (c.1 ∙ trees_items_are at (length old) ts) ∙ no_items is none in
    record {
      joined = rw is_are (mid_is ∙ ap (λ (m : List ℕ). old ++ m) (sym (append-nil x)));
      place_is = rw is_are w;
    })

pub table_laid_whole : (keys : KeyOffsets) (old mid new is : List ℕ) (n word : ℕ) (es : Members) (t : Tree) → t ≡ trees.Table es
    → EachLaid keys old mid (values_of (pairs es)) is n → n ≡ length (pairs es) → WritesTable keys es mid new is word → length is ≡ length (pairs es)
    → 0 < length is → length mid % 4 ≡ 0 → TreeLaid keys old new (view_of t) word
table_laid_whole keys old mid new is n word es t eq each e p len_is some whole = rw eq (λ at a.
    let vl : length (values_of (pairs es)) ≡ length (pairs es) = length-map (pairs es) (λ q. q.1) in
    let c = all_laid at old mid (values_of (pairs es)) is n (each at a) (e ∙ sym vl) in
    let x : List ℕ = entries_data at (length old) es in
    let mid_is : mid ≡ old ++ x = c.0 ∙ ap (λ (m : List ℕ). old ++ m) (entries_data_are at (length old) es) in
    let is_are : is ≡ entries_items at (length old) es = c.1 ∙ entries_items_are at (length old) es in
    let len : length mid ≡ length old + length x = ap length mid_is ∙ length-append old x in
    let os : List ℕ = map at (keys_of (pairs es)) in
    let own = table_laid keys at es mid new is word a p len_is some whole in
    record {
      joined = after old mid new x (table_data os (entries_items at (length old) es)) mid_is (own.joined ∙ ap (λ (m : List ℕ). mid ++ table_data os m) is_are);
      place_is = own.place_is ∙ ap (λ (m : List ℕ). table_item (length mid) os m) is_are
          ∙ ap (λ m. table_item m os (entries_items at (length old) es)) len;
    })

no_offsets : (at : List ℕ → ℕ) (es : Members) → length (pairs es) ≡ 0 → map at (keys_of (pairs es)) ≡ []
no_offsets at no_entries h = refl
no_offsets at (entry_and k t es) h = absurd (omega arith)

pub empty_table_laid : (keys : KeyOffsets) (old mid is : List ℕ) (n word : ℕ) (es : Members) (t : Tree) → t ≡ trees.Table es
    → EachLaid keys old mid (values_of (pairs es)) is n → n ≡ length (pairs es) → length is ≡ 0 → length is ≡ n → word ≡ item_word kinds.Table 0
    → TreeLaid keys old mid (view_of t) word
empty_table_laid keys old mid is n word es t eq each e none count w = rw eq (λ at a.
    let vl : length (values_of (pairs es)) ≡ length (pairs es) = length-map (pairs es) (λ q. q.1) in
    let c = all_laid at old mid (values_of (pairs es)) is n (each at a) (e ∙ sym vl) in
    let x : List ℕ = entries_data at (length old) es in
    let mid_is : mid ≡ old ++ x = c.0 ∙ ap (λ (m : List ℕ). old ++ m) (entries_data_are at (length old) es) in
    let is_are : entries_items at (length old) es ≡ [] = sym (c.1 ∙ entries_items_are at (length old) es) ∙ no_items is none in
    let os_are : map at (keys_of (pairs es)) ≡ [] = no_offsets at es (omega (arith, none, count, e)) in
    record {
      joined = rw is_are (mid_is ∙ ap (λ (m : List ℕ). old ++ m) (sym (append-nil x)));
      place_is = rw (is_are, os_are) w;
    })
