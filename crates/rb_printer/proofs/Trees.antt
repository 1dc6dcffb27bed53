-- Proves the loops over arrays and tables, by the characters that remain to be written.
use Rattle.std.proofs.Common.{◌≡◌, ℕ, zero, suc, ◌+◌, ◌<◌, ◌≤◌, Bool, true, false, not, List, [], ◌∷◌, ◌++◌, length, refl, sym, ap, subst, ◌∙◌, arith, add-one, append-nil, Some}
use Rattle.std.specs.Prelude.{slice_get}
use Rattle.std.specs.Map.{keys_of, values_of}
use Rattle.std.specs.Fmt.{decimal}
use Rattle.std.proofs.Common.{◌^◌}
use Rattle.rb_tree.specs.Resource.{Resource, string, int, ints, binary, alias, array, table, Resources, no_trees, tree_and, Members, no_entries, entry_and}
use Rattle.rb_tree.specs.Keys.{IsTable, items, pairs}
use Rattle.rb_tree.specs.Parts.{kind_of, len_of, children_of, pairs_of, units_of, numbers_of, bytes_of, int_of}
use Rattle.rb_tree.specs.declared.kind.Kind.TheVariants as Kinds
use Rattle.rb_grammar.specs.Form.{table_word}
use Rattle.rb_printer.specs.Sign.{Sign, feed, left, right, comma, text, pieces, is_word, is_name, text_chars, sign_chars, signs_chars}
use Rattle.rb_printer.specs.Page.{hex_first, hex_later, is_short, pause, wraps, item_fits, remaining_after_item}
use Rattle.rb_printer.specs.Page.{indent, has_entries, is_guessed, numbers_signs, type_unless, gap, item_signs}
use Rattle.rb_printer.specs.Page.{body_signs, items_signs, entries_signs, items_of, members_of}
use Rattle.rb_printer.specs.Sound.{IsSound, AreSound, EachSound, IsWell, AreWell, EachWell}
use Rattle.rb_printer.specs.inner.Growth.{Adds, Owes, Exceeds}
use Rattle.rb_printer.specs.declared.error.PrintError.{PrintError}
use Rattle.rb_printer.proofs.Growths.{adds_more, owes_all, owes_step, owes_end, exceeds_in}
use Rattle.rb_printer.proofs.Puts.{adds_as}
use Rattle.rb_printer.proofs.Words.{decimal_word}
use Rattle.rb_printer.proofs.Loops.{owes_as}
use Rattle.rb_printer.proofs.Splits.{same, front, pause_splits, indent_splits, numbers_split, unless_splits, gap_splits, item_splits, body_splits, entries_split}

-- ---- arrays

abbrev pub drop_trees : ℕ → Resources → Resources
drop_trees zero ts = ts
drop_trees (suc i) no_trees = no_trees
drop_trees (suc i) (tree_and t ts) = drop_trees i ts

tree_at : (ts : Resources) (i : ℕ) (u : Resource) → Some u ≡ slice_get (items ts) i → drop_trees i ts ≡ tree_and u (drop_trees (suc i) ts)
tree_at no_trees i u e = absurd cc
tree_at (tree_and t ts) zero u e = let same : t ≡ u = cc in ap (λ (x : Resource). tree_and x ts) same
tree_at (tree_and t ts) (suc i) u e = tree_at ts i u e

pub tree_there : (ts : Resources) (i : ℕ) (u : Resource) → Some u ≡ slice_get (items ts) i → drop_trees i ts ≡ tree_and u (drop_trees (i + 1) ts)
tree_there ts i u e = rw add-one (tree_at ts i u e)

pub trees_out : (ts : Resources) (i : ℕ) → length (items ts) ≤ i → drop_trees i ts ≡ no_trees
trees_out no_trees zero h = refl
trees_out no_trees (suc i) h = refl
trees_out (tree_and t ts) zero h = absurd (omega arith)
trees_out (tree_and t ts) (suc i) h = trees_out ts i (omega arith)

-- i items of an array at a level are written, after which this many columns remain
pub record ItemsPut (old now : List ℕ) (level : ℕ) (t : Resource) (remaining i : ℕ) : Type 0 where
  pub owes : Owes old (signs_chars (body_signs level t [])) now
      (signs_chars (items_signs (level + 1) (drop_trees i (items_of t)) remaining (feed ∷ indent level (right ∷ []))))
  pub sound : AreSound (drop_trees i (items_of t)) → AreSound (items_of t)

item_left : (level remaining : ℕ) (u : Resource) (ts : Resources) (rest : List Sign)
    → signs_chars (items_signs level (tree_and u ts) remaining rest)
    ≡ signs_chars (pause (item_fits level remaining u) level []) ++ (signs_chars (item_signs u (body_signs level u []) [])
    ++ (0x2C ∷ signs_chars (items_signs level ts (remaining_after_item level remaining u) rest)))
item_left level remaining u ts rest =
    let after = comma ∷ items_signs level ts (remaining_after_item level remaining u) rest in
    (pause_splits (item_fits level remaining u) level same).are (item_signs u (body_signs level u after) after)
    ∙ ap (λ (cs : List ℕ). signs_chars (pause (item_fits level remaining u) level []) ++ cs)
    ((item_splits u (body_signs level u) (λ rest. rest) (body_splits u level) same).are after)

-- what is still to be written begins with the present item
item_owed : (level remaining : ℕ) (t u : Resource) (i : ℕ) → Some u ≡ slice_get (items (items_of t)) i
    → signs_chars (items_signs (level + 1) (drop_trees i (items_of t)) remaining (feed ∷ indent level (right ∷ [])))
    ≡ signs_chars (pause (item_fits (level + 1) remaining u) (level + 1) []) ++ (signs_chars (item_signs u (body_signs (level + 1) u []) [])
    ++ (0x2C ∷ signs_chars (items_signs (level + 1) (drop_trees (i + 1) (items_of t)) (remaining_after_item (level + 1) remaining u) (feed ∷ indent level (right ∷ [])))))
item_owed level remaining t u i e =
    let end = feed ∷ indent level (right ∷ []) in
    ap (λ (ts : Resources). signs_chars (items_signs (level + 1) ts remaining end)) (tree_there (items_of t) i u e)
    ∙ item_left (level + 1) remaining u (drop_trees (i + 1) (items_of t)) end

pub items_put : (old now a b new : List ℕ) (level remaining next : ℕ) (t u : Resource) (i : ℕ) (fits : Bool) → ItemsPut old now level t remaining i
    → Some u ≡ slice_get (items (items_of t)) i → fits ≡ item_fits (level + 1) remaining u → next ≡ remaining_after_item (level + 1) remaining u
    → Adds now a (signs_chars (pause fits (level + 1) [])) → Adds a b (signs_chars (item_signs u (body_signs (level + 1) u []) [])) → IsSound u
    → Adds b new (0x2C ∷ []) → ItemsPut old new level t next (i + 1)
items_put old now a b new level remaining next t u i fits m e f g p q s r =
    let there = tree_there (items_of t) i u e in
    let end = feed ∷ indent level (right ∷ []) in
    let later = drop_trees (i + 1) (items_of t) in
    let after = signs_chars (items_signs (level + 1) later next end) in
    let item = signs_chars (item_signs u (body_signs (level + 1) u []) []) in
    let front = signs_chars (pause fits (level + 1) []) in
    let owed : signs_chars (items_signs (level + 1) (drop_trees i (items_of t)) remaining end) ≡ front ++ (item ++ (0x2C ∷ after)) =
    item_owed level remaining t u i e
    ∙ ap (λ (v : Bool). signs_chars (pause v (level + 1) []) ++ (item ++ (0x2C ∷ signs_chars (items_signs (level + 1) later (remaining_after_item (level + 1) remaining u) end)))) (sym f)
    ∙ ap (λ (n : ℕ). front ++ (item ++ (0x2C ∷ signs_chars (items_signs (level + 1) later n end)))) (sym g) in
    record {
      owes = owes_step {xs = 0x2C ∷ []} after (owes_step (0x2C ∷ after) (owes_step (item ++ (0x2C ∷ after)) (owes_as m.owes owed) p) q) r;
      sound = λ (k : AreSound later). m.sound (subst AreSound (sym there) (s, k));
    }

-- an item that is too long makes the array too long
pub items_exceed : (old now a : List ℕ) (level remaining : ℕ) (t u : Resource) (i : ℕ) (fits : Bool) (err : PrintError) → ItemsPut old now level t remaining i
    → Some u ≡ slice_get (items (items_of t)) i → fits ≡ item_fits (level + 1) remaining u → Adds now a (signs_chars (pause fits (level + 1) []))
    → Exceeds a (signs_chars (item_signs u (body_signs (level + 1) u []) [])) err → Exceeds old (signs_chars (body_signs level t [])) err
items_exceed old now a level remaining t u i fits err m e f p h =
    let end = feed ∷ indent level (right ∷ []) in
    let item = signs_chars (item_signs u (body_signs (level + 1) u []) []) in
    let left = 0x2C ∷ signs_chars (items_signs (level + 1) (drop_trees (i + 1) (items_of t)) (remaining_after_item (level + 1) remaining u) end) in
    let paused = subst (λ (v : Bool). Adds now a (signs_chars (pause v (level + 1) []))) f p in
    exceeds_in item left err (owes_step (item ++ left) (owes_as m.owes (item_owed level remaining t u i e)) paused) h

array_sound : (t : Resource) → kind_of t ≡ Kinds.Array → AreSound (items_of t) → IsSound t
array_sound (string us) k s = absurd cc
array_sound (int n) k s = absurd cc
array_sound (ints zs) k s = absurd cc
array_sound (binary bs) k s = absurd cc
array_sound (alias us) k s = absurd cc
array_sound (table es) k s = absurd cc
array_sound (array ts) k s = s

pub array_children : (t : Resource) → kind_of t ≡ Kinds.Array → children_of t ≡ items (items_of t)
array_children (string us) k = absurd cc
array_children (int n) k = absurd cc
array_children (ints zs) k = absurd cc
array_children (binary bs) k = absurd cc
array_children (alias us) k = absurd cc
array_children (table es) k = absurd cc
array_children (array ts) k = refl

pub array_len : (t : Resource) → kind_of t ≡ Kinds.Array → len_of t ≡ length (items (items_of t))
array_len (string us) k = absurd cc
array_len (int n) k = absurd cc
array_len (ints zs) k = absurd cc
array_len (binary bs) k = absurd cc
array_len (alias us) k = absurd cc
array_len (table es) k = absurd cc
array_len (array ts) k = refl

pub items_end : (old now new : List ℕ) (level remaining : ℕ) (t : Resource) (i : ℕ) → ItemsPut old now level t remaining i → kind_of t ≡ Kinds.Array → len_of t ≤ i
    → Adds now new (signs_chars (feed ∷ indent level (right ∷ []))) → Adds old new (signs_chars (body_signs level t [])) × IsSound t
items_end old now new level remaining t i m k h p =
    let len = array_len t k in
    let out = trees_out (items_of t) i (omega arith) in
    let end = feed ∷ indent level (right ∷ []) in
    let left = ap (λ (ts : Resources). signs_chars (items_signs (level + 1) ts remaining end)) out ∙ sym (append-nil (signs_chars end)) in
    (owes_end (owes_step [] (owes_as m.owes left) p), array_sound t k (m.sound (subst AreSound (sym out) tt)))

-- ---- tables

abbrev pub drop_members : ℕ → Members → Members
drop_members zero es = es
drop_members (suc i) no_entries = no_entries
drop_members (suc i) (entry_and k t es) = drop_members i es

entry_at : (es : Members) (i : ℕ) (k : List ℕ) (u : Resource) → Some k ≡ slice_get (keys_of (pairs es)) i → Some u ≡ slice_get (values_of (pairs es)) i
    → drop_members i es ≡ entry_and k u (drop_members (suc i) es)
entry_at no_entries i k u e f = absurd cc
entry_at (entry_and l t es) zero k u e f =
    let key : l ≡ k = cc in let same : t ≡ u = cc in ap (λ (x : List ℕ). entry_and x t es) key ∙ ap (λ (x : Resource). entry_and k x es) same
entry_at (entry_and l t es) (suc i) k u e f = entry_at es i k u e f

pub entry_there : (es : Members) (i : ℕ) (k : List ℕ) (u : Resource) → Some k ≡ slice_get (keys_of (pairs es)) i → Some u ≡ slice_get (values_of (pairs es)) i
    → drop_members i es ≡ entry_and k u (drop_members (i + 1) es)
entry_there es i k u e f = rw add-one (entry_at es i k u e f)

pub members_out : (es : Members) (i : ℕ) → length (pairs es) ≤ i → drop_members i es ≡ no_entries
members_out no_entries zero h = refl
members_out no_entries (suc i) h = refl
members_out (entry_and k t es) zero h = absurd (omega arith)
members_out (entry_and k t es) (suc i) h = members_out es i (omega arith)

-- of a table at a level, i entries are written
pub record EntriesPut (old now : List ℕ) (level : ℕ) (t : Resource) (i : ℕ) : Type 0 where
  pub owes : Owes old (signs_chars (entries_signs level (members_of t) [])) now (signs_chars (entries_signs level (drop_members i (members_of t)) []))
  pub sound : EachSound (drop_members i (members_of t)) → EachSound (members_of t)

entry_left : (level : ℕ) (k : List ℕ) (u : Resource) (es : Members)
    → signs_chars (entries_signs level (entry_and k u es) [])
    ≡ signs_chars (indent level []) ++ (sign_chars (text (is_name k) k) ++ (signs_chars (gap (is_guessed u) [])
    ++ (signs_chars (body_signs level u []) ++ (0x0A ∷ signs_chars (entries_signs level es [])))))
entry_left level k u es =
    let after = feed ∷ entries_signs level es [] in
    let key = sign_chars (text (is_name k) k) in
    let space = signs_chars (gap (is_guessed u) []) in
    (indent_splits level).are (text (is_name k) k ∷ gap (is_guessed u) (body_signs level u after))
    ∙ ap (λ (cs : List ℕ). signs_chars (indent level []) ++ (key ++ cs)) ((gap_splits (is_guessed u) same).are (body_signs level u after))
    ∙ ap (λ (cs : List ℕ). signs_chars (indent level []) ++ (key ++ (space ++ cs))) ((body_splits u level).are after)

-- what is still to be written begins with the present entry
entry_owed : (level : ℕ) (t u : Resource) (k : List ℕ) (i : ℕ) → Some k ≡ slice_get (keys_of (pairs (members_of t))) i
    → Some u ≡ slice_get (values_of (pairs (members_of t))) i
    → signs_chars (entries_signs level (drop_members i (members_of t)) [])
    ≡ signs_chars (indent level []) ++ (sign_chars (text (is_name k) k) ++ (signs_chars (gap (is_guessed u) [])
    ++ (signs_chars (body_signs level u []) ++ (0x0A ∷ signs_chars (entries_signs level (drop_members (i + 1) (members_of t)) [])))))
entry_owed level t u k i e f =
    ap (λ (es : Members). signs_chars (entries_signs level es [])) (entry_there (members_of t) i k u e f)
    ∙ entry_left level k u (drop_members (i + 1) (members_of t))

pub entries_put : (old now a b c d new : List ℕ) (level : ℕ) (t u : Resource) (k : List ℕ) (i : ℕ) (guessed : Bool) → guessed ≡ is_guessed u → EntriesPut old now level t i
    → Some k ≡ slice_get (keys_of (pairs (members_of t))) i → Some u ≡ slice_get (values_of (pairs (members_of t))) i
    → Adds now a (signs_chars (indent level [])) → Adds a b (sign_chars (text (is_name k) k)) → Adds b c (signs_chars (gap guessed []))
    → Adds c d (signs_chars (body_signs level u [])) → IsSound u → Adds d new (0x0A ∷ []) → EntriesPut old new level t (i + 1)
entries_put old now a b c d new level t u k i guessed is m e f p q h r s w =
    let after = signs_chars (entries_signs level (drop_members (i + 1) (members_of t)) []) in
    let body = signs_chars (body_signs level u []) in
    let space = signs_chars (gap (is_guessed u) []) in
    let g = subst (λ (x : Bool). Adds b c (signs_chars (gap x []))) is h in
    record {
      owes = owes_step {xs = 0x0A ∷ []} after (owes_step (0x0A ∷ after) (owes_step (body ++ (0x0A ∷ after))
          (owes_step (space ++ (body ++ (0x0A ∷ after))) (owes_step (sign_chars (text (is_name k) k) ++ (space ++ (body ++ (0x0A ∷ after))))
          (owes_as m.owes (entry_owed level t u k i e f)) p) q)
          g) r) w;
      sound = λ (h : EachSound (drop_members (i + 1) (members_of t))). m.sound (subst EachSound (sym (entry_there (members_of t) i k u e f)) (s, h));
    }

-- a body that is too long makes the table too long
pub entries_exceed : (old now a b c : List ℕ) (level : ℕ) (t u : Resource) (k : List ℕ) (i : ℕ) (guessed : Bool) (err : PrintError) → guessed ≡ is_guessed u
    → EntriesPut old now level t i → Some k ≡ slice_get (keys_of (pairs (members_of t))) i → Some u ≡ slice_get (values_of (pairs (members_of t))) i
    → Adds now a (signs_chars (indent level [])) → Adds a b (sign_chars (text (is_name k) k)) → Adds b c (signs_chars (gap guessed []))
    → Exceeds c (signs_chars (body_signs level u [])) err → Exceeds old (signs_chars (entries_signs level (members_of t) [])) err
entries_exceed old now a b c level t u k i guessed err is m e f p q h x =
    let left = 0x0A ∷ signs_chars (entries_signs level (drop_members (i + 1) (members_of t)) []) in
    let body = signs_chars (body_signs level u []) in
    let space = signs_chars (gap (is_guessed u) []) in
    let g = subst (λ (x : Bool). Adds b c (signs_chars (gap x []))) is h in
    exceeds_in body left err (owes_step (body ++ left) (owes_step (space ++ (body ++ left)) (owes_step (sign_chars (text (is_name k) k) ++ (space ++ (body ++ left)))
    (owes_as m.owes (entry_owed level t u k i e f)) p) q) g) x

table_sound : (t : Resource) → kind_of t ≡ Kinds.Table → IsTable (members_of t) → EachSound (members_of t) → IsSound t
table_sound (string us) k o s = absurd cc
table_sound (int n) k o s = absurd cc
table_sound (ints zs) k o s = absurd cc
table_sound (binary bs) k o s = absurd cc
table_sound (alias us) k o s = absurd cc
table_sound (array ts) k o s = absurd cc
table_sound (table es) k o s = (o, s)

pub table_pairs : (t : Resource) → pairs_of t ≡ pairs (members_of t)
table_pairs (string us) = refl
table_pairs (int n) = refl
table_pairs (ints zs) = refl
table_pairs (binary bs) = refl
table_pairs (alias us) = refl
table_pairs (array ts) = refl
table_pairs (table es) = refl

pub table_children : (t : Resource) → kind_of t ≡ Kinds.Table → children_of t ≡ values_of (pairs (members_of t))
table_children (string us) k = absurd cc
table_children (int n) k = absurd cc
table_children (ints zs) k = absurd cc
table_children (binary bs) k = absurd cc
table_children (alias us) k = absurd cc
table_children (array ts) k = absurd cc
table_children (table es) k = refl

pub table_len : (t : Resource) → kind_of t ≡ Kinds.Table → len_of t ≡ length (pairs (members_of t))
table_len (string us) k = absurd cc
table_len (int n) k = absurd cc
table_len (ints zs) k = absurd cc
table_len (binary bs) k = absurd cc
table_len (alias us) k = absurd cc
table_len (array ts) k = absurd cc
table_len (table es) k = refl

table_order : (t : Resource) → kind_of t ≡ Kinds.Table → IsWell t → IsTable (members_of t)
table_order (string us) k w = absurd cc
table_order (int n) k w = absurd cc
table_order (ints zs) k w = absurd cc
table_order (binary bs) k w = absurd cc
table_order (alias us) k w = absurd cc
table_order (array ts) k w = absurd cc
table_order (table es) k w = w.0

pub entries_end : (old now : List ℕ) (level : ℕ) (t : Resource) (i : ℕ) → EntriesPut old now level t i → kind_of t ≡ Kinds.Table → len_of t ≤ i
    → IsWell t → Adds old now (signs_chars (entries_signs level (members_of t) [])) × IsSound t
entries_end old now level t i m k h w =
    let len = table_len t k in
    let out = members_out (members_of t) i (omega arith) in (
      owes_end (owes_as m.owes (ap (λ (es : Members). signs_chars (entries_signs level es [])) out)),
      table_sound t k (table_order t k w) (m.sound (subst EachSound (sym out) tt)),
    )

pub table_put : (old a b new : List ℕ) (level : ℕ) (t : Resource) (g : Bool) → kind_of t ≡ Kinds.Table → g ≡ is_guessed t
    → Adds old a (signs_chars (type_unless g table_word (left ∷ feed ∷ [])))
    → Adds a b (signs_chars (entries_signs (level + 1) (members_of t) [])) → Adds b new (signs_chars (indent level (right ∷ [])))
    → Adds old new (signs_chars (body_signs level t []))
table_put old a b new level (string us) g k w p q r = absurd cc
table_put old a b new level (int n) g k w p q r = absurd cc
table_put old a b new level (ints zs) g k w p q r = absurd cc
table_put old a b new level (binary bs) g k w p q r = absurd cc
table_put old a b new level (alias us) g k w p q r = absurd cc
table_put old a b new level (array ts) g k w p q r = absurd cc
table_put old a b new level (table es) g k w p q r =
    let end = indent level (right ∷ []) in
    let inner = entries_signs (level + 1) es end in
    let begin = signs_chars (type_unless (has_entries es) table_word (left ∷ feed ∷ [])) in
    let first = subst (λ (b : Bool). Adds old a (signs_chars (type_unless b table_word (left ∷ feed ∷ [])))) w p in
    adds_as (adds_more first (adds_more q r))
    (sym ((unless_splits (has_entries es) table_word (front left (front feed same))).are inner
    ∙ ap (λ (cs : List ℕ). begin ++ cs) ((entries_split es (level + 1)).are end)))

-- entries that are too long make the table too long
pub table_exceeds : (old a : List ℕ) (level : ℕ) (t : Resource) (g : Bool) (err : PrintError) → kind_of t ≡ Kinds.Table → g ≡ is_guessed t
    → Adds old a (signs_chars (type_unless g table_word (left ∷ feed ∷ []))) → Exceeds a (signs_chars (entries_signs (level + 1) (members_of t) [])) err
    → Exceeds old (signs_chars (body_signs level t [])) err
table_exceeds old a level (string us) g err k w p h = absurd cc
table_exceeds old a level (int n) g err k w p h = absurd cc
table_exceeds old a level (ints zs) g err k w p h = absurd cc
table_exceeds old a level (binary bs) g err k w p h = absurd cc
table_exceeds old a level (alias us) g err k w p h = absurd cc
table_exceeds old a level (array ts) g err k w p h = absurd cc
table_exceeds old a level (table es) g err k w p h =
    let end = indent level (right ∷ []) in
    let inner = entries_signs (level + 1) es end in
    let begin = signs_chars (type_unless (has_entries es) table_word (left ∷ feed ∷ [])) in
    let first = subst (λ (b : Bool). Adds old a (signs_chars (type_unless b table_word (left ∷ feed ∷ [])))) w p in
    let owed = (unless_splits (has_entries es) table_word (front left (front feed same))).are inner
    ∙ ap (λ (cs : List ℕ). begin ++ cs) ((entries_split es (level + 1)).are end) in
    exceeds_in (signs_chars (entries_signs (level + 1) es [])) (signs_chars end) err
    (owes_step (signs_chars (entries_signs (level + 1) es []) ++ signs_chars end) (owes_as (owes_all old (signs_chars (body_signs level (table es) []))) owed) first) h

-- ---- children of a tree that is well

well_item : (ts : Resources) (i : ℕ) (u : Resource) → AreWell ts → Some u ≡ slice_get (items ts) i → IsWell u
well_item no_trees i u w e = absurd cc
well_item (tree_and t ts) zero u w e = let same : t ≡ u = cc in subst IsWell same w.0
well_item (tree_and t ts) (suc i) u w e = well_item ts i u w.1 e

well_value : (es : Members) (i : ℕ) (u : Resource) → EachWell es → Some u ≡ slice_get (values_of (pairs es)) i → IsWell u
well_value no_entries i u w e = absurd cc
well_value (entry_and k t es) zero u w e = let same : t ≡ u = cc in subst IsWell same w.0
well_value (entry_and k t es) (suc i) u w e = well_value es i u w.1 e

pub child_well : (t u : Resource) (i : ℕ) → IsWell t → Some u ≡ slice_get (children_of t) i → IsWell u
child_well (string us) u i w e = absurd cc
child_well (int n) u i w e = absurd cc
child_well (ints zs) u i w e = absurd cc
child_well (binary bs) u i w e = absurd cc
child_well (alias us) u i w e = absurd cc
child_well (array ts) u i w e = well_item ts i u w e
child_well (table es) u i w e = well_value es i u w.1 e

pub int_well : (t : Resource) → kind_of t ≡ Kinds.Int → IsWell t → int_of t < 2 ^ 28
int_well (string us) k w = absurd cc
int_well (int n) k w = w
int_well (ints zs) k w = absurd cc
int_well (binary bs) k w = absurd cc
int_well (alias us) k w = absurd cc
int_well (array ts) k w = absurd cc
int_well (table es) k w = absurd cc

-- ---- leaves

pub string_put : (old a b new : List ℕ) (level : ℕ) (t : Resource) → kind_of t ≡ Kinds.String → Adds old a (0x7B ∷ 0x20 ∷ []) → Adds a b (text_chars false (units_of t))
    → Adds b new (0x20 ∷ 0x7D ∷ []) → Adds old new (signs_chars (body_signs level t []))
string_put old a b new level (string us) k p q r = adds_more p (adds_more q r)
string_put old a b new level (int n) k p q r = absurd cc
string_put old a b new level (ints zs) k p q r = absurd cc
string_put old a b new level (binary bs) k p q r = absurd cc
string_put old a b new level (alias us) k p q r = absurd cc
string_put old a b new level (array ts) k p q r = absurd cc
string_put old a b new level (table es) k p q r = absurd cc

pub string_exceeds : (old a : List ℕ) (level : ℕ) (t : Resource) (err : PrintError) → kind_of t ≡ Kinds.String → Adds old a (0x7B ∷ 0x20 ∷ [])
    → Exceeds a (text_chars false (units_of t)) err → Exceeds old (signs_chars (body_signs level t [])) err
string_exceeds old a level (string us) err k p h =
    exceeds_in (text_chars false us) (0x20 ∷ 0x7D ∷ []) err
    (owes_step (text_chars false us ++ 0x20 ∷ 0x7D ∷ []) (owes_all old (signs_chars (body_signs level (string us) []))) p) h
string_exceeds old a level (int n) err k p h = absurd cc
string_exceeds old a level (ints zs) err k p h = absurd cc
string_exceeds old a level (binary bs) err k p h = absurd cc
string_exceeds old a level (alias us) err k p h = absurd cc
string_exceeds old a level (array ts) err k p h = absurd cc
string_exceeds old a level (table es) err k p h = absurd cc

-- `:int { `
pub int_put : (old a b new : List ℕ) (level n : ℕ) (t : Resource) → kind_of t ≡ Kinds.Int → n ≡ int_of t → n < 2 ^ 28
    → Adds old a (0x3A ∷ 0x69 ∷ 0x6E ∷ 0x74 ∷ 0x20 ∷ 0x7B ∷ 0x20 ∷ []) → Adds a b (decimal n) → Adds b new (0x20 ∷ 0x7D ∷ []) → Adds old new (signs_chars (body_signs level t []))
int_put old a b new level m (string us) k e h p q r = absurd cc
int_put old a b new level m (ints zs) k e h p q r = absurd cc
int_put old a b new level m (binary bs) k e h p q r = absurd cc
int_put old a b new level m (alias us) k e h p q r = absurd cc
int_put old a b new level m (array ts) k e h p q r = absurd cc
int_put old a b new level m (table es) k e h p q r = absurd cc
int_put old a b new level m (int n) k e h p q r =
    let word : is_word (decimal n) ≡ true = decimal_word n (omega arith) in
    let digits : Adds a b (decimal n) = subst (λ (x : ℕ). Adds a b (decimal x)) e q in
    adds_as (adds_more p (adds_more digits r)) (ap (λ (w : Bool). 0x3A ∷ 0x69 ∷ 0x6E ∷ 0x74 ∷ 0x20 ∷ 0x7B ∷ 0x20 ∷ (text_chars w (decimal n) ++ 0x20 ∷ 0x7D ∷ [])) (sym word))

-- `:intvector {`
pub ints_put : (old a b c new : List ℕ) (level : ℕ) (w : Bool) (t : Resource) → kind_of t ≡ Kinds.Ints → w ≡ wraps (level + 1) (numbers_of t)
    → Adds old a (0x3A ∷ 0x69 ∷ 0x6E ∷ 0x74 ∷ 0x76 ∷ 0x65 ∷ 0x63 ∷ 0x74 ∷ 0x6F ∷ 0x72 ∷ 0x20 ∷ 0x7B ∷ [])
    → Adds a b (signs_chars (numbers_signs (numbers_of t) w (level + 1) 0 [])) → Adds b c (signs_chars (pause (not w) level []))
    → Adds c new (0x7D ∷ []) → Adds old new (signs_chars (body_signs level t []))
ints_put old a b c new level w (string us) k e p q r s = absurd cc
ints_put old a b c new level w (int n) k e p q r s = absurd cc
ints_put old a b c new level w (binary bs) k e p q r s = absurd cc
ints_put old a b c new level w (alias us) k e p q r s = absurd cc
ints_put old a b c new level w (array ts) k e p q r s = absurd cc
ints_put old a b c new level w (table es) k e p q r s = absurd cc
ints_put old a b c new level w (ints zs) k e p q r s =
    let word = 0x3A ∷ 0x69 ∷ 0x6E ∷ 0x74 ∷ 0x76 ∷ 0x65 ∷ 0x63 ∷ 0x74 ∷ 0x6F ∷ 0x72 ∷ 0x20 ∷ 0x7B ∷ [] in
    let whole = λ (v : Bool). signs_chars (numbers_signs zs v (level + 1) 0 (pause (not v) level (right ∷ []))) in
    let numbers = signs_chars (numbers_signs zs w (level + 1) 0 []) in
    adds_as (adds_more p (adds_more q (adds_more r s)))
    (ap (λ (cs : List ℕ). word ++ (numbers ++ cs)) (sym ((pause_splits (not w) level same).are (right ∷ [])))
    ∙ ap (λ (cs : List ℕ). word ++ cs) (sym ((numbers_split zs w (level + 1) 0).are (pause (not w) level (right ∷ []))))
    ∙ ap (λ (v : Bool). word ++ whole v) e)

-- `:bin {`
pub binary_put : (old a b c d new : List ℕ) (level : ℕ) (short : Bool) (t : Resource) → kind_of t ≡ Kinds.Binary → short ≡ is_short (bytes_of t)
    → Adds old a (0x3A ∷ 0x62 ∷ 0x69 ∷ 0x6E ∷ 0x20 ∷ 0x7B ∷ []) → Adds a b (signs_chars (pause short (level + 1) []))
    → Adds b c (sign_chars (pieces (level + 1) (hex_first (bytes_of t) 32) (hex_later (bytes_of t) 32))) → Adds c d (signs_chars (pause short level []))
    → Adds d new (0x7D ∷ []) → Adds old new (signs_chars (body_signs level t []))
binary_put old a b c d new level short (string us) k e p q r s u = absurd cc
binary_put old a b c d new level short (int n) k e p q r s u = absurd cc
binary_put old a b c d new level short (ints zs) k e p q r s u = absurd cc
binary_put old a b c d new level short (alias us) k e p q r s u = absurd cc
binary_put old a b c d new level short (array ts) k e p q r s u = absurd cc
binary_put old a b c d new level short (table es) k e p q r s u = absurd cc
binary_put old a b c d new level short (binary bs) k e p q r s u =
    let word = 0x3A ∷ 0x62 ∷ 0x69 ∷ 0x6E ∷ 0x20 ∷ 0x7B ∷ [] in
    let one = pieces (level + 1) (hex_first bs 32) (hex_later bs 32) in
    let front = signs_chars (pause short (level + 1) []) in
    adds_as (adds_more p (adds_more q (adds_more r (adds_more s u))))
    (ap (λ (cs : List ℕ). word ++ (front ++ (sign_chars one ++ cs))) (sym ((pause_splits short level same).are (right ∷ [])))
    ∙ ap (λ (cs : List ℕ). word ++ cs) (sym ((pause_splits short (level + 1) same).are (one ∷ pause short level (right ∷ []))))
    ∙ ap (λ (v : Bool). word ++ signs_chars (pause v (level + 1) (one ∷ pause v level (right ∷ [])))) e)

-- `:alias { `
pub alias_put : (old a b new : List ℕ) (level : ℕ) (t : Resource) → kind_of t ≡ Kinds.Alias
    → Adds old a (0x3A ∷ 0x61 ∷ 0x6C ∷ 0x69 ∷ 0x61 ∷ 0x73 ∷ 0x20 ∷ 0x7B ∷ 0x20 ∷ []) → Adds a b (text_chars false (units_of t)) → Adds b new (0x20 ∷ 0x7D ∷ [])
    → Adds old new (signs_chars (body_signs level t []))
alias_put old a b new level (alias us) k p q r = adds_more p (adds_more q r)
alias_put old a b new level (string us) k p q r = absurd cc
alias_put old a b new level (int n) k p q r = absurd cc
alias_put old a b new level (ints zs) k p q r = absurd cc
alias_put old a b new level (binary bs) k p q r = absurd cc
alias_put old a b new level (array ts) k p q r = absurd cc
alias_put old a b new level (table es) k p q r = absurd cc

pub alias_exceeds : (old a : List ℕ) (level : ℕ) (t : Resource) (err : PrintError) → kind_of t ≡ Kinds.Alias → Adds old a (0x3A ∷ 0x61 ∷ 0x6C ∷ 0x69 ∷ 0x61 ∷ 0x73 ∷ 0x20 ∷ 0x7B ∷ 0x20 ∷ [])
    → Exceeds a (text_chars false (units_of t)) err → Exceeds old (signs_chars (body_signs level t [])) err
alias_exceeds old a level (string us) err k p h = absurd cc
alias_exceeds old a level (int n) err k p h = absurd cc
alias_exceeds old a level (ints zs) err k p h = absurd cc
alias_exceeds old a level (binary bs) err k p h = absurd cc
alias_exceeds old a level (alias us) err k p h =
    exceeds_in (text_chars false us) (0x20 ∷ 0x7D ∷ []) err
    (owes_step (text_chars false us ++ 0x20 ∷ 0x7D ∷ []) (owes_all old (signs_chars (body_signs level (alias us) []))) p) h
alias_exceeds old a level (array ts) err k p h = absurd cc
alias_exceeds old a level (table es) err k p h = absurd cc
