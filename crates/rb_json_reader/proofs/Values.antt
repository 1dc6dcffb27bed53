-- The tokens of arrays and tables, item by item.
use Rattle.std.specs.Prelude.{MatchOption, IfOk, OnOk, option_map}
use Rattle.std.proofs.Common.{◌≡◌, ◌∷◌, [], ◌++◌, ℕ, List, Option, Some, None, Result, Ok, Err, Bor, refl, sym, ap, subst, ◌∙◌, map, append_assoc}
use Rattle.std.proofs.lemmas.List.{map-append}
use Rattle.std.specs.Map.{keys_of}
use Rattle.json.specs.Token.{Token, begin_array, end_array, begin_object, end_object, key}
use Rattle.rb_tree.specs.Resource.{Resource, array, table, Resources, no_trees, tree_and, Members, no_entries, entry_and}
use Rattle.rb_tree.specs.Keys.{items, pairs}
use Rattle.rb_tree.specs.Table.{seen_pairs, keys_in, NoRepeat, IsTableOf}
use Rattle.rb_tree.specs.View.{view_of, views_of}
use Rattle.rb_tree.specs.declared.tree.Tree.{Tree}
use Rattle.rb_json.specs.Tokens.{data_tokens}
use Rattle.rb_json.specs.Value.{value_of, key_text}
use Rattle.rb_json.proofs.Growth.{each, tree_tokens, entry_tokens, items_whole, entries_whole}
use Rattle.rb_json_reader.specs.Arranged.{Arranges, ItemsArrange, EntriesArrange}
use Rattle.rb_json_reader.specs.inner.Reading.{Reads, ReadsLeaf}
use Rattle.rb_json_reader.proofs.Leaves.{each_push}

abbrev Entry : Type 0
Entry = List ℕ × Resource

abbrev Pair : Type 0
Pair = List ℕ × Tree

pub from_leaf : (old : List Token) (t : Resource) (new : List Token) → ReadsLeaf old t new → Reads old t new
from_leaf old t new h = (t, h.0, h.1)

pub one_token : (old : List Token) (k : Token) (t : Resource) (new : List Token) → old ≡ k ∷ new → k ∷ [] ≡ data_tokens (value_of t) → Arranges t t
    → Reads old t new
one_token old k t new first is same = (t, first ∙ ap (λ ts. ts ++ new) is, same)

each_step : {A : Type 0} (f : A → List Token) (old : List Token) (xs : List A) (now : List Token) (x : A) (next : List Token) → old ≡ each f xs ++ now
    → now ≡ f x ++ next → old ≡ each f (xs ++ x ∷ []) ++ next
each_step f old xs now x next so_far step =
    so_far ∙ ap (λ ts. each f xs ++ ts) step ∙ sym (append_assoc (each f xs) (f x) next) ∙ ap (λ ts. ts ++ next) (sym (each_push f xs x))

-- ---- arrays
abbrev trees_of : List Resource → Resources
trees_of [] = no_trees
trees_of (t ∷ ts) = tree_and t (trees_of ts)

abbrev AllArranged : List Resource → List Resource → Type 0
AllArranged [] ts = ts ≡ []
AllArranged (u ∷ us) ts = (t : Resource) × (rest : List Resource) × (ts ≡ t ∷ rest) × Arranges u t × AllArranged us rest

arranged_push : (us ts : List Resource) (u t : Resource) → AllArranged us ts → Arranges u t → AllArranged (us ++ u ∷ []) (ts ++ t ∷ [])
arranged_push [] ts u t e a = (t, [], ap (λ xs. xs ++ t ∷ []) e, a, refl)
arranged_push (v ∷ us) ts u t e a = (e.0, e.1 ++ t ∷ [], ap (λ xs. xs ++ t ∷ []) e.2, e.3, arranged_push us e.1 u t e.4 a)

arranged_items : (us ts : List Resource) → AllArranged us ts → ItemsArrange (trees_of us) (trees_of ts)
arranged_items [] ts e = ap trees_of e
arranged_items (u ∷ us) ts e = (e.0, trees_of e.1, ap trees_of e.2, e.3, arranged_items us e.1 e.4)

views_are : (ts : List Tree) → views_of ts ≡ trees_of (map view_of ts)
views_are [] = refl
views_are (t ∷ ts) = ap (λ us. tree_and (view_of t) us) (views_are ts)

items_are : (us : List Resource) → items (trees_of us) ≡ us
items_are [] = refl
items_are (u ∷ us) = ap (λ vs. u ∷ vs) (items_are us)

array_tokens_are : (us : List Resource) → data_tokens (value_of (array (trees_of us))) ≡ begin_array ∷ (each tree_tokens us ++ end_array ∷ [])
array_tokens_are us = items_whole (array (trees_of us)) refl ∙ ap (λ vs. begin_array ∷ (each tree_tokens vs ++ end_array ∷ [])) (items_are us)

abbrev pub ArraySoFar : List Token → List Tree → List Token → Type 0
ArraySoFar old trees now = (us : List Resource) × (old ≡ each tree_tokens us ++ now) × AllArranged us (map view_of trees)

pub array_none : (old now : List Token) → now ≡ old → ArraySoFar old [] now
array_none old now same = ([], sym same, refl)

pub array_more : (old : List Token) (trees : List Tree) (now : List Token) (t : Tree) (next : List Token) (more : List Tree) → ArraySoFar old trees now
    → Reads now (view_of t) next → more ≡ trees ++ t ∷ [] → ArraySoFar old more next
array_more old trees now t next more s r is = (
  s.0 ++ r.0 ∷ [],
  each_step tree_tokens old s.0 now r.0 next s.1 r.1,
  subst (AllArranged (s.0 ++ r.0 ∷ [])) (sym (map-append view_of trees (t ∷ [])) ∙ ap (map view_of) (sym is)) (arranged_push s.0 (map view_of trees) r.0 (view_of t) s.2 r.2),
)

pub array_all : (old : List Token) (trees : List Tree) (now new : List Token) → ArraySoFar old trees now → now ≡ end_array ∷ new
    → Reads (begin_array ∷ old) (array (views_of trees)) new
array_all old trees now new s close = (
  array (trees_of s.0),
  ap (λ ts. begin_array ∷ ts) (s.1 ∙ ap (λ ts. each tree_tokens s.0 ++ ts) close ∙ sym (append_assoc (each tree_tokens s.0) (end_array ∷ []) new))
      ∙ ap (λ ts. ts ++ new) (sym (array_tokens_are s.0)),
  (views_of trees, refl, subst (ItemsArrange (trees_of s.0)) (sym (views_are trees)) (arranged_items s.0 (map view_of trees) s.2)),
)

-- ---- tables
abbrev members_of : List Entry → Members
members_of [] = no_entries
members_of (e ∷ es) = entry_and e.0 e.1 (members_of es)

abbrev AllEntries : List Entry → List Entry → Type 0
AllEntries [] ps = ps ≡ []
AllEntries (e ∷ es) ps = (t : Resource) × (rest : List Entry) × (ps ≡ (e.0, t) ∷ rest) × Arranges e.1 t × AllEntries es rest

entries_push : (es ps : List Entry) (k : List ℕ) (u t : Resource) → AllEntries es ps → Arranges u t → AllEntries (es ++ (k, u) ∷ []) (ps ++ (k, t) ∷ [])
entries_push [] ps k u t e a = (t, [], ap (λ xs. xs ++ (k, t) ∷ []) e, a, refl)
entries_push (d ∷ es) ps k u t e a = (e.0, e.1 ++ (k, t) ∷ [], ap (λ xs. xs ++ (k, t) ∷ []) e.2, e.3, entries_push es e.1 k u t e.4 a)

arranged_entries : (es ps : List Entry) → AllEntries es ps → EntriesArrange (members_of es) ps
arranged_entries [] ps e = e
arranged_entries (d ∷ es) ps e = (e.0, e.1, e.2, e.3, arranged_entries es e.1 e.4)

pairs_are : (es : List Entry) → pairs (members_of es) ≡ es
pairs_are [] = refl
pairs_are (e ∷ es) = ap (λ ds. e ∷ ds) (pairs_are es)

keys_are : (ps : List Pair) → keys_in ps ≡ keys_of (seen_pairs ps)
keys_are [] = refl
keys_are (p ∷ ps) = ap (λ ks. p.0 ∷ ks) (keys_are ps)

table_tokens_are : (es : List Entry) → data_tokens (value_of (table (members_of es))) ≡ begin_object ∷ (each entry_tokens es ++ end_object ∷ [])
table_tokens_are es = entries_whole (table (members_of es)) refl ∙ ap (λ ds. begin_object ∷ (each entry_tokens ds ++ end_object ∷ [])) (pairs_are es)

abbrev pub TableSoFar : List Token → List Pair → List Token → Type 0
TableSoFar old ps now = (es : List Entry) × (old ≡ each entry_tokens es ++ now) × AllEntries es (seen_pairs ps)

pub table_none : (old now : List Token) → now ≡ old → TableSoFar old [] now
table_none old now same = ([], sym same, refl)

pub table_more : (old : List Token) (ps : List Pair) (now : List Token) (k name : List ℕ) (t : Tree) (mid next : List Token) (more : List Pair)
    → TableSoFar old ps now → now ≡ key name ∷ mid → key_text k ≡ name → Reads mid (view_of t) next → more ≡ ps ++ (k, t) ∷ []
    → TableSoFar old more next
table_more old ps now k name t mid next more s first named r is =
    let pair : Pair = (k, t) in
    let step : now ≡ entry_tokens (k, r.0) ++ next = first ∙ ap (λ n. key n ∷ mid) (sym named) ∙ ap (λ ts. key (key_text k) ∷ ts) r.1 in
    let seen : seen_pairs ps ++ (k, view_of t) ∷ [] ≡ seen_pairs more =
    sym (map-append (λ (p : Pair). (p.0, view_of p.1)) ps (pair ∷ [])) ∙ ap seen_pairs (sym is) in (
      s.0 ++ (k, r.0) ∷ [],
      each_step entry_tokens old s.0 now (k, r.0) next s.1 step,
      subst (AllEntries (s.0 ++ (k, r.0) ∷ [])) seen (entries_push s.0 (seen_pairs ps) k r.0 (view_of t) s.2 r.2),
    )

pub table_all : (old : List Token) (ps : List Pair) (now new : List Token) (t : Resource) → TableSoFar old ps now → now ≡ end_object ∷ new
    → NoRepeat (keys_in ps) → IsTableOf (seen_pairs ps) t → Reads (begin_object ∷ old) t new
table_all old ps now new t s close once is = (
  table (members_of s.0),
  ap (λ ts. begin_object ∷ ts) (s.1 ∙ ap (λ ts. each entry_tokens s.0 ++ ts) close ∙ sym (append_assoc (each entry_tokens s.0) (end_object ∷ []) new))
      ∙ ap (λ ts. ts ++ new) (sym (table_tokens_are s.0)),
  (seen_pairs ps, arranged_entries s.0 (seen_pairs ps) s.2, subst NoRepeat (keys_are ps) once, is),
)

-- the key that was taken, or the brace, before the tokens that follow
abbrev pub pending : Option (List ℕ) → List Token → List Token
pending None now = end_object ∷ now
pending (Some name) now = key name ∷ now

pub pending_is : (o : Option (Bor (List ℕ))) (old new : List Token) → MatchOption o (old ≡ end_object ∷ new) (λ k. old ≡ key k.now ∷ new)
    → old ≡ pending (option_map (λ s. s.now) o) new
pending_is None old new h = h
pending_is (Some k) old new h = h

pub table_result : {E : Type 0} (r : Result Tree E) (old : List Token) (ps : List Pair) (now new : List Token) → TableSoFar old ps now → now ≡ end_object ∷ new
    → OnOk r (NoRepeat (keys_in ps)) → IfOk r (λ t. IsTableOf (seen_pairs ps) (view_of t)) → IfOk r (λ t. Reads (begin_object ∷ old) (view_of t) new)
table_result (Ok t) old ps now new s close once is = table_all old ps now new (view_of t) s close once is
table_result (Err e) old ps now new s close once is = tt
