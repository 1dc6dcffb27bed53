-- Which bundles the aliases of a tree name, child by child.
use Rattle.std.proofs.Common.{◌≡◌, ◌∙◌, ◌≤◌, ◌+◌, ◌++◌, ◌∷◌, [], ℕ, Bool, true, false, cond, List, Option, Some, None, length, map, take, ap, sym, refl}
use Rattle.std.specs.Prelude.{◌||◌, String, encode_utf8_all, option_map, slice_get, string_bytes, string_cmp, unwrap_or}
use Rattle.std.specs.BTreeSet.{BTreeSet, UpdatesBy, contains_text}
use Rattle.std.specs.Char.Utf16.{utf16_lossy_chars}
use Rattle.std.specs.Cmp.Lexicographic.{slice_cmp}
use Rattle.std.specs.List.{list_any}
use Rattle.std.specs.Ordering.{nat_cmp}
use Rattle.std.specs.Str.{bytes_eq}
use Rattle.std.specs.Map.{values_of}
use Rattle.std.specs.declared.alloc.Global.{Global}
use Rattle.std.proofs.Math.Bool.{or-false, or-true, or_assoc}
use Rattle.std.proofs.lemmas.List.{append-nil, append_assoc, take_all}
use Rattle.std.proofs.lemmas.List.Folds.{list_any_more}
use Rattle.std.proofs.lemmas.Map.Text.{btree_set_updates_text}
use Rattle.std.proofs.lemmas.Option.{get_or_from_slice_get, slice_get_within}
use Rattle.rb_tree.specs.Keys.{items, pairs}
use Rattle.rb_tree.specs.Parts.{children_of}
use Rattle.rb_tree.specs.Resource.{Resource, string, int, ints, binary, alias, array, table, Resources, no_trees, tree_and}
use Rattle.rb_tree.specs.Resource.{Members, no_entries, entry_and}
use Rattle.rb_views.specs.Parts.{alias_of}
use Rattle.resb.specs.AliasTargets.{bundle_named, entries_name, is_alias_to, is_named, names, trees_name}
use Rattle.resb.specs.Lists.{zero_ended}

trees_are : (name : List ℕ) (ts : Resources) → trees_name name ts ≡ list_any (names name) (items ts)
trees_are name no_trees = refl
trees_are name (tree_and t ts) = ap (λ (b : Bool). names name t || b) (trees_are name ts)

entries_are : (name : List ℕ) (es : Members) → entries_name name es ≡ list_any (names name) (values_of (pairs es))
entries_are name no_entries = refl
entries_are name (entry_and k t es) = ap (λ (b : Bool). names name t || b) (entries_are name es)

names_are : (name : List ℕ) (t : Resource) → names name t ≡ (is_alias_to name t || list_any (names name) (children_of t))
names_are name (string us) = refl
names_are name (int n) = refl
names_are name (ints zs) = refl
names_are name (binary bs) = refl
names_are name (alias us) = sym (or-false (is_named name us))
names_are name (array ts) = trees_are name ts
names_are name (table es) = entries_are name es

own_is : (name : List ℕ) (t : Resource) → is_alias_to name t ≡ unwrap_or (option_map (is_named name) (alias_of t)) false
own_is name (string us) = refl
own_is name (int n) = refl
own_is name (ints zs) = refl
own_is name (binary bs) = refl
own_is name (alias us) = refl
own_is name (array ts) = refl
own_is name (table es) = refl

pub own_none : (name : List ℕ) (t : Resource) → alias_of t ≡ None → is_alias_to name t ≡ false
own_none name t e = rw e at (own_is name t)

pub own_some : (name : List ℕ) (t : Resource) (us : List ℕ) → alias_of t ≡ Some us → is_alias_to name t ≡ is_named name us
own_some name t us e = rw e at (own_is name t)

named_is : (name us text : List ℕ) (found : Option (List ℕ)) → text ≡ encode_utf8_all (utf16_lossy_chars us) → found ≡ bundle_named text
    → is_named name us ≡ unwrap_or (option_map (λ bs. bytes_eq bs name) found) false
named_is name us text found t e =
    ap (λ (o : Option (List ℕ)). unwrap_or (option_map (λ bs. bytes_eq bs name) o) false) (sym (e ∙ ap bundle_named t))

pub adds_nothing : (name us text : List ℕ) (set : BTreeSet (String Global)) → text ≡ encode_utf8_all (utf16_lossy_chars us)
    → None ≡ bundle_named text → contains_text set name ≡ (contains_text set name || is_named name us)
adds_nothing name us text set t e =
    sym (or-false (contains_text set name)) ∙ ap (λ (b : Bool). contains_text set name || b) (sym (named_is name us text None t e))

or_cond : (b a : Bool) → cond b true a ≡ (a || b)
or_cond true a = sym (or-true a)
or_cond false a = sym (or-false a)

pub adds_named : (name us text bs : List ℕ) (old new : BTreeSet (String Global)) → text ≡ encode_utf8_all (utf16_lossy_chars us)
    → Some bs ≡ bundle_named text → UpdatesBy string_cmp (λ (k : String Global). slice_cmp nat_cmp bs (string_bytes k)) old new true
    → contains_text new name ≡ (contains_text old name || is_named name us)
adds_named name us text bs old new t e updates =
    btree_set_updates_text bs old new true updates name ∙ or_cond (bytes_eq bs name) (contains_text old name)
    ∙ ap (λ (b : Bool). contains_text old name || b) (sym (named_is name us text (Some bs) t e))

-- a set with the bundles that a tree's own alias and its first children name
abbrev pub AddsFirst : Resource → ℕ → BTreeSet (String Global) → BTreeSet (String Global) → Type 0
AddsFirst t i old new = (name : List ℕ) → contains_text new name
    ≡ ((contains_text old name || is_alias_to name t) || list_any (names name) (take i (children_of t)))

pub adds_none : (t : Resource) (old new : BTreeSet (String Global))
    → ((name : List ℕ) → contains_text new name ≡ (contains_text old name || is_alias_to name t)) → AddsFirst t 0 old new
adds_none t old new h name = h name ∙ sym (or-false (contains_text old name || is_alias_to name t))

pub adds_more : (t child : Resource) (i : ℕ) (old so_far new : BTreeSet (String Global)) → Some child ≡ slice_get (children_of t) i
    → AddsFirst t i old so_far → ((name : List ℕ) → contains_text new name ≡ (contains_text so_far name || names name child))
    → AddsFirst t (i + 1) old new
adds_more t child i old so_far new e first h name =
    let cs = children_of t in
    let a = contains_text old name || is_alias_to name t in
    let more : list_any (names name) (take (i + 1) cs) ≡ (list_any (names name) (take i cs) || names name child) =
    list_any_more (names name) cs i child (slice_get_within cs i child (sym e))
    ∙ ap (λ (u : Resource). list_any (names name) (take i cs) || names name u) (get_or_from_slice_get cs i child child (sym e)) in
    h name ∙ ap (λ (b : Bool). b || names name child) (first name)
    ∙ or_assoc a (list_any (names name) (take i cs)) (names name child) ∙ ap (λ (b : Bool). a || b) (sym more)

pub adds_all : (t : Resource) (i : ℕ) (old new : BTreeSet (String Global)) → length (children_of t) ≤ i → AddsFirst t i old new
    → (name : List ℕ) → contains_text new name ≡ (contains_text old name || names name t)
adds_all t i old new past first name =
    let cs = children_of t in
    first name
    ∙ ap (λ (us : List Resource). (contains_text old name || is_alias_to name t) || list_any (names name) us) (take_all i cs past)
    ∙ or_assoc (contains_text old name) (is_alias_to name t) (list_any (names name) cs)
    ∙ ap (λ (b : Bool). contains_text old name || b) (sym (names_are name t))

-- names joined one by one
pub joins_more : (out mid new name all : List ℕ) (x : String Global) (left rest : List (String Global)) → mid ≡ out ++ name → new ≡ mid ++ 0 ∷ []
    → name ≡ string_bytes x → left ≡ x ∷ rest → out ++ zero_ended (map string_bytes left) ≡ all → new ++ zero_ended (map string_bytes rest) ≡ all
joins_more out mid new name all x left rest p q e s so =
    let z = zero_ended (map string_bytes rest) in
    ap (λ (t : List ℕ). t ++ z) (q ∙ ap (λ (t : List ℕ). t ++ 0 ∷ []) p) ∙ append_assoc (out ++ name) (0 ∷ []) z
    ∙ append_assoc out name (0 ∷ z) ∙ ap (λ (n : List ℕ). out ++ (n ++ 0 ∷ z)) e
    ∙ ap (λ (ss : List (String Global)). out ++ zero_ended (map string_bytes ss)) (sym s) ∙ so

pub joins_all : (out all : List ℕ) (left : List (String Global)) → left ≡ [] → out ++ zero_ended (map string_bytes left) ≡ all → out ≡ all
joins_all out all left s so =
    sym (append-nil out) ∙ ap (λ (ss : List (String Global)). out ++ zero_ended (map string_bytes ss)) (sym s) ∙ so
