-- Follows what layers have at a key, as they are asked one after another.
use Rattle.std.proofs.Common.{◌≡◌, ◌+◌, ◌<◌, ◌≤◌, ◌++◌, ℕ, suc, List, [], ◌∷◌, true, false, Option, Some, length, map, take, drop, refl, sym, ap, subst, ◌∙◌, append_assoc, append-nil, arith, slice_get, zero, option_and_then}
use Rattle.std.proofs.Math.ListN.{set}
use Rattle.std.proofs.Math.Seq.{set-append_seam}
use Rattle.std.proofs.lemmas.List.{length-append, length-drop, length-map, take-append-drop, length-take-le}
use Rattle.std.specs.Map.{keys_of, values_of}
use Rattle.rb_tree.specs.Keys.{pairs}
use Rattle.rb_tree.specs.Resource.{Resource, table}
use Rattle.rb_tree.specs.Parts.{children_of}
use Rattle.rb_tree.specs.declared.node.Node.{Ghosts}
use Rattle.rb_inherit.specs.declared.found.Found.{Found}
use Rattle.rb_inherit.specs.declared.found.Found.TheVariants.{Nothing}
use Rattle.rb_inherit.specs.declared.layer.Layer.{Layer}
use Rattle.rb_inherit.specs.Merged.{Decides, Here, Layered, Part}
use Rattle.rb_inherit.specs.inner.Earlier.{BeginsEmpty, Ends, here_of, layered_in, layered_of}
use Rattle.rb_inherit.specs.inner.Merging.{AddsNext, FindsAt, is_key, key_in, key_of, moved, next_part, next_parts, stepped}
use Rattle.rb_inherit.proofs.Earliest.{ends_here}

-- the layers from `from` up to `i` were asked for a key, and `more` were added
pub record Asked {N : Type 0} {G : Ghosts N} (tree : N → Resource) (used : ℕ) (key : List ℕ) (from : ℕ) (old : List (Layer N G)) (i : ℕ) (found : Found N)
    (now : List (Layer N G)) : Type 0 where
  pub asked : List (Layer N G)
  pub rest : List (Layer N G)
  pub more : List (Layer N G)
  pub split : drop from old ≡ asked ++ rest
  pub at : from + length asked ≡ i
  pub layers : now ≡ (take from old ++ map (λ l. moved tree key l) asked) ++ (rest ++ more)
  pub empty : BeginsEmpty found (layered_in tree more)
  pub ends : (h : Here) → Ends tree used found (layered_in tree more) (next_parts tree key rest) h → Decides used (next_parts tree key (drop from old)) h

pub asked_none : {N : Type 0} {G : Ghosts N} (tree : N → Resource) (used : ℕ) (key : List ℕ) (from : ℕ) (old : List (Layer N G))
    → Asked tree used key from old from Nothing old
asked_none tree used key from old = record {
  asked = [];
  rest = drop from old;
  more = [];
  split = refl;
  at = omega arith;
  layers = sym (rw (append-nil (take from old), append-nil (drop from old)) (take-append-drop from old));
  empty = refl;
  ends = λ h x. x;
}

map_more : {A B : Type 0} (f : A → B) (xs : List A) (x : A) → map f (xs ++ x ∷ []) ≡ map f xs ++ f x ∷ []
map_more f [] x = refl
map_more f (y ∷ xs) x = ap (λ l. f y ∷ l) (map_more f xs x)

layers_more : {A : Type 0} (f : A → A) (front asked rest more : List A) (l : A) (m : A) → f l ≡ m
    → (front ++ map f asked) ++ (m ∷ (rest ++ more)) ≡ (front ++ map f (asked ++ l ∷ [])) ++ (rest ++ more)
layers_more {A} f front asked rest more l m e =
    append_assoc front (map f asked) (m ∷ (rest ++ more))
    ∙ sym (ap (λ (x : List A). (front ++ x) ++ (rest ++ more)) (map_more f asked l ∙ ap (λ (y : A). map f asked ++ y ∷ []) e)
    ∙ (append_assoc front (map f asked ++ m ∷ []) (rest ++ more)
    ∙ ap (λ (x : List A). front ++ x) (append_assoc (map f asked) (m ∷ []) (rest ++ more))))

layers_end : {A : Type 0} (front rest more end : List A) → (front ++ (rest ++ more)) ++ end ≡ front ++ (rest ++ (more ++ end))
layers_end front rest more end = append_assoc front (rest ++ more) end ∙ ap (λ x. front ++ x) (append_assoc rest more end)

map_append : {A B : Type 0} (f : A → B) (xs ys : List A) → map f (xs ++ ys) ≡ map f xs ++ map f ys
map_append f [] ys = refl
map_append f (y ∷ xs) ys = ap (λ l. f y ∷ l) (map_append f xs ys)

get_seam : {A : Type 0} (xs : List A) (y : A) (ys : List A) → slice_get (xs ++ y ∷ ys) (length xs) ≡ Some y
get_seam [] y ys = refl
get_seam (x ∷ xs) y ys = get_seam xs y ys

moved_not : {N : Type 0} {G : Ghosts N} (tree : N → Resource) (key : List ℕ) (l : Layer N G) → is_key key (key_of (tree l.table.node) l.at) ≡ false → moved tree key l ≡ l
moved_not tree key l h = rw h refl

moved_is : {N : Type 0} {G : Ghosts N} (tree : N → Resource) (key : List ℕ) (l : Layer N G) → is_key key (key_of (tree l.table.node) l.at) ≡ true → stepped l ≡ moved tree key l
moved_is tree key l h = rw h refl

part_not : {N : Type 0} {G : Ghosts N} (tree : N → Resource) (key : List ℕ) (l : Layer N G) → is_key key (key_of (tree l.table.node) l.at) ≡ false → next_part tree key l ≡ []
part_not tree key l h = rw h refl

part_is : {N : Type 0} {G : Ghosts N} (tree : N → Resource) (key : List ℕ) (l : Layer N G) (t : Resource) → is_key key (key_of (tree l.table.node) l.at) ≡ true
    → slice_get (children_of (tree l.table.node)) l.at ≡ Some t → next_part tree key l ≡ record { tree = t; most = l.level.keys_most } ∷ []
part_is tree key l t h e = rw (h, e) refl

pairs_child : (key : List ℕ) (es : List (List ℕ × Resource)) (i : ℕ) → is_key key (slice_get (keys_of es) i) ≡ true
    → (t : Resource) × (slice_get (values_of es) i ≡ Some t)
pairs_child key [] i h = absurd cc
pairs_child key (e ∷ es) zero h = (e.1, refl)
pairs_child key (e ∷ es) (suc i) h = pairs_child key es i h

-- an entry with a key has a child
key_child : (key : List ℕ) (t : Resource) (i : ℕ) → is_key key (key_of t i) ≡ true → (u : Resource) × (slice_get (children_of t) i ≡ Some u)
key_child key (table es) i h = pairs_child key (pairs es) i h
key_child key _ i h = absurd cc

abbrev Front : {N : Type 0} {G : Ghosts N} → (N → Resource) → List ℕ → ℕ → List (Layer N G) → List (Layer N G) → List (Layer N G)
Front tree key from old asked = take from old ++ map (λ l. moved tree key l) asked

front_len : {N : Type 0} {G : Ghosts N} (tree : N → Resource) (key : List ℕ) (from i : ℕ) (old asked : List (Layer N G)) → from ≤ length old → from + length asked ≡ i
    → length (Front tree key from old asked) ≡ i
front_len tree key from i old asked le at =
    length-append (take from old) (map (λ l. moved tree key l) asked)
    ∙ omega (arith, length-take-le from old le, length-map asked (λ l. moved tree key l))

rest_len : {A : Type 0} (from i : ℕ) (old asked rest : List A) → drop from old ≡ asked ++ rest → from + length asked ≡ i → from ≤ length old → i + length rest ≡ length old
rest_len from i old asked rest split at le =
    omega (arith, length-drop from old, ap length split, length-append asked rest)

got_at : {A : Type 0} (now front : List A) (l : A) (back : List A) (i : ℕ) → now ≡ front ++ l ∷ back → length front ≡ i → slice_get now i ≡ Some l
got_at {A} now front l back i e len = subst (λ (n : ℕ). slice_get now n ≡ Some l) len (ap (λ (x : List A). slice_get x (length front)) e ∙ get_seam front l back)

set_at : {A : Type 0} (now front : List A) (l : A) (back : List A) (i : ℕ) (m : A) → now ≡ front ++ l ∷ back → length front ≡ i → set now i m ≡ front ++ m ∷ back
set_at {A} now front l back i m e len =
    subst (λ (n : ℕ). set now n m ≡ front ++ m ∷ back) len (ap (λ (x : List A). set x (length front) m) e ∙ set-append_seam front l back m)

not_next : {N : Type 0} {G : Ghosts N} (tree : N → Resource) (used : ℕ) (key : List ℕ) (from : ℕ) (old : List (Layer N G)) (i : ℕ) (found : Found N)
    (now asked rest more : List (Layer N G)) → from ≤ length old → i < length old → is_key key (key_in tree now i) ≡ false
    → drop from old ≡ asked ++ rest → from + length asked ≡ i → now ≡ Front tree key from old asked ++ (rest ++ more) → BeginsEmpty found (layered_in tree more)
    → ((h : Here) → Ends tree used found (layered_in tree more) (next_parts tree key rest) h → Decides used (next_parts tree key (drop from old)) h)
    → Asked tree used key from old (i + 1) found now
not_next tree used key from old i found now asked [] more le lt k split at is empty ends = absurd (omega (arith, rest_len from i old asked [] split at le))
not_next {N} {G} tree used key from old i found now asked (l ∷ rest) more le lt k split at is empty ends =
    let got = got_at now (Front tree key from old asked) l (rest ++ more) i is (front_len tree key from i old asked le at) in
    let here : key_in tree now i ≡ key_of (tree l.table.node) l.at = ap (λ (o : Option (Layer N G)). option_and_then (λ m. key_of (tree m.table.node) m.at) o) got in
    let no : is_key key (key_of (tree l.table.node) l.at) ≡ false = sym (ap (is_key key) here) ∙ k in
    record {
      asked = asked ++ l ∷ [];
      rest = rest;
      more = more;
      split = split ∙ sym (append_assoc asked (l ∷ []) rest);
      at = omega (arith, length-append asked (l ∷ []));
      layers = is ∙ layers_more (λ m. moved tree key m) (take from old) asked rest more l l (moved_not tree key l no);
      empty = empty;
      ends = λ h x. ends h (subst (λ (ps : List Part). Ends tree used found (layered_in tree more) (ps ++ next_parts tree key rest) h) (sym (part_not tree key l no)) x);
    }

pub asked_not : {N : Type 0} {G : Ghosts N} (tree : N → Resource) (used : ℕ) (key : List ℕ) (from : ℕ) (old : List (Layer N G)) (i : ℕ) (found : Found N)
    (now : List (Layer N G)) → Asked tree used key from old i found now → from ≤ length old → i < length old → is_key key (key_in tree now i) ≡ false
    → Asked tree used key from old (i + 1) found now
asked_not tree used key from old i found now a le lt k =
    not_next tree used key from old i found now a.asked a.rest a.more le lt k a.split a.at a.layers a.empty a.ends

is_next : {N : Type 0} {G : Ghosts N} (tree : N → Resource) (used : ℕ) (key : List ℕ) (from : ℕ) (old : List (Layer N G)) (i : ℕ) (found after : Found N)
    (now new asked rest more : List (Layer N G)) → from ≤ length old → i < length old → is_key key (key_in tree now i) ≡ true
    → AddsNext tree used found now i after new
    → drop from old ≡ asked ++ rest → from + length asked ≡ i → now ≡ Front tree key from old asked ++ (rest ++ more) → BeginsEmpty found (layered_in tree more)
    → ((h : Here) → Ends tree used found (layered_in tree more) (next_parts tree key rest) h → Decides used (next_parts tree key (drop from old)) h)
    → Asked tree used key from old (i + 1) after new
is_next tree used key from old i found after now new asked [] more le lt k adds split at is empty ends = absurd (omega (arith, rest_len from i old asked [] split at le))
is_next {N} {G} tree used key from old i found after now new asked (l ∷ rest) more le lt k adds split at is empty ends =
    let front = Front tree key from old asked in
    let len = front_len tree key from i old asked le at in
    let got = got_at now front l (rest ++ more) i is len in
    let here : key_in tree now i ≡ key_of (tree l.table.node) l.at = ap (λ (o : Option (Layer N G)). option_and_then (λ m. key_of (tree m.table.node) m.at) o) got in
    let yes : is_key key (key_of (tree l.table.node) l.at) ≡ true = sym (ap (is_key key) here) ∙ k in
    let child = key_child key (tree l.table.node) l.at yes in
    let a = adds l child.0 got child.1 in
    record {
      asked = asked ++ l ∷ [];
      rest = rest;
      more = more ++ a.more;
      split = split ∙ sym (append_assoc asked (l ∷ []) rest);
      at = omega (arith, length-append asked (l ∷ []));
      layers = a.layers ∙ (ap (λ (x : List (Layer N G)). x ++ a.more) (set_at now front l (rest ++ more) i (stepped l) is len
          ∙ layers_more (λ m. moved tree key m) (take from old) asked rest more l (stepped l) (sym (moved_is tree key l yes)))
          ∙ layers_end (Front tree key from old (asked ++ l ∷ [])) rest more a.more);
      empty = a.decided (layered_in tree (more ++ a.more));
      ends = λ h x. ends h (subst (λ (ps : List Part). Ends tree used found (layered_in tree more) (ps ++ next_parts tree key rest) h) (sym (part_is tree key l child.0 yes child.1))
          (a.ends (layered_in tree more) (next_parts tree key rest) h empty
          (subst (λ (ls : List Layered). Ends tree used after ls (next_parts tree key rest) h) (map_append (λ m. layered_of tree m) more a.more) x)));
    }

pub asked_is : {N : Type 0} {G : Ghosts N} (tree : N → Resource) (used : ℕ) (key : List ℕ) (from : ℕ) (old : List (Layer N G)) (i : ℕ) (found after : Found N)
    (now new : List (Layer N G)) → Asked tree used key from old i found now → from ≤ length old → i < length old → is_key key (key_in tree now i) ≡ true
    → AddsNext tree used found now i after new → Asked tree used key from old (i + 1) after new
asked_is tree used key from old i found after now new a le lt k adds =
    is_next tree used key from old i found after now new a.asked a.rest a.more le lt k adds a.split a.at a.layers a.empty a.ends

all_asked : {N : Type 0} {G : Ghosts N} (tree : N → Resource) (used : ℕ) (key : List ℕ) (from : ℕ) (old : List (Layer N G)) (i : ℕ) (found : Found N)
    (now asked rest more : List (Layer N G)) → from ≤ length old → length old ≤ i
    → drop from old ≡ asked ++ rest → from + length asked ≡ i → now ≡ Front tree key from old asked ++ (rest ++ more)
    → ((h : Here) → Ends tree used found (layered_in tree more) (next_parts tree key rest) h → Decides used (next_parts tree key (drop from old)) h)
    → FindsAt tree used key from old found now
all_asked {N} {G} tree used key from old i found now asked [] more le ge split at is ends = record {
  more = more;
  layers = is ∙ ap (λ (x : List (Layer N G)). (take from old ++ map (λ l. moved tree key l) x) ++ more) (sym (split ∙ append-nil asked));
  decides = ends (here_of tree found (layered_in tree more)) (ends_here tree used found (layered_in tree more));
}
all_asked tree used key from old i found now asked (l ∷ rest) more le ge split at is ends = absurd (omega (arith, rest_len from i old asked (l ∷ rest) split at le))

pub asked_all : {N : Type 0} {G : Ghosts N} (tree : N → Resource) (used : ℕ) (key : List ℕ) (from : ℕ) (old : List (Layer N G)) (i : ℕ) (found : Found N)
    (now : List (Layer N G)) → Asked tree used key from old i found now → from ≤ length old → length old ≤ i → FindsAt tree used key from old found now
asked_all tree used key from old i found now a le ge = all_asked tree used key from old i found now a.asked a.rest a.more le ge a.split a.at a.layers a.ends
