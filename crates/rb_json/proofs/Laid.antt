-- The texts of values in a layout, part by part.
use Rattle.std.proofs.Common.{drop, ◌≡◌, ◌≤◌, ◌<◌, ◌+◌, ℕ, zero, suc, List, [], ◌∷◌, ◌++◌, Bool, true, false, map, length, length-append, refl, ap, sym, subst, ◌∙◌, append_assoc, arith}
use Rattle.json.specs.Print.{quoted}
use Rattle.json.specs.Layout.{line}
use Rattle.serde_json.specs.Data.{Num, Data, number, string, array, object, Items, no_items, item, Members, no_members, member}
use Rattle.serde_json.specs.View.{items_of}
use Rattle.serde_json.specs.Written.{comma_if, compact_text, items_text, members_text, number_text}
use Rattle.rb_tree.specs.Resource.{Resource, table, Resources, no_trees, tree_and, no_entries, entry_and}
use Rattle.rb_tree.specs.Resource as tree
use Rattle.rb_tree.specs.Keys.{items, pairs}
use Rattle.rb_tree.specs.Parts.{children_of, kind_of, pairs_of}
use Rattle.rb_tree.specs.declared.kind.Kind.TheVariants as Kinds
use Rattle.rb_json.specs.Laid.{indented, indented_items, indented_members, laid_at}
use Rattle.rb_json.specs.Value.{items_value, key_text, members_value, tagged, value_of}
use Rattle.rb_json.specs.inner.Lines.{colon, end_line, entry_at, item_at, line_at, member_name, tag_end, tag_front, tree_at}
use Rattle.rb_json.specs.inner.Listed.{after_commas, listed}
use Rattle.rb_json.specs.declared.layout.Layout.{Layout}
use Rattle.rb_json.specs.declared.layout.Layout.TheVariants.{Compact, Pretty}
use Rattle.rb_json.proofs.Lists.{array_told}

-- ---- arrays
items_laid : {A : Type 0} (depth : ℕ) (g : A → Data) (xs : List A) → indented_items depth true (items_of (map g xs))
    ≡ after_commas (λ x. item_at Pretty (depth + 1) (g x)) xs ++ (line depth ++ 93 ∷ [])
items_laid {A} depth g [] = refl
items_laid {A} depth g (x ∷ xs) =
    let f : A → List ℕ = λ x. item_at Pretty (depth + 1) (g x) in
    let text = indented (depth + 1) (g x) in
    let rest = after_commas f xs in
    let end = line depth ++ 93 ∷ [] in
    ap (λ (t : List ℕ). 44 ∷ (line (depth + 1) ++ (text ++ t))) (items_laid depth g xs)
    ∙ ap (λ (t : List ℕ). 44 ∷ t) (sym (append_assoc (line (depth + 1)) text (rest ++ end)) ∙ sym (append_assoc (line (depth + 1) ++ text) rest end))

array_laid : {A : Type 0} (y : Layout) (depth : ℕ) (g : A → Data) (xs : List A) → laid_at y depth (array (items_of (map g xs)))
    ≡ 91 ∷ (listed (λ x. item_at y (depth + 1) (g x)) xs ++ (end_line y depth (length xs) ++ 93 ∷ []))
array_laid {A} Compact depth g xs = array_told g xs
array_laid {A} Pretty depth g [] = refl
array_laid {A} Pretty depth g (x ∷ xs) = ap (λ (t : List ℕ). 91 ∷ drop 1 t) (items_laid depth g (x ∷ xs))

same_items : (ts : Resources) → items_value ts ≡ items_of (map value_of (items ts))
same_items no_trees = refl
same_items (tree_and t ts) = ap (item (value_of t)) (same_items ts)

pub children_laid : (y : Layout) (depth : ℕ) (t : Resource) → kind_of t ≡ Kinds.Array → laid_at y depth (value_of t)
    ≡ 91 ∷ (listed (tree_at y (depth + 1)) (children_of t) ++ (end_line y depth (length (children_of t)) ++ 93 ∷ []))
children_laid y depth (tree.array ts) h = ap (λ ds. laid_at y depth (array ds)) (same_items ts) ∙ array_laid y depth value_of (items ts)
children_laid y depth _ h = absurd cc

-- ---- objects
-- a member, and what follows it
compact_member : (k d rest end : List ℕ) → quoted k ++ 58 ∷ (d ++ (rest ++ end)) ≡ (((quoted k ++ 58 ∷ []) ++ d) ++ rest) ++ end
compact_member k d rest end =
    sym (append_assoc (quoted k) (58 ∷ []) (d ++ (rest ++ end))) ∙ sym (append_assoc (quoted k ++ 58 ∷ []) d (rest ++ end))
    ∙ sym (append_assoc ((quoted k ++ 58 ∷ []) ++ d) rest end)

pretty_member : (l n d rest end : List ℕ) → l ++ (n ++ (d ++ (rest ++ end))) ≡ ((l ++ (n ++ d)) ++ rest) ++ end
pretty_member l n d rest end =
    ap (λ (t : List ℕ). l ++ t) (sym (append_assoc n d (rest ++ end))) ∙ sym (append_assoc l (n ++ d) (rest ++ end))
    ∙ sym (append_assoc (l ++ (n ++ d)) rest end)

compact_members : (es : tree.Members) → members_text true (members_value es) ≡ after_commas (entry_at Compact 0) (pairs es) ++ 125 ∷ []
compact_members no_entries = refl
compact_members (entry_and k t es) =
    let text = compact_text (value_of t) in
    ap (λ (r : List ℕ). 44 ∷ (quoted (key_text k) ++ 58 ∷ (text ++ r))) (compact_members es)
    ∙ ap (λ (r : List ℕ). 44 ∷ r) (compact_member (key_text k) text (after_commas (entry_at Compact 0) (pairs es)) (125 ∷ []))

pretty_members : (depth : ℕ) (es : tree.Members) → indented_members depth true (members_value es)
    ≡ after_commas (entry_at Pretty (depth + 1)) (pairs es) ++ (line depth ++ 125 ∷ [])
pretty_members depth no_entries = refl
pretty_members depth (entry_and k t es) =
    let name = member_name Pretty (key_text k) in
    let text = indented (depth + 1) (value_of t) in
    let inner = line (depth + 1) in
    ap (λ (r : List ℕ). 44 ∷ (inner ++ (name ++ (text ++ r)))) (pretty_members depth es)
    ∙ ap (λ (r : List ℕ). 44 ∷ r) (pretty_member inner name text (after_commas (entry_at Pretty (depth + 1)) (pairs es)) (line depth ++ 125 ∷ []))

object_laid : (y : Layout) (depth : ℕ) (es : tree.Members) → laid_at y depth (object (members_value es))
    ≡ 123 ∷ (listed (entry_at y (depth + 1)) (pairs es) ++ (end_line y depth (length (pairs es)) ++ 125 ∷ []))
object_laid Compact depth no_entries = refl
object_laid Compact depth (entry_and k t es) = ap (λ (r : List ℕ). 123 ∷ drop 1 r) (compact_members (entry_and k t es))
object_laid Pretty depth no_entries = refl
object_laid Pretty depth (entry_and k t es) = ap (λ (r : List ℕ). 123 ∷ drop 1 r) (pretty_members depth (entry_and k t es))

pub entries_laid : (y : Layout) (depth : ℕ) (t : Resource) → kind_of t ≡ Kinds.Table → laid_at y depth (value_of t)
    ≡ 123 ∷ (listed (entry_at y (depth + 1)) (pairs_of t) ++ (end_line y depth (length (pairs_of t)) ++ 125 ∷ []))
entries_laid y depth (table es) h = object_laid y depth es
entries_laid y depth _ h = absurd cc

tagged_laid : (y : Layout) (depth : ℕ) (k : List ℕ) (d : Data) → laid_at y depth (tagged k d) ≡ tag_front y depth k ++ (laid_at y (depth + 1) d ++ tag_end y depth)
tagged_laid Compact depth k d = ap (λ (t : List ℕ). 123 ∷ t) (sym (append_assoc (quoted k) (58 ∷ []) (compact_text d ++ 125 ∷ [])))
tagged_laid Pretty depth k d =
    ap (λ (t : List ℕ). 123 ∷ t) (sym (append_assoc (line (depth + 1)) (member_name Pretty k) (indented (depth + 1) d ++ tag_end Pretty depth)))

-- ---- what is taken of them
-- the line of a closing bracket
pub some_lines : (y : Layout) (depth count : ℕ) → 0 < count → end_line y depth count ≡ line_at y depth
some_lines Compact depth count h = refl
some_lines Pretty depth zero h = absurd (omega arith)
some_lines Pretty depth (suc count) h = refl

pub no_lines : (y : Layout) (depth count : ℕ) → count ≡ 0 → end_line y depth count ≡ []
no_lines Compact depth count h = refl
no_lines Pretty depth zero h = refl
no_lines Pretty depth (suc count) h = absurd (omega arith)

pub string_at : (Takes : List ℕ → Type 0) (layout : Layout) (depth : ℕ) (s : List ℕ) → Takes (quoted s) → Takes (laid_at layout (depth + 1) (string s))
string_at Takes Compact depth s h = h
string_at Takes Pretty depth s h = h

module _ {S : Type 0} (Takes : S → S → List ℕ → Type 0) (joined : (x y z : S) (a b : List ℕ) → Takes x y a → Takes y z b → Takes x z (a ++ b)) where
  -- an opening bracket, what is between the brackets, the line of the closing one, and this
  pub bracketed : (v w x y z : S) (opening closing : ℕ) (inner end text : List ℕ) → text ≡ opening ∷ (inner ++ (end ++ closing ∷ [])) → Takes v w (opening ∷ [])
      → Takes w x inner → Takes x y end → Takes y z (closing ∷ []) → Takes v z text
  bracketed v w x y z opening closing inner end text is a b c d =
      subst (Takes v z) (sym is) (joined v w z (opening ∷ []) (inner ++ (end ++ closing ∷ [])) a (joined w x z inner (end ++ closing ∷ []) b (joined x y z end (closing ∷ []) c d)))

  pub numbers_taken : {A : Type 0} (v w x y z : S) (layout : Layout) (depth : ℕ) (g : A → Data) (xs : List A) → Takes v w (91 ∷ [])
      → Takes w x (listed (λ n. item_at layout (depth + 1) (g n)) xs) → Takes x y (end_line layout depth (length xs)) → Takes y z (93 ∷ [])
      → Takes v z (laid_at layout depth (array (items_of (map g xs))))
  numbers_taken v w x y z layout depth g xs a b c d =
      bracketed v w x y z 91 93 (listed (λ n. item_at layout (depth + 1) (g n)) xs) (end_line layout depth (length xs)) _ (array_laid layout depth g xs) a b c d

  -- a value on its line
  pub told_at : (x y z : S) (layout : Layout) (depth : ℕ) (d : Data) → Takes x y (line_at layout depth) → Takes y z (laid_at layout depth d)
      → Takes x z (item_at layout depth d)
  told_at x y z layout depth d line text = joined x y z (line_at layout depth) (laid_at layout depth d) line text

  pub number_told : (x y z : S) (layout : Layout) (depth : ℕ) (n : Num) → Takes x y (line_at layout depth) → Takes y z (number_text n)
      → Takes x z (item_at layout depth (number n))
  number_told x y z Compact depth n line text = joined x y z [] (number_text n) line text
  number_told x y z Pretty depth n line text = joined x y z (line_at Pretty depth) (number_text n) line text

  -- a key, its colon and its value on their line
  pub entry_told : (v w x y z : S) (layout : Layout) (depth : ℕ) (k : List ℕ) (t : Resource) → Takes v w (line_at layout depth)
      → Takes w x (quoted (key_text k)) → Takes x y (colon layout) → Takes y z (laid_at layout depth (value_of t)) → Takes v z (entry_at layout depth (k, t))
  entry_told v w x y z layout depth k t a b c d =
      let name = member_name layout (key_text k) in
      let text = laid_at layout depth (value_of t) in
      joined v w z (line_at layout depth) (name ++ text) a (joined w y z name text (joined w x y (quoted (key_text k)) (colon layout) b c) d)

  -- a string is the same in each layout
  pub string_laid : (x y z : S) (layout : Layout) (depth : ℕ) (s : List ℕ) → Takes x y [] → Takes y z (quoted s) → Takes x z (laid_at layout depth (string s))
  string_laid x y z Compact depth s a b = joined x y z [] (quoted s) a b
  string_laid x y z Pretty depth s a b = joined x y z [] (quoted s) a b

  pub tagged_taken : (w x y z : S) (layout : Layout) (depth : ℕ) (k : List ℕ) (d : Data) → Takes w x (tag_front layout depth k)
      → Takes x y (laid_at layout (depth + 1) d) → Takes y z (tag_end layout depth) → Takes w z (laid_at layout depth (tagged k d))
  tagged_taken w x y z layout depth k d a b c =
      let text = laid_at layout (depth + 1) d in
      subst (Takes w z) (sym (tagged_laid layout depth k d))
      (joined w x z (tag_front layout depth k) (text ++ tag_end layout depth) a (joined x y z text (tag_end layout depth) b c))

-- ---- an indented text is no shorter than the compact one
mutual
  longer : (depth : ℕ) (d : Data) → length (compact_text d) ≤ length (indented depth d)
  longer depth (array ds) = omega (arith, longer_items depth false ds)
  longer depth (object ms) = omega (arith, longer_members depth false ms)
  longer depth _ = omega arith

  longer_items : (depth : ℕ) (later : Bool) (ds : Items) → length (items_text later ds) ≤ length (indented_items depth later ds)
  longer_items depth true no_items = omega (arith, length-append (line depth) (93 ∷ []))
  longer_items depth false no_items = omega arith
  longer_items depth later (item d ds) =
      let rest = indented (depth + 1) d ++ indented_items depth true ds in
      omega (
        arith,
        longer (depth + 1) d,
        longer_items depth true ds,
        length-append (comma_if later) (compact_text d ++ items_text true ds),
        length-append (comma_if later) (line (depth + 1) ++ rest),
        length-append (line (depth + 1)) rest,
        length-append (compact_text d) (items_text true ds),
        length-append (indented (depth + 1) d) (indented_items depth true ds),
      )

  longer_members : (depth : ℕ) (later : Bool) (ms : Members) → length (members_text later ms) ≤ length (indented_members depth later ms)
  longer_members depth true no_members = omega (arith, length-append (line depth) (125 ∷ []))
  longer_members depth false no_members = omega arith
  longer_members depth later (member k d ms) =
      let rest = indented (depth + 1) d ++ indented_members depth true ms in
      let name = quoted k ++ 58 ∷ 32 ∷ [] in
      let short = compact_text d ++ members_text true ms in
      omega (
        arith,
        longer (depth + 1) d,
        longer_members depth true ms,
        length-append (comma_if later) (quoted k ++ 58 ∷ short),
        length-append (comma_if later) (line (depth + 1) ++ (name ++ rest)),
        length-append (line (depth + 1)) (name ++ rest),
        length-append name rest,
        length-append (quoted k) (58 ∷ 32 ∷ []),
        length-append (quoted k) (58 ∷ short),
        length-append (compact_text d) (members_text true ms),
        length-append (indented (depth + 1) d) (indented_members depth true ms),
      )

pub laid_long : (y : Layout) (depth : ℕ) (d : Data) → length (compact_text d) ≤ length (laid_at y depth d)
laid_long Compact depth d = omega arith
laid_long Pretty depth d = longer depth d
