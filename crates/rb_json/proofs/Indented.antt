-- The indented text of a value is that of its tokens, and a tree's value has few brackets one inside another.
use Rattle.std.proofs.Common.{◌≡◌, ◌≤◌, ◌+◌, ◌-◌, ◌^◌, ℕ, List, [], ◌∷◌, ◌++◌, Bool, true, false, cond, map, refl, ap, sym, ◌∙◌, append_assoc, append-nil, arith}
use Rattle.std.specs.Prelude.{min, codes, ℤ, encode_utf8_all}
use Rattle.std.specs.Char.Utf16.{has_unpaired_surrogate, utf16_lossy_chars}
use Rattle.json.specs.Token.{Token, begin_array, end_array, begin_object, end_object}
use Rattle.json.specs.Token as token
use Rattle.json.specs.Tree.{items_tokens, members_tokens}
use Rattle.json.specs.Print.{begins, quoted, token_text}
use Rattle.json.specs.Layout.{Last, nothing, bracket, name, value, line, piece, pretty_from}
use Rattle.serde_json.specs.Data.{Data, unsigned, null, boolean, number, string, array, object, Items, no_items, item, Members, no_members, member, depth, items_depth, members_depth}
use Rattle.serde_json.specs.Find.{of_integer}
use Rattle.serde_json.specs.View.{items_of}
use Rattle.serde_json.specs.Written.{comma_if, items_outline, members_outline, number_text}
use Rattle.rb_tree.specs.Resource.{Resource, int, ints, binary, alias, table, Resources, no_trees, tree_and, no_entries, entry_and, height, trees_height, entries_height}
use Rattle.rb_tree.specs.Resource as tree
use Rattle.rb_json.specs.Laid.{indented, indented_items, indented_members, laid_at}
use Rattle.rb_json.specs.Leaf.{numbers_data, units_data}
use Rattle.rb_json.specs.Printed.{laid_out}
use Rattle.rb_json.specs.Tokens.{data_tokens}
use Rattle.rb_json.specs.Value.{items_value, members_value, tagged, value_of}
use Rattle.rb_json.specs.declared.layout.Layout.{Layout}
use Rattle.rb_json.specs.declared.layout.Layout.TheVariants.{Compact, Pretty}

-- what precedes a value or a member
abbrev lead : Last → ℕ → List ℕ
lead nothing n = []
lead bracket n = line n
lead name n = 32 ∷ []
lead value n = 44 ∷ line n

abbrev inner : Bool → Last
inner false = bracket
inner true = value

piece_is : (last : Last) (n : ℕ) (t : Token) → begins t ≡ true → piece (last, n) t ≡ lead last n ++ token_text t
piece_is nothing n t h = refl
piece_is bracket n t h = rw h refl
piece_is name n t h = refl
piece_is value n t h = rw h refl

lead_join : (later : Bool) (n : ℕ) (a b : List ℕ) → lead (inner later) n ++ (a ++ b) ≡ (comma_if later ++ (line n ++ a)) ++ b
lead_join false n a b = sym (append_assoc (line n) a b)
lead_join true n a b = ap (λ (t : List ℕ). 44 ∷ t) (sym (append_assoc (line n) a b))

one_deeper : (n : ℕ) → n + 1 ≤ 2 ^ 64 - 1 → min (n + 1) (2 ^ 64 - 1) ≡ n + 1
one_deeper n h = omega (arith, h)

back_out : (n : ℕ) → n + 1 - 1 ≡ n
back_out n = omega arith

mutual
  unfolding pretty_from

  value_from : (d : Data) (last : Last) (n : ℕ) (rest : List Token) → n + depth d ≤ 2 ^ 64 - 1
      → pretty_from (last, n) (data_tokens d ++ rest) ≡ lead last n ++ (indented n d ++ pretty_from (value, n) rest)
  value_from null last n rest h =
      ap (λ (t : List ℕ). t ++ pretty_from (value, n) rest) (piece_is last n token.null refl) ∙ append_assoc (lead last n) (token_text token.null) (pretty_from (value, n) rest)
  value_from (boolean b) last n rest h =
      ap (λ (t : List ℕ). t ++ pretty_from (value, n) rest) (piece_is last n (token.boolean b) refl)
      ∙ append_assoc (lead last n) (token_text (token.boolean b)) (pretty_from (value, n) rest)
  value_from (number x) last n rest h =
      ap (λ (t : List ℕ). t ++ pretty_from (value, n) rest) (piece_is last n (token.number (number_text x)) refl)
      ∙ append_assoc (lead last n) (number_text x) (pretty_from (value, n) rest)
  value_from (string s) last n rest h =
      ap (λ (t : List ℕ). t ++ pretty_from (value, n) rest) (piece_is last n (token.string s) refl)
      ∙ append_assoc (lead last n) (quoted s) (pretty_from (value, n) rest)
  value_from (array ds) last n rest h =
      let after = items_tokens (items_outline ds) ++ rest in
      ap (λ (t : List ℕ). t ++ pretty_from (bracket, min (n + 1) (2 ^ 64 - 1)) after) (piece_is last n begin_array refl)
      ∙ append_assoc (lead last n) (91 ∷ []) (pretty_from (bracket, min (n + 1) (2 ^ 64 - 1)) after)
      ∙ ap (λ (m : ℕ). lead last n ++ 91 ∷ pretty_from (bracket, m) after) (one_deeper n (omega (arith, h)))
      ∙ ap (λ (t : List ℕ). lead last n ++ 91 ∷ t) (items_from ds false n rest (omega (arith, h)))
  value_from (object ms) last n rest h =
      let after = members_tokens (members_outline ms) ++ rest in
      ap (λ (t : List ℕ). t ++ pretty_from (bracket, min (n + 1) (2 ^ 64 - 1)) after) (piece_is last n begin_object refl)
      ∙ append_assoc (lead last n) (123 ∷ []) (pretty_from (bracket, min (n + 1) (2 ^ 64 - 1)) after)
      ∙ ap (λ (m : ℕ). lead last n ++ 123 ∷ pretty_from (bracket, m) after) (one_deeper n (omega (arith, h)))
      ∙ ap (λ (t : List ℕ). lead last n ++ 123 ∷ t) (members_from ms false n rest (omega (arith, h)))

  items_from : (ds : Items) (later : Bool) (n : ℕ) (rest : List Token) → n + 1 + items_depth ds ≤ 2 ^ 64 - 1
      → pretty_from (inner later, n + 1) (items_tokens (items_outline ds) ++ rest) ≡ indented_items n later ds ++ pretty_from (value, n) rest
  items_from no_items false n rest h = ap (λ (m : ℕ). 93 ∷ pretty_from (value, m) rest) (back_out n)
  items_from no_items true n rest h = ap (λ (m : ℕ). (line m ++ 93 ∷ []) ++ pretty_from (value, m) rest) (back_out n)
  items_from (item d ds) later n rest h =
      let more = indented_items n true ds in
      let last = pretty_from (value, n) rest in
      let text = indented (n + 1) d in
      ap (pretty_from (inner later, n + 1)) (append_assoc (data_tokens d) (items_tokens (items_outline ds)) rest)
      ∙ value_from d (inner later) (n + 1) (items_tokens (items_outline ds) ++ rest) (omega (arith, h))
      ∙ ap (λ (t : List ℕ). lead (inner later) (n + 1) ++ (text ++ t)) (items_from ds true n rest (omega (arith, h)))
      ∙ ap (λ (t : List ℕ). lead (inner later) (n + 1) ++ t) (sym (append_assoc text more last))
      ∙ lead_join later (n + 1) (text ++ more) last

  members_from : (ms : Members) (later : Bool) (n : ℕ) (rest : List Token) → n + 1 + members_depth ms ≤ 2 ^ 64 - 1
      → pretty_from (inner later, n + 1) (members_tokens (members_outline ms) ++ rest) ≡ indented_members n later ms ++ pretty_from (value, n) rest
  members_from no_members false n rest h = ap (λ (m : ℕ). 125 ∷ pretty_from (value, m) rest) (back_out n)
  members_from no_members true n rest h = ap (λ (m : ℕ). (line m ++ 125 ∷ []) ++ pretty_from (value, m) rest) (back_out n)
  members_from (member k d ms) later n rest h =
      let more = indented_members n true ms in
      let last = pretty_from (value, n) rest in
      let text = indented (n + 1) d in
      let key = quoted k ++ 58 ∷ 32 ∷ [] in
      let front = lead (inner later) (n + 1) in
      let after = data_tokens d ++ members_tokens (members_outline ms) in
      ap (λ (t : List ℕ). t ++ pretty_from (name, n + 1) (after ++ rest)) (piece_is (inner later) (n + 1) (token.key k) refl)
      ∙ append_assoc front (quoted k ++ 58 ∷ []) (pretty_from (name, n + 1) (after ++ rest))
      ∙ ap (λ (t : List ℕ). front ++ ((quoted k ++ 58 ∷ []) ++ t))
      (ap (pretty_from (name, n + 1)) (append_assoc (data_tokens d) (members_tokens (members_outline ms)) rest)
      ∙ value_from d name (n + 1) (members_tokens (members_outline ms) ++ rest) (omega (arith, h))
      ∙ ap (λ (t : List ℕ). 32 ∷ (text ++ t)) (members_from ms true n rest (omega (arith, h)))
      ∙ ap (λ (t : List ℕ). 32 ∷ t) (sym (append_assoc text more last)))
      ∙ ap (λ (t : List ℕ). front ++ t) (append_assoc (quoted k) (58 ∷ []) (32 ∷ ((text ++ more) ++ last))
      ∙ sym (append_assoc (quoted k) (58 ∷ 32 ∷ []) ((text ++ more) ++ last)) ∙ sym (append_assoc key (text ++ more) last))
      ∙ lead_join later (n + 1) (key ++ (text ++ more)) last

-- ---- how many brackets there are, one inside another
flat : {A : Type 0} (g : A → Data) → ((x : A) → depth (g x) ≡ 0) → (xs : List A) → items_depth (items_of (map g xs)) ≡ 0
flat g h [] = refl
flat g h (x ∷ xs) = omega (arith, h x, flat g h xs)

units_flat : (us : List ℕ) → depth (units_data us) ≤ 1
units_flat us = omega (arith, flat (λ (u : ℕ). number (unsigned u)) (λ (u : ℕ). refl) us)

numbers_flat : (zs : List ℤ) → depth (numbers_data zs) ≤ 1
numbers_flat zs = omega (arith, flat (λ (z : ℤ). number (of_integer z)) (λ (z : ℤ). refl) zs)

text_flat : (b : Bool) (us s : List ℕ) → depth (cond b (units_data us) (string s)) ≤ 1
text_flat true us s = units_flat us
text_flat false us s = omega arith

string_flat : (b : Bool) (us s : List ℕ) → depth (cond b (tagged (codes ":units") (units_data us)) (cond b (units_data us) (string s))) ≤ 2
string_flat true us s = omega (arith, units_flat us)
string_flat false us s = omega arith

mutual
  value_flat : (t : Resource) → depth (value_of t) ≤ height t + 1
  value_flat (tree.string us) = string_flat (has_unpaired_surrogate us) us (encode_utf8_all (utf16_lossy_chars us))
  value_flat (int n) = omega arith
  value_flat (ints zs) = omega (arith, numbers_flat zs)
  value_flat (binary bs) = omega arith
  value_flat (alias us) = omega (arith, text_flat (has_unpaired_surrogate us) us (encode_utf8_all (utf16_lossy_chars us)))
  value_flat (tree.array ts) = omega (arith, items_flat ts)
  value_flat (table es) = omega (arith, members_flat es)

  items_flat : (ts : Resources) → items_depth (items_value ts) ≤ trees_height ts + 1
  items_flat no_trees = omega arith
  items_flat (tree_and t ts) = omega (arith, value_flat t, items_flat ts)

  members_flat : (es : tree.Members) → members_depth (members_value es) ≤ entries_height es + 1
  members_flat no_entries = omega arith
  members_flat (entry_and k t es) = omega (arith, value_flat t, members_flat es)

pub laid_whole : (y : Layout) (t : Resource) → height t ≤ 64 → laid_at y 0 (value_of t) ≡ laid_out y (value_of t)
unfolding pretty_from
laid_whole Compact t low = refl
laid_whole Pretty t low =
    let d = value_of t in
    sym (append-nil (indented 0 d)) ∙ sym (value_from d nothing 0 [] (omega (arith, low, value_flat t)))
    ∙ ap (pretty_from (nothing, 0)) (append-nil (data_tokens d))
