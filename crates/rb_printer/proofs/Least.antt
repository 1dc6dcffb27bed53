-- The fewest characters of a text, and its tree's weight.
use Rattle.std.proofs.Common.{◌≡◌, ℕ, zero, suc, ◌+◌, ◌*◌, ◌≤◌, ◌<◌, ℤ, Bool, true, false, cond, ◌&&◌, not, List, [], ◌∷◌, ◌++◌, length}
use Rattle.std.proofs.Common.{refl, ap, arith, length-append, encode_utf8, encode_utf8_all, Option, Some, None}
use Rattle.std.specs.Fmt.{decimal, signed_decimal}
use Rattle.std.specs.Prelude.{nat_le}
use Rattle.std.proofs.lemmas.Str.{length-encode, len_utf8_bounds}
use Rattle.std.proofs.lemmas.Bool.{le-ltb}
use Rattle.std.specs.Char.{len_utf8}
use Rattle.std.specs.Char.Utf16.{is_high_surrogate, is_low_surrogate, surrogate_pair_char}
use Rattle.rb_lexer.specs.Lexeme.{quote, backslash}
use Rattle.rb_lexer.specs.Tokens.{is_empty}
use Rattle.rb_grammar.specs.Form.{table_word, array_word, no_fallback_table_word}
use Rattle.rb_tree.specs.Resource.{Resource, string, int, ints, binary, alias, array, table, Resources, no_trees, tree_and, Members, no_entries, entry_and}
use Rattle.rb_tree.specs.Resource.{weight, trees_weight, entries_weight}
use Rattle.rb_printer.specs.Sign.{Sign, feed, space, left, right, comma, text, is_word, is_name, is_shown, has_letter, letter_of, is_low, four_digits, escape_chars}
use Rattle.rb_printer.specs.Sign.{pair_chars, first_unit, unit_chars, units_chars}
use Rattle.rb_printer.specs.Sign.{pieces, joined, spaces, lines_chars, text_chars, sign_chars, signs_chars}
use Rattle.rb_printer.proofs.Forming.{hex_joined}
use Rattle.rb_printer.specs.Page.{hex_first, hex_later, is_short, pause, remaining_after, wraps, number_fits, text_width, item_fits, remaining_after_item}
use Rattle.rb_printer.specs.Page.{hex_units, indent, comma_if, are_more, has_items, has_entries, is_guessed, numbers_signs, type_unless, gap, item_signs}
use Rattle.rb_printer.specs.Page.{head_signs, body_signs, items_signs, entries_signs, page}
use Rattle.rb_lexer.specs.Limits.{source_limit}
use Rattle.rb_printer.specs.declared.error.PrintError.{PrintError}
use Rattle.rb_printer.specs.inner.Growth.{Exceeds}
use Rattle.rb_printer.specs.inner.Least.{item_lead, least, items_least, entries_least, frame, items_frame, entries_frame}
use Rattle.rb_printer.proofs.Tests.{and_left, and_right}
use Rattle.rb_printer.proofs.Texts.{shown_high, low_not_high}

-- ---- bytes

-- how many bytes characters take in UTF-8
abbrev size : List ℕ → ℕ
size [] = 0
size (c ∷ cs) = len_utf8 c + size cs

size_append : (cs ds : List ℕ) → size (cs ++ ds) ≡ size cs + size ds
size_append [] ds = omega arith
size_append (c ∷ cs) ds = omega (arith, size_append cs ds)

size_is : (cs : List ℕ) → length (encode_utf8_all cs) ≡ size cs
size_is [] = refl
size_is (c ∷ cs) = omega (arith, length-append (encode_utf8 c) (encode_utf8_all cs), length-encode c, size_is cs)

size_least : (cs : List ℕ) → length cs ≤ size cs
size_least [] = omega arith
size_least (c ∷ cs) = omega (arith, len_utf8_bounds c, size_least cs)

-- ---- one text

-- a pair takes four bytes
pair_size : (u : ℕ) (next : Option ℕ) → (is_high_surrogate u && is_low next) ≡ true → 2 ≤ size (pair_chars u next)
pair_size u None e = let none = and_right (is_high_surrogate u) false e in cc
pair_size u (Some v) e =
    rw (
      le-ltb (surrogate_pair_char u v) 0x80 (omega arith),
      le-ltb (surrogate_pair_char u v) 0x800 (omega arith),
      le-ltb (surrogate_pair_char u v) 0x1_0000 (omega arith),
    ) (omega arith)

escape_size : (u : ℕ) → 2 ≤ size (escape_chars u)
escape_size u = by (has_letter u) where
  by : (b : Bool) → 2 ≤ size (backslash ∷ cond b (letter_of u ∷ []) (0x75 ∷ four_digits u))
  by true = omega (arith, len_utf8_bounds (letter_of u))
  by false = omega arith

-- a high surrogate has a byte in hand for the second unit of its pair
abbrev in_hand : Bool → ℕ
in_hand b = cond b 1 0

unit_size : (after : Bool) (u : ℕ) (next : Option ℕ) → 1 + in_hand (is_high_surrogate u) ≤ size (unit_chars after u next) + in_hand after
unit_size after u next = by (is_shown u) (is_high_surrogate u && is_low next) (after && is_low_surrogate u) refl refl refl where
  most : (b : Bool) → cond b 1 0 ≤ 1
  most true = omega arith
  most false = omega arith

  by : (a b c : Bool) → is_shown u ≡ a → (is_high_surrogate u && is_low next) ≡ b → (after && is_low_surrogate u) ≡ c
      → 1 + cond (is_high_surrogate u) 1 0 ≤ size (cond a (u ∷ []) (cond b (pair_chars u next) (cond c [] (escape_chars u)))) + cond after 1 0
  by true b c e f g = omega (arith, ap in_hand (shown_high u e), len_utf8_bounds u)
  by false true c e f g = omega (arith, most (is_high_surrogate u), pair_size u next f)
  by false false true e f g = omega (arith, ap in_hand (low_not_high u (and_right after (is_low_surrogate u) g)), ap in_hand (and_left after (is_low_surrogate u) g))
  by false false false e f g = omega (arith, most (is_high_surrogate u), escape_size u)

many_chars : (us : List ℕ) (after : Bool) → length us ≤ size (units_chars us after) + in_hand after
many_chars [] after = omega arith
many_chars (u ∷ us) after =
    let high = is_high_surrogate u in
    omega (arith, size_append (unit_chars after u (first_unit us)) (units_chars us high), unit_size after u (first_unit us), many_chars us high)

quoted_least : (us : List ℕ) → 2 + length us ≤ size (text_chars false us)
quoted_least us = omega (arith, size_append (units_chars us false) (quote ∷ []), many_chars us false)

text_least : (b : Bool) (us : List ℕ) → length us ≤ size (text_chars b us)
text_least true us = size_least us
text_least false us = omega (arith, quoted_least us)

some_units : (us : List ℕ) → not (is_empty us) ≡ true → 1 ≤ length us
some_units [] e = cc
some_units (u ∷ us) e = omega arith

-- a text has a character, with quotes or without
text_some : (us : List ℕ) → 1 ≤ size (sign_chars (text true us))
text_some us = by (is_word us) refl where
  by : (b : Bool) → is_word us ≡ b → 1 ≤ size (text_chars b us)
  by true e = omega (arith, some_units us (and_left _ _ e), size_least us)
  by false e = omega (arith, quoted_least us)

key_least : (k : List ℕ) → length k ≤ size (sign_chars (text (is_name k) k))
key_least k = text_least (is_name k && is_word k) k

hex_length : (bs : List ℕ) → length (hex_units bs) ≡ 2 * length bs
hex_length [] = refl
hex_length (b ∷ bs) = omega (arith, hex_length bs)

-- ---- a tree, in front of what follows

indent_least : (n : ℕ) (rest : List Sign) → 4 * n + size (signs_chars rest) ≤ size (signs_chars (indent n rest))
indent_least zero rest = omega arith
indent_least (suc n) rest = omega (arith, indent_least n rest)

pause_least : (b : Bool) (n : ℕ) (rest : List Sign) → 1 + size (signs_chars rest) ≤ size (signs_chars (pause b n rest))
pause_least true n rest = omega arith
pause_least false n rest = omega (arith, indent_least n rest)

new_line_least : (n : ℕ) (rest : List Sign) → 1 + 4 * n + size (signs_chars rest) ≤ size (signs_chars (pause false n rest))
new_line_least n rest = omega (arith, indent_least n rest)

comma_least : (b : Bool) (rest : List Sign) → size (signs_chars rest) ≤ size (signs_chars (comma_if b rest))
comma_least true rest = omega arith
comma_least false rest = omega arith

gap_least : (b : Bool) (rest : List Sign) → size (signs_chars rest) ≤ size (signs_chars (gap b rest))
gap_least true rest = omega arith
gap_least false rest = omega arith

unless_least : (b : Bool) (word : List ℕ) (rest : List Sign) → size (signs_chars rest) ≤ size (signs_chars (type_unless b word rest))
unless_least true word rest = omega arith
unless_least false word rest = omega (arith, size_append (sign_chars (text true word)) (signs_chars (space ∷ rest)))

head_least : (b : Bool) (rest : List Sign) → size (signs_chars rest) ≤ size (signs_chars (head_signs b rest))
head_least true rest = omega (arith, size_append (sign_chars (text true no_fallback_table_word)) (signs_chars (space ∷ rest)))
head_least false rest = omega arith

numbers_least : (zs : List ℤ) (w : Bool) (level budget : ℕ) (rest : List Sign)
    → 2 * length zs + size (signs_chars rest) ≤ size (signs_chars (numbers_signs zs w level budget rest))
numbers_least [] w level budget rest = omega arith
numbers_least (z ∷ zs) w level budget rest =
    let fits = number_fits w budget in
    let next = remaining_after fits level budget (length (signed_decimal z)) in
    let after = comma_if (are_more zs) (numbers_signs zs w level next rest) in
    omega (
      arith,
      pause_least fits level (text true (signed_decimal z) ∷ after),
      size_append (sign_chars (text true (signed_decimal z))) (signs_chars after),
      text_some (signed_decimal z),
      comma_least (are_more zs) (numbers_signs zs w level next rest),
      numbers_least zs w level next rest,
    )

item_least : (t : Resource) (n : ℕ) (body after : List Sign) → least n t + size (signs_chars after) ≤ size (signs_chars body)
    → least n t + size (signs_chars after) ≤ size (signs_chars (item_signs t body after))
item_least (string us) n body after h = omega (arith, size_append (text_chars false us) (signs_chars after), quoted_least us)
item_least (int m) n body after h = h
item_least (ints zs) n body after h = h
item_least (binary bs) n body after h = h
item_least (alias us) n body after h = h
item_least (array ts) n body after h = h
item_least (table es) n body after h = h

lines_least : (ps : List (List ℕ)) (level : ℕ) → length (joined ps) ≤ size (lines_chars ps level)
lines_least [] level = omega arith
lines_least (p ∷ ps) level = omega (
  arith,
  length-append p (joined ps),
  size_append (spaces level) (text_chars false p ++ lines_chars ps level),
  size_append (text_chars false p) (lines_chars ps level),
  quoted_least p,
  lines_least ps level,
)

pieces_least : (bs : List ℕ) (level : ℕ) → 2 + 2 * length bs ≤ size (sign_chars (pieces level (hex_first bs 32) (hex_later bs 32)))
pieces_least bs level = omega (
  arith,
  size_append (text_chars false (hex_first bs 32)) (lines_chars (hex_later bs 32) level),
  quoted_least (hex_first bs 32),
  lines_least (hex_later bs 32) level,
  length-append (hex_first bs 32) (joined (hex_later bs 32)),
  ap length (hex_joined bs 32),
  hex_length bs,
)

-- the characters before an item, with the comma after it
lead_least : (t : Resource) (level budget : ℕ) (rest : List Sign) → item_lead level t + size (signs_chars rest) ≤ size (signs_chars (pause (item_fits level budget t) level rest)) + 1
lead_least (string us) level budget rest = by (nat_le level 12) where
  by : (b : Bool) → cond b 2 (4 * level) + size (signs_chars rest) ≤ size (signs_chars (pause (b && nat_le (text_width us + 2) budget) level rest)) + 1
  by true = omega (arith, pause_least (nat_le (text_width us + 2) budget) level rest)
  by false = omega (arith, new_line_least level rest)
lead_least (int n) level budget rest = omega (arith, new_line_least level rest)
lead_least (ints zs) level budget rest = omega (arith, new_line_least level rest)
lead_least (binary bs) level budget rest = omega (arith, new_line_least level rest)
lead_least (alias us) level budget rest = omega (arith, new_line_least level rest)
lead_least (array ts) level budget rest = omega (arith, new_line_least level rest)
lead_least (table es) level budget rest = omega (arith, new_line_least level rest)

lead_some : (t : Resource) (level : ℕ) → 1 ≤ level → 2 ≤ item_lead level t
lead_some (string us) level h = by (nat_le level 12) where
  by : (b : Bool) → 2 ≤ cond b 2 (4 * level)
  by true = omega arith
  by false = omega arith
lead_some (int n) level h = omega arith
lead_some (ints zs) level h = omega arith
lead_some (binary bs) level h = omega arith
lead_some (alias us) level h = omega arith
lead_some (array ts) level h = omega arith
lead_some (table es) level h = omega arith

mutual
  pub body_least : (t : Resource) (level : ℕ) (rest : List Sign) → least level t + size (signs_chars rest) ≤ size (signs_chars (body_signs level t rest))
  body_least (string us) level rest = omega (arith, size_append (text_chars false us) (0x20 ∷ 0x7D ∷ signs_chars rest), quoted_least us)
  body_least (int n) level rest = omega (arith, size_append (sign_chars (text true (decimal n))) (0x20 ∷ 0x7D ∷ signs_chars rest))
  body_least (ints zs) level rest =
      let w = wraps (level + 1) zs in
      omega (arith, numbers_least zs w (level + 1) 0 (pause (not w) level (right ∷ rest)), pause_least (not w) level (right ∷ rest))
  body_least (binary bs) level rest =
      let end = pause (is_short bs) level (right ∷ rest) in
      let one = pieces (level + 1) (hex_first bs 32) (hex_later bs 32) in
      omega (
        arith,
        pause_least (is_short bs) (level + 1) (one ∷ end),
        size_append (sign_chars one) (signs_chars end),
        pieces_least bs (level + 1),
        pause_least (is_short bs) level (right ∷ rest),
      )
  body_least (alias us) level rest = omega (arith, size_append (text_chars false us) (0x20 ∷ 0x7D ∷ signs_chars rest), quoted_least us)
  body_least (array ts) level rest =
      let end = indent level (right ∷ rest) in
      omega (
        arith,
        unless_least (has_items ts) array_word (left ∷ items_signs (level + 1) ts 0 (feed ∷ end)),
        items_least_of ts (level + 1) 0 (feed ∷ end),
        indent_least level (right ∷ rest),
      )
  body_least (table es) level rest =
      let end = indent level (right ∷ rest) in
      omega (
        arith,
        unless_least (has_entries es) table_word (left ∷ feed ∷ entries_signs (level + 1) es end),
        entries_least_of es (level + 1) end,
        indent_least level (right ∷ rest),
      )

  pub items_least_of : (ts : Resources) (level budget : ℕ) (rest : List Sign)
      → items_least level ts + size (signs_chars rest) ≤ size (signs_chars (items_signs level ts budget rest))
  items_least_of no_trees level budget rest = omega arith
  items_least_of (tree_and t ts) level budget rest =
      let next = remaining_after_item level budget t in
      let after = comma ∷ items_signs level ts next rest in
      omega (
        arith,
        lead_least t level budget (item_signs t (body_signs level t after) after),
        item_least t level (body_signs level t after) after (body_least t level after),
        items_least_of ts level next rest,
      )

  pub entries_least_of : (es : Members) (level : ℕ) (rest : List Sign)
      → entries_least level es + size (signs_chars rest) ≤ size (signs_chars (entries_signs level es rest))
  entries_least_of no_entries level rest = omega arith
  entries_least_of (entry_and k t es) level rest =
      let after = feed ∷ entries_signs level es rest in
      let body = gap (is_guessed t) (body_signs level t after) in
      omega (
        arith,
        indent_least level (text (is_name k) k ∷ body),
        size_append (sign_chars (text (is_name k) k)) (signs_chars body),
        key_least k,
        gap_least (is_guessed t) (body_signs level t after),
        body_least t level after,
        entries_least_of es level rest,
      )

-- ---- frames

mutual
  frame_least : (t : Resource) (level : ℕ) → frame level t ≤ least level t
  frame_least (string us) level = omega arith
  frame_least (int n) level = omega arith
  frame_least (ints zs) level = omega arith
  frame_least (binary bs) level = omega arith
  frame_least (alias us) level = omega arith
  frame_least (array ts) level = omega (arith, items_frame_least ts (level + 1))
  frame_least (table es) level = omega (arith, entries_frame_least es (level + 1))

  items_frame_least : (ts : Resources) (level : ℕ) → items_frame level ts ≤ items_least level ts
  items_frame_least no_trees level = omega arith
  items_frame_least (tree_and t ts) level = omega (arith, frame_least t level, items_frame_least ts level)

  entries_frame_least : (es : Members) (level : ℕ) → entries_frame level es ≤ entries_least level es
  entries_frame_least no_entries level = omega arith
  entries_frame_least (entry_and k t es) level = omega (arith, frame_least t level, entries_frame_least es level)

-- ---- weights

mutual
  weight_least : (t : Resource) (level : ℕ) → weight t ≤ 4 * least level t
  weight_least (string us) level = omega arith
  weight_least (int n) level = omega arith
  weight_least (ints zs) level = omega arith
  weight_least (binary bs) level = omega arith
  weight_least (alias us) level = omega arith
  weight_least (array ts) level = omega (arith, items_weight ts (level + 1) (omega arith))
  weight_least (table es) level = omega (arith, members_weight es (level + 1) (omega arith))

  items_weight : (ts : Resources) (level : ℕ) → 1 ≤ level → trees_weight ts ≤ 4 * items_least level ts
  items_weight no_trees level h = omega arith
  items_weight (tree_and t ts) level h = omega (arith, lead_some t level h, weight_least t level, items_weight ts level h)

  members_weight : (es : Members) (level : ℕ) → 1 ≤ level → entries_weight es ≤ 4 * entries_least level es
  members_weight no_entries level h = omega arith
  members_weight (entry_and k t es) level h = omega (arith, weight_least t level, members_weight es level h)

-- ---- a page

page_least : (name : List ℕ) (b : Bool) (es : Members) → entries_least 1 es + 4 ≤ length (encode_utf8_all (signs_chars (page name b es)))
page_least name b es =
    let inner = left ∷ feed ∷ entries_signs 1 es (right ∷ feed ∷ []) in
    omega (
      arith,
      size_is (signs_chars (page name b es)),
      size_append (sign_chars (text (is_name name) name)) (signs_chars (head_signs b inner)),
      head_least b inner,
      entries_least_of es 1 (right ∷ feed ∷ []),
    )

pub page_frame : (name : List ℕ) (b : Bool) (es : Members) → entries_frame 1 es + 4 ≤ length (encode_utf8_all (signs_chars (page name b es)))
page_frame name b es = omega (arith, page_least name b es, entries_frame_least es 1)

-- a text of more units than there is budget for bytes is too long
pub text_exceeds : (old us : List ℕ) (e : PrintError) → source_limit < length old + length us → Exceeds old (text_chars false us) e
text_exceeds old us e h = λ _.
    omega (arith, h, size_is (text_chars false us), quoted_least us, length-append old (encode_utf8_all (text_chars false us)))

pub page_light : (name : List ℕ) (b : Bool) (es : Members) → length (encode_utf8_all (signs_chars (page name b es))) ≤ 8388608 → weight (table es) ≤ 33554432
page_light name b es h = omega (arith, page_least name b es, members_weight es 1 (omega arith))
