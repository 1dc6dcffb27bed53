-- Defines the page of a bundle: the signs that the printer writes for a tree, followed by the remaining signs. The
-- layout is a rule of this project.
use Rattle.std.specs.Prelude.{ℕ, zero, suc, ◌+◌, ◌-◌, ◌*◌, min, ℤ, ◌/◌, ◌%◌, Bool, true, false, not, ◌&&◌, ◌||◌, nat_lt}
use Rattle.std.specs.Prelude.{nat_le, List, [], ◌∷◌, length, encode_utf8_all}
use Rattle.std.specs.Char.{digit_char}
use Rattle.std.specs.Fmt.{decimal, signed_decimal}
use Rattle.rb_tree.specs.Resource.{Resource, string, int, ints, binary, alias, array, table, Resources, no_trees}
use Rattle.rb_tree.specs.Resource.{tree_and, Members, no_entries, entry_and}
use Rattle.rb_tree.specs.SourceTree.{SourceTree}
use Rattle.rb_grammar.specs.Form.{alias_word, binary_word, int_word, ints_word, table_word, no_fallback_table_word}
use Rattle.rb_grammar.specs.Form.{array_word}
use Rattle.rb_printer.specs.Sign.{Sign, feed, space, left, right, colon, comma, text, pieces, is_name, text_chars}
use Rattle.rb_printer.specs.Sign.{signs_chars}

-- two hexadecimal digits for each byte
abbrev pub hex_units : List ℕ → List ℕ
hex_units [] = []
hex_units (b ∷ bs) = digit_char (b / 16) ∷ digit_char (b % 16) ∷ hex_units bs

-- the digits of the first bytes, at most this many
abbrev pub hex_first : List ℕ → ℕ → List ℕ
hex_first [] remaining = []
hex_first (b ∷ bs) zero = []
hex_first (b ∷ bs) (suc n) = digit_char (b / 16) ∷ digit_char (b % 16) ∷ hex_first bs n

-- the digits of the other bytes, 32 bytes a piece
abbrev pub hex_later : List ℕ → ℕ → List (List ℕ)
hex_later [] remaining = []
hex_later (b ∷ bs) zero = (digit_char (b / 16) ∷ digit_char (b % 16) ∷ hex_first bs 31) ∷ hex_later bs 31
hex_later (b ∷ bs) (suc n) = hex_later bs n

-- at most 32 bytes: they need no separate lines
abbrev pub is_short : List ℕ → Bool
is_short bs = nat_le (length bs) 32

-- four spaces for each level
abbrev pub indent : ℕ → List Sign → List Sign
indent zero rest = rest
indent (suc n) rest = space ∷ space ∷ space ∷ space ∷ indent n rest

-- a space, or a new line
abbrev pub pause : Bool → ℕ → List Sign → List Sign
pause true level rest = space ∷ rest
pause false level rest = feed ∷ indent level rest

-- The remaining columns of a line of 100 after an item of a width and a comma: the item follows a space, where this
-- many remained before, or begins a new line.
abbrev pub remaining_after : Bool → ℕ → ℕ → ℕ → ℕ
remaining_after true level remaining width = remaining - width - 2
remaining_after false level remaining width = 100 - 4 * level - width - 1

-- a comma if more follows
abbrev pub comma_if : Bool → List Sign → List Sign
comma_if true rest = comma ∷ rest
comma_if false rest = rest

abbrev pub are_more : List ℤ → Bool
are_more [] = false
are_more (z ∷ zs) = true

-- the numbers at a level get separate lines: more than four numbers, at most twelve levels deep
abbrev pub wraps : ℕ → List ℤ → Bool
wraps level zs = nat_lt 4 (length zs) && nat_le level 12

-- the current line takes another number: there are no separate lines, or the widest number fits with a space and a
-- comma
abbrev pub number_fits : Bool → ℕ → Bool
number_fits wrapped remaining = not wrapped || nat_le 13 remaining

-- numbers with commas between them, in a line with this many remaining columns or in lines of a level
abbrev pub numbers_signs : List ℤ → Bool → ℕ → ℕ → List Sign → List Sign
numbers_signs [] wrapped level remaining rest = rest
numbers_signs (z ∷ zs) wrapped level remaining rest =
    let fits = number_fits wrapped remaining in
    pause fits level (text true (signed_decimal z) ∷ comma_if (are_more zs)
    (numbers_signs zs wrapped level (remaining_after fits level remaining (length (signed_decimal z))) rest))

abbrev pub has_items : Resources → Bool
has_items no_trees = false
has_items (tree_and t ts) = true

abbrev pub has_entries : Members → Bool
has_entries no_entries = false
has_entries (entry_and k t es) = true

-- genrb guesses the type: a string, or an array or a table that is not empty
abbrev pub is_guessed : Resource → Bool
is_guessed (string us) = true
is_guessed (int n) = false
is_guessed (ints zs) = false
is_guessed (binary bs) = false
is_guessed (alias us) = false
is_guessed (array ts) = has_items ts
is_guessed (table es) = has_entries es

-- a type, if it isn't guessed
abbrev pub type_unless : Bool → List ℕ → List Sign → List Sign
type_unless true word rest = rest
type_unless false word rest = colon ∷ text true word ∷ space ∷ rest

-- the gap between a key and its body: a space before a brace, nothing before a type
abbrev pub gap : Bool → List Sign → List Sign
gap true rest = space ∷ rest
gap false rest = rest

-- an item of an array, whose body has these signs: a string is written without its braces
abbrev pub item_signs : Resource → List Sign → List Sign → List Sign
item_signs (string us) body rest = text false us ∷ rest
item_signs (int n) body rest = body
item_signs (ints zs) body rest = body
item_signs (binary bs) body rest = body
item_signs (alias us) body rest = body
item_signs (array ts) body rest = body
item_signs (table es) body rest = body

-- the columns of a text with its quotes, at most 100
abbrev pub text_width : List ℕ → ℕ
text_width us = min 100 (length (text_chars false us))

-- the current line takes another item of an array: a string that fits with a space and a comma, at most twelve levels
-- deep
abbrev pub item_fits : ℕ → ℕ → Resource → Bool
item_fits level remaining (string us) = nat_le level 12 && nat_le (text_width us + 2) remaining
item_fits level remaining (int n) = false
item_fits level remaining (ints zs) = false
item_fits level remaining (binary bs) = false
item_fits level remaining (alias us) = false
item_fits level remaining (array ts) = false
item_fits level remaining (table es) = false

-- the remaining columns after it: none after an item that is no string
abbrev pub remaining_after_item : ℕ → ℕ → Resource → ℕ
remaining_after_item level remaining (string us) = remaining_after (item_fits level remaining (string us)) level remaining (text_width us)
remaining_after_item level remaining (int n) = 0
remaining_after_item level remaining (ints zs) = 0
remaining_after_item level remaining (binary bs) = 0
remaining_after_item level remaining (alias us) = 0
remaining_after_item level remaining (array ts) = 0
remaining_after_item level remaining (table es) = 0

abbrev mutual
  -- a type, if it isn't guessed, and braces
  pub body_signs : ℕ → Resource → List Sign → List Sign
  body_signs level (string us) rest = left ∷ space ∷ text false us ∷ space ∷ right ∷ rest
  body_signs level (int n) rest = colon ∷ text true (int_word false) ∷ space ∷ left ∷ space ∷ text true (decimal n)
      ∷ space ∷ right ∷ rest
  body_signs level (ints zs) rest = colon ∷ text true ints_word ∷ space ∷ left
      ∷ numbers_signs zs (wraps (level + 1) zs) (level + 1) 0 (pause (not (wraps (level + 1) zs)) level (right ∷ rest))
  body_signs level (binary bs) rest = colon ∷ text true (binary_word false) ∷ space ∷ left
      ∷ pause (is_short bs) (level + 1)
      (pieces (level + 1) (hex_first bs 32) (hex_later bs 32) ∷ pause (is_short bs) level (right ∷ rest))
  body_signs level (alias us) rest = colon ∷ text true alias_word ∷ space ∷ left ∷ space ∷ text false us ∷ space
      ∷ right ∷ rest
  body_signs level (array ts) rest = type_unless (has_items ts) array_word
      (left ∷ items_signs (level + 1) ts 0 (feed ∷ indent level (right ∷ rest)))
  body_signs level (table es) rest = type_unless (has_entries es) table_word
      (left ∷ feed ∷ entries_signs (level + 1) es (indent level (right ∷ rest)))

  -- several strings to a line and each other item in separate lines, with commas, after a line with this many remaining
  -- columns
  pub items_signs : ℕ → Resources → ℕ → List Sign → List Sign
  items_signs level no_trees remaining rest = rest
  items_signs level (tree_and t ts) remaining rest =
      let after = comma ∷ items_signs level ts (remaining_after_item level remaining t) rest in
      pause (item_fits level remaining t) level (item_signs t (body_signs level t after) after)

  -- each entry in separate lines
  pub entries_signs : ℕ → Members → List Sign → List Sign
  entries_signs level no_entries rest = rest
  entries_signs level (entry_and k t es) rest =
      indent level (text (is_name k) k ∷ gap (is_guessed t) (body_signs level t (feed ∷ entries_signs level es rest)))

-- a bundle's type, which is written if it has a flag, and the space before the brace
abbrev pub head_signs : Bool → List Sign → List Sign
head_signs true rest = colon ∷ text true no_fallback_table_word ∷ space ∷ rest
head_signs false rest = space ∷ rest

-- a bundle of this name, flag and entries
abbrev pub page : List ℕ → Bool → Members → List Sign
page name no_fallback es = text (is_name name) name
    ∷ head_signs no_fallback (left ∷ feed ∷ entries_signs 1 es (right ∷ feed ∷ []))

-- the entries of a table
abbrev pub members_of : Resource → Members
members_of (table es) = es
members_of t = no_entries

-- the items of an array
abbrev pub items_of : Resource → Resources
items_of (array ts) = ts
items_of t = no_trees

-- the bytes of a bundle's page
abbrev pub page_bytes : List ℕ → SourceTree → List ℕ
page_bytes name source = encode_utf8_all (signs_chars (page name source.no_fallback (members_of source.tree)))
