-- A tree of a bundle as one JSON value, a form of this project; the kinds are those of ICU's `uresdata.h`.
use Rattle.std.specs.Prelude.{ℕ, List, [], ◌∷◌, ◌==◌, codes, encode_utf8_all, if◌then◌else◌}
use Rattle.std.specs.Char.Utf16.{has_unpaired_surrogate, utf16_lossy_chars}
use Rattle.serde_json.specs.Data.{Data, number, string, array, object, Items, no_items, item, Members, no_members}
use Rattle.serde_json.specs.Data.{member}
use Rattle.serde_json.specs.Find.{of_integer}
use Rattle.hex.specs.Hex.{encode_lower}
use Rattle.rb_tree.specs.Resource.{Resource, int, ints, binary, alias, table, Resources, no_trees, tree_and, no_entries}
use Rattle.rb_tree.specs.Resource.{entry_and}
use Rattle.rb_tree.specs.Resource as tree
use Rattle.rb_json.specs.Leaf.{signed_of, units_data, numbers_data}

-- what JSON has no form for: an object of one member, with a name that no table's key has
abbrev pub tagged : List ℕ → Data → Data
tagged name d = object (member name d no_members)

-- a text of UTF-16 by its characters; what isn't well-formed is given by its units
abbrev pub text_or_units : List ℕ → Data
text_or_units us = if has_unpaired_surrogate us then units_data us else string (encode_utf8_all (utf16_lossy_chars us))

abbrev pub string_value : List ℕ → Data
string_value us = if has_unpaired_surrogate us then tagged (codes ":units") (units_data us) else text_or_units us

-- a key that begins with a colon has one colon (58) more
abbrev pub with_colon : List ℕ → List ℕ
with_colon [] = []
with_colon (b ∷ bs) = if b == 58 then 58 ∷ b ∷ bs else b ∷ bs

-- the characters of a key are its bytes
abbrev pub key_text : List ℕ → List ℕ
key_text k = encode_utf8_all (with_colon k)

abbrev mutual
  pub value_of : Resource → Data
  value_of (tree.string us) = string_value us
  value_of (int n) = number (of_integer (signed_of n))
  value_of (ints zs) = tagged (codes ":intvector") (numbers_data zs)
  value_of (binary bs) = tagged (codes ":bin") (string (encode_lower bs))
  value_of (alias us) = tagged (codes ":alias") (text_or_units us)
  value_of (tree.array ts) = array (items_value ts)
  value_of (table es) = object (members_value es)

  pub items_value : Resources → Items
  items_value no_trees = no_items
  items_value (tree_and t ts) = item (value_of t) (items_value ts)

  pub members_value : tree.Members → Members
  members_value no_entries = no_members
  members_value (entry_and k t es) = member (key_text k) (value_of t) (members_value es)

-- an item without its children
abbrev pub leaf_value : Resource → Data
leaf_value (tree.array ts) = array no_items
leaf_value (table es) = object no_members
leaf_value t = value_of t
