-- Defines an item as JSON, a form of this project: an object with its members in ascending order, as `put` keeps them.
use Rattle.std.specs.Prelude.{ℕ, List, length, map, if◌then◌else◌, codes, encode_utf8_all}
use Rattle.std.specs.Char.Utf16.{has_unpaired_surrogate, utf16_lossy_chars}
use Rattle.std.specs.Map.{keys_of}
use Rattle.serde_json.specs.Data.{Data, number, string, array, object, unsigned, Members, no_members, put}
use Rattle.serde_json.specs.View.{items_of}
use Rattle.serde_json.specs.Find.{of_integer}
use Rattle.hex.specs.Hex.{encode_lower}
pub use Rattle.rb_json.specs.Leaf.{text_data, signed_of, units_data, numbers_data}
use Rattle.rb_tree.specs.Resource.{Resource, int, ints, binary, alias, table}
use Rattle.rb_tree.specs.Resource as tree
use Rattle.rb_tree.specs.Keys.{items, pairs}

abbrev pub texts_data : List (List ℕ) → Data
texts_data texts = array (items_of (map text_data texts))

abbrev pub of_type : List ℕ → Members
of_type word = put (codes "type") (string word) no_members

-- a text, by its units if it isn't well-formed UTF-16
abbrev pub with_text : List ℕ → Members → Members
with_text us members =
    if has_unpaired_surrogate us then put (codes "units") (units_data us) members
    else put (codes "value") (string (encode_utf8_all (utf16_lossy_chars us))) members

abbrev pub item_members : Resource → Members
item_members (tree.string us) = with_text us (of_type (codes "string"))
item_members (int n) = put (codes "signed") (number (of_integer (signed_of n)))
    (put (codes "unsigned") (number (unsigned n)) (of_type (codes "int")))
item_members (ints zs) = put (codes "values") (numbers_data zs) (of_type (codes "intvector"))
item_members (binary bs) = put (codes "hex") (string (encode_lower bs)) (of_type (codes "bin"))
item_members (alias us) = with_text us (of_type (codes "alias"))
item_members (tree.array ts) = put (codes "len") (number (unsigned (length (items ts)))) (of_type (codes "array"))
item_members (table es) = put (codes "keys") (texts_data (keys_of (pairs es))) (of_type (codes "table"))

-- an item that was found, with the names of the bundles that have it and that decided
abbrev pub found_data : (actual valid : List ℕ) → Resource → Data
found_data actual valid t =
    object (put (codes "actual") (text_data actual) (put (codes "valid") (text_data valid) (item_members t)))

-- an item by itself; of an alias also the path that is still to be walked
abbrev pub item_data : Resource → List ℕ → Data
item_data (alias us) rest = object (put (codes "rest") (text_data rest) (item_members (alias us)))
item_data t rest = object (item_members t)
