-- Items by their kinds: their members, with `valid` if it is given.
use Rattle.std.proofs.Common.{◌≡◌, ℕ, List, Option, Some, None, codes, refl}
use Rattle.std.specs.Map.{keys_of}
use Rattle.rb_tree.specs.Resource.{Resource, string, ints, binary, array, table}
use Rattle.rb_tree.specs.Parts.{bytes_of, kind_of, len_of, numbers_of, pairs_of, units_of}
use Rattle.hex.specs.Hex.{encode_lower}
use Rattle.serde_json.specs.Data.{member, no_members, number, string as string_data, unsigned}
use Rattle.rb_json.specs.Item.{item_members, numbers_data, of_type, texts_data}
use Rattle.rb_json.specs.Parts.{with_valid}
use Rattle.rb_json.proofs.Objects.{before}
use Rattle.rb_tree.specs.declared.kind.Kind.TheVariants as Kinds

pub ints_members : (t : Resource) (valid : Option (List ℕ)) → kind_of t ≡ Kinds.Ints → with_valid valid (item_members t)
    ≡ member (codes "type") (string_data (codes "intvector")) (before valid (member (codes "values") (numbers_data (numbers_of t)) no_members))
ints_members (ints zs) None h = refl
ints_members (ints zs) (Some v) h = refl
ints_members _ valid h = absurd cc

pub binary_members : (t : Resource) (valid : Option (List ℕ)) → kind_of t ≡ Kinds.Binary
    → with_valid valid (item_members t) ≡ member (codes "hex") (string_data (encode_lower (bytes_of t))) (with_valid valid (of_type (codes "bin")))
binary_members (binary bs) None h = refl
binary_members (binary bs) (Some v) h = refl
binary_members _ valid h = absurd cc

pub table_members : (t : Resource) (valid : Option (List ℕ)) → kind_of t ≡ Kinds.Table
    → with_valid valid (item_members t) ≡ member (codes "keys") (texts_data (keys_of (pairs_of t))) (with_valid valid (of_type (codes "table")))
table_members (table es) None h = refl
table_members (table es) (Some v) h = refl
table_members _ valid h = absurd cc

pub array_members : (t : Resource) (valid : Option (List ℕ)) → kind_of t ≡ Kinds.Array
    → with_valid valid (item_members t) ≡ member (codes "len") (number (unsigned (len_of t))) (with_valid valid (of_type (codes "array")))
array_members (array ts) None h = refl
array_members (array ts) (Some v) h = refl
array_members _ valid h = absurd cc

pub is_string : (t : Resource) → kind_of t ≡ Kinds.String → t ≡ string (units_of t)
is_string (string us) h = refl
is_string _ h = absurd cc
