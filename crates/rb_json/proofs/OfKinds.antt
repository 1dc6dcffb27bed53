-- Items by their kinds: as many parts as their length says.
use Rattle.std.proofs.Common.{◌≡◌, length, refl}
use Rattle.rb_tree.specs.Resource.{Resource, string, ints, binary, alias, array, table}
use Rattle.rb_tree.specs.Parts.{HasUnits, bytes_of, children_of, kind_of, len_of, numbers_of, pairs_of, units_of}
use Rattle.rb_tree.specs.declared.kind.Kind.TheVariants as Kinds

pub units_len : (t : Resource) → HasUnits (kind_of t) → length (units_of t) ≡ len_of t
units_len (string us) h = refl
units_len (alias us) h = refl
units_len _ h = absurd h

pub as_many_bytes : (t : Resource) → kind_of t ≡ Kinds.Binary → length (bytes_of t) ≡ len_of t
as_many_bytes (binary bs) h = refl
as_many_bytes _ h = absurd cc

pub as_many_numbers : (t : Resource) → kind_of t ≡ Kinds.Ints → length (numbers_of t) ≡ len_of t
as_many_numbers (ints zs) h = refl
as_many_numbers _ h = absurd cc

pub as_many_entries : (t : Resource) → kind_of t ≡ Kinds.Table → length (pairs_of t) ≡ len_of t
as_many_entries (table es) h = refl
as_many_entries _ h = absurd cc

pub as_many_items : (t : Resource) → kind_of t ≡ Kinds.Array → length (children_of t) ≡ len_of t
as_many_items (array ts) h = refl
as_many_items _ h = absurd cc

pub string_len : (t : Resource) → kind_of t ≡ Kinds.String → length (units_of t) ≡ len_of t
string_len (string us) h = refl
string_len _ h = absurd cc
