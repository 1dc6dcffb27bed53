-- Defines the contents of a tree by kind, or nothing for another kind (`ures_getString`, `ures_getInt`, `ures_getUInt`,
-- `ures_getIntVector`, `ures_getBinary` and the iteration of ICU's `uresbund.h`).
use Rattle.std.specs.Prelude.{ℕ, ℤ, pos, ◌-ℤ◌, ◌^◌, nat_lt, if◌then◌else◌, List, Option, Some, None}
use Rattle.rb_tree.specs.Resource.{Resource, string, int, ints, binary, alias, array, table}
use Rattle.rb_tree.specs.Keys.{items, pairs}

abbrev pub text_of : Resource → Option (List ℕ)
text_of (string us) = Some us
text_of t = None

abbrev pub alias_of : Resource → Option (List ℕ)
alias_of (alias us) = Some us
alias_of t = None

abbrev pub ints_of : Resource → Option (List ℤ)
ints_of (ints zs) = Some zs
ints_of t = None

abbrev pub binary_of : Resource → Option (List ℕ)
binary_of (binary bs) = Some bs
binary_of t = None

-- without a sign
abbrev pub uint_of : Resource → Option ℕ
uint_of (int n) = Some n
uint_of t = None

-- a number of 28 bits, the highest of which is its sign
abbrev pub signed : ℕ → ℤ
signed n = if nat_lt n (2 ^ 27) then pos n else pos n -ℤ pos (2 ^ 28)

abbrev pub array_of : Resource → Option (List Resource)
array_of (array ts) = Some (items ts)
array_of t = None

-- the entries, in the order of their keys
abbrev pub table_of : Resource → Option (List (List ℕ × Resource))
table_of (table es) = Some (pairs es)
table_of t = None
