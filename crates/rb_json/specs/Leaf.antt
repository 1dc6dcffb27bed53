-- The parts of items as JSON, a form of this project; the kinds are those of ICU's `uresdata.h`.
use Rattle.std.specs.Prelude.{ℕ, ℤ, pos, ◌-ℤ◌, ◌^◌, List, map, nat_lt, if◌then◌else◌, encode_utf8_all}
use Rattle.serde_json.specs.Data.{Data, number, string, array, unsigned}
use Rattle.serde_json.specs.View.{items_of}
use Rattle.serde_json.specs.Find.{of_integer}

-- bytes as a text, a character each; those of names, keys and paths are ASCII
abbrev pub text_data : List ℕ → Data
text_data bytes = string (encode_utf8_all bytes)

-- a number of 28 bits with its sign
abbrev pub signed_of : ℕ → ℤ
signed_of n = if nat_lt n (2 ^ 27) then pos n else pos n -ℤ pos (2 ^ 28)

abbrev pub units_data : List ℕ → Data
units_data us = array (items_of (map (λ u. number (unsigned u)) us))

abbrev pub numbers_data : List ℤ → Data
numbers_data zs = array (items_of (map (λ z. number (of_integer z)) zs))
