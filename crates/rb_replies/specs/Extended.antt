-- Defines the replies to extended requests, a form of this project.
use Rattle.std.specs.Prelude.{ℕ, Bool, true, List, [], ◌∷◌, ◌++◌, map, codes, encode_utf8_all, Option, Some, None}
use Rattle.json.specs.Print.{quoted}
use Rattle.serde_json.specs.Data.{Data, Members, boolean, number, string, unsigned, array, object, no_members, member}
use Rattle.serde_json.specs.View.{items_of}
use Rattle.rb_json.specs.Item.{text_data as name_data}
use Rattle.hex.specs.Hex.{encode_lower}

-- a bundle is stored, and whether it replaced another
abbrev pub stored_data : Bool → Data
stored_data is_replaced =
    object (member (codes "ok") (boolean true) (member (codes "replaced") (boolean is_replaced) no_members))

-- a bundle's text
abbrev pub text_data : List ℕ → Data
text_data text = object (member (codes "text") (string text) no_members)

-- the line of a bundle's file: `{"file":"`, its digits, `"}` and a line feed
abbrev pub file_line : List ℕ → List ℕ
file_line file = (123 ∷ 34 ∷ 102 ∷ 105 ∷ 108 ∷ 101 ∷ 34 ∷ 58 ∷ 34 ∷ []) ++ encode_lower file ++ (34 ∷ 125 ∷ 10 ∷ [])

-- the line of a tree, with the locales of its item: `{"actual":"de","tree":..,"valid":"de_AT"}` and a line feed
abbrev pub tree_line : (actual valid tree : List ℕ) → List ℕ
tree_line actual valid tree =
    codes "{\"actual\":" ++ (quoted (encode_utf8_all actual) ++ (codes ",\"tree\":" ++ (tree
    ++ (codes ",\"valid\":" ++ (quoted (encode_utf8_all valid) ++ codes "}\n")))))

-- a bundle's name, and the length of its file
abbrev pub size_data : List ℕ × ℕ → Data
size_data size =
    object (member (codes "bytes") (number (unsigned size.1)) (member (codes "locale") (name_data size.0) no_members))

abbrev pub sizes_data : List (List ℕ × ℕ) → Data
sizes_data sizes = object (member (codes "bundles") (array (items_of (map size_data sizes))) no_members)

-- ---- refusals

-- with a member, if there is a value for it
abbrev pub with_text : List ℕ → Option (List ℕ) → Members → Members
with_text key None members = members
with_text key (Some text) members = member key (string text) members

abbrev pub with_number : List ℕ → Option ℕ → Members → Members
with_number key None members = members
with_number key (Some n) members = member key (number (unsigned n)) members

-- an error: perhaps the code of the first error of a text or a file, the index of a change, and the line of a text
abbrev pub refusal_data : (error : List ℕ) (code : Option (List ℕ)) (index line : Option ℕ) → Data
refusal_data error code index line =
    object (with_text (codes "code") code (member (codes "error") (string error)
    (with_number (codes "index") index (with_number (codes "line") line no_members))))
