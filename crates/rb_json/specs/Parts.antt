-- Defines the bytes of an item's members in a reply, part by part (this project's JSON form of items).
use Rattle.std.specs.Prelude.{ℕ, zero, suc, List, [], ◌∷◌, ◌++◌, Bool, true, false, Option, Some, None, codes}
use Rattle.json.specs.Print.{quoted}
use Rattle.serde_json.specs.Data.{Members, put}
use Rattle.serde_json.specs.Written.{comma_if, compact_text, members_text}
use Rattle.rb_json.specs.Item.{text_data}

-- a comma, unless it is the first item
abbrev pub comma_before : ℕ → List ℕ
comma_before zero = []
comma_before (suc i) = 44 ∷ []

-- the outlet needs no more items, whatever they are; or the comma before the next one is taken
abbrev pub SkipsItems : (List ℕ → Type 0) → ℕ → Bool → Type 0
SkipsItems Takes i true = (bytes : List ℕ) → Takes bytes
SkipsItems Takes i false = Takes (comma_before i)

-- a member's name, after a comma if other members precede it
abbrev pub name_text : Bool → List ℕ → List ℕ
name_text later name = comma_if later ++ (quoted name ++ 58 ∷ [])

-- the member `valid` of an item that was found, which others precede
abbrev pub valid_text : Option (List ℕ) → List ℕ
valid_text None = []
valid_text (Some valid) = name_text true (codes "valid") ++ compact_text (text_data valid)

abbrev pub with_valid : Option (List ℕ) → Members → Members
with_valid None ms = ms
with_valid (Some valid) ms = put (codes "valid") (text_data valid) ms

-- the members of an item, `valid` among them if it is given, and the closing brace
abbrev pub rest_text : Bool → Option (List ℕ) → Members → List ℕ
rest_text later valid ms = members_text later (with_valid valid ms)
