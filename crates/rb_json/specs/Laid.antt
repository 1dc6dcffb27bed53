-- Defines the text of a JSON value in a layout, inside a number of brackets (a form of this project).
use Rattle.std.specs.Prelude.{ℕ, zero, suc, ◌+◌, List, [], ◌∷◌, ◌++◌, Bool, true, false, if◌then◌else◌}
use Rattle.json.specs.Layout.{line}
use Rattle.json.specs.Print.{quoted}
use Rattle.serde_json.specs.Data.{Data, null, boolean, number, string, array, object, Items, no_items, item, Members}
use Rattle.serde_json.specs.Data.{no_members, member}
use Rattle.serde_json.specs.Written.{comma_if, compact_text}
use Rattle.rb_json.specs.declared.layout.Layout.{Layout}
use Rattle.rb_json.specs.declared.layout.Layout.TheVariants.{Compact, Pretty}

-- the line on which a closing bracket is; an empty array or object has none
abbrev pub last_line : Bool → ℕ → List ℕ
last_line later depth = if later then line depth else []

-- a line for each item and member, two spaces deeper for each bracket
abbrev mutual
  pub indented : ℕ → Data → List ℕ
  indented depth null = compact_text null
  indented depth (boolean b) = compact_text (boolean b)
  indented depth (number n) = compact_text (number n)
  indented depth (string s) = compact_text (string s)
  indented depth (array ds) = 91 ∷ indented_items depth false ds
  indented depth (object ms) = 123 ∷ indented_members depth false ms

  -- with the closing bracket
  pub indented_items : ℕ → Bool → Items → List ℕ
  indented_items depth later no_items = last_line later depth ++ 93 ∷ []
  indented_items depth later (item d ds) =
      comma_if later ++ (line (depth + 1) ++ (indented (depth + 1) d ++ indented_items depth true ds))

  pub indented_members : ℕ → Bool → Members → List ℕ
  indented_members depth later no_members = last_line later depth ++ 125 ∷ []
  indented_members depth later (member k d ms) =
      comma_if later ++ (line (depth + 1) ++ ((quoted k ++ 58 ∷ 32 ∷ [])
      ++ (indented (depth + 1) d ++ indented_members depth true ms)))

abbrev pub laid_at : Layout → ℕ → Data → List ℕ
laid_at Compact depth d = compact_text d
laid_at Pretty depth d = indented depth d
