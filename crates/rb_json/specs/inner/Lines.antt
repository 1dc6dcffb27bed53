-- For what is private. Defines what is between the values of an array or an object in a layout.
use Rattle.std.specs.Prelude.{ℕ, zero, suc, ◌+◌, List, [], ◌∷◌, ◌++◌}
use Rattle.json.specs.Layout.{line}
use Rattle.json.specs.Print.{quoted}
use Rattle.serde_json.specs.Data.{Data}
use Rattle.rb_tree.specs.Resource.{Resource}
use Rattle.rb_json.specs.Laid.{laid_at}
use Rattle.rb_json.specs.Value.{key_text, value_of}
use Rattle.rb_json.specs.declared.layout.Layout.{Layout}
use Rattle.rb_json.specs.declared.layout.Layout.TheVariants.{Compact, Pretty}

-- a new line inside `depth` brackets, in the layout that has lines
abbrev pub line_at : Layout → ℕ → List ℕ
line_at Compact depth = []
line_at Pretty depth = line depth

-- the line of the closing bracket after `count` values
abbrev pub end_line : Layout → ℕ → ℕ → List ℕ
end_line Compact depth count = []
end_line Pretty depth zero = []
end_line Pretty depth (suc count) = line depth

-- what separates a member's name from its value
abbrev pub colon : Layout → List ℕ
colon Compact = 58 ∷ []
colon Pretty = 58 ∷ 32 ∷ []

abbrev pub member_name : Layout → List ℕ → List ℕ
member_name y name = quoted name ++ colon y

-- a value on its line
abbrev pub item_at : Layout → ℕ → Data → List ℕ
item_at y depth d = line_at y depth ++ laid_at y depth d

abbrev pub tree_at : Layout → ℕ → Resource → List ℕ
tree_at y depth t = item_at y depth (value_of t)

abbrev pub entry_at : Layout → ℕ → List ℕ × Resource → List ℕ
entry_at y depth e = line_at y depth ++ (member_name y (key_text e.0) ++ laid_at y depth (value_of e.1))

-- what precedes and follows the value of an object with one member
abbrev pub tag_front : Layout → ℕ → List ℕ → List ℕ
tag_front y depth name = 123 ∷ (line_at y (depth + 1) ++ member_name y name)

abbrev pub tag_end : Layout → ℕ → List ℕ
tag_end y depth = line_at y depth ++ 125 ∷ []
