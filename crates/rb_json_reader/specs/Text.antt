-- Defines the JSON texts of a tree: those of its value (`value_of` of rb_json), with the members of objects in any order.
use Rattle.std.specs.Prelude.{◌≡◌, ℕ, List}
use Rattle.json.specs.Lex.{tokens}
use Rattle.rb_tree.specs.Resource.{Resource}
use Rattle.rb_json.specs.Tokens.{data_tokens}
use Rattle.rb_json.specs.Value.{value_of}
use Rattle.rb_json_reader.specs.Arranged.{Arranges}

-- the text has the tokens of the value of some tree, of which t is the one with ascending keys
abbrev pub IsJsonOf : List ℕ → Resource → Type 0
IsJsonOf text t = (u : Resource) × (tokens text ≡ data_tokens (value_of u)) × Arranges u t
