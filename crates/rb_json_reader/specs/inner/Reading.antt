-- For what is private. Which tokens are those of a tree, before others.
use Rattle.std.specs.Prelude.{◌≡◌, ℕ, List, ◌∷◌, ◌++◌}
use Rattle.json.specs.Token.{Token, begin_object, end_object, key}
use Rattle.rb_tree.specs.Resource.{Resource}
use Rattle.rb_json.specs.Tokens.{data_tokens}
use Rattle.rb_json.specs.Value.{value_of}
use Rattle.rb_json_reader.specs.Arranged.{Arranges}

-- the first of these tokens are those of t's value, with members in any order, and the others follow
abbrev pub Reads : List Token → Resource → List Token → Type 0
Reads old t new = (u : Resource) × (old ≡ data_tokens (value_of u) ++ new) × Arranges u t

-- as `Reads`, of a tree without children
abbrev pub ReadsLeaf : List Token → Resource → List Token → Type 0
ReadsLeaf old t new = (old ≡ data_tokens (value_of t) ++ new) × Arranges t t

-- once its object is closed, these tokens are those of a tag with this name, and of t's value
abbrev pub ReadsTag : List ℕ → List Token → Resource → List Token → Type 0
ReadsTag name old t new =
    Arranges t t × ((rest : List Token) → new ≡ end_object ∷ rest
    → begin_object ∷ key name ∷ old ≡ data_tokens (value_of t) ++ rest)
