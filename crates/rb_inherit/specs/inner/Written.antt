-- Defines, for private contracts, that the JSON of some value was written.
use Rattle.std.specs.Prelude.{◌≡◌, ℕ, List, ◌∷◌, ◌++◌}
use Rattle.std.specs.List.{AllByRecursion}
use Rattle.json.specs.Print.{quoted}
use Rattle.serde_json.specs.Data.{Data}
use Rattle.serde_json.specs.Written.{compact_text}
use Rattle.rb_tree.specs.Resource.{Resource}
use Rattle.rb_tree.specs.declared.kind.Kind.{Kind}
use Rattle.rb_tree.specs.declared.kind.Kind.TheVariants as kind
use Rattle.rb_json.specs.Value.{key_text, value_of}
use Rattle.rb_json.specs.inner.Listed.{listed}
use Rattle.rb_inherit.specs.Merged.{AreItems, AreMembers, Ascends, Here, Layered}

-- the texts of members, separated by commas
abbrev pub entry_text : List ℕ × Data → List ℕ
entry_text e = quoted (key_text e.0) ++ 58 ∷ compact_text e.1

-- the members of merged tables were written; of any members if their keys don't ascend
pub record WritesMembers (Takes : List ℕ → Type 0) (Is : ℕ → Here → Data → Type 0) (used : ℕ) (ls : List Layered)
    : Type 0 where
  pub members : List (List ℕ × Data)
  pub takes : Takes (listed entry_text members)
  pub are : AllByRecursion Ascends ls → AreMembers Is used ls members

-- the items of an array were written
pub record WritesItems (Takes : List ℕ → Type 0) (Is : ℕ → Here → Data → Type 0) (used most : ℕ) (ts : List Resource)
    : Type 0 where
  pub items : List Data
  pub takes : Takes (listed compact_text items)
  pub are : AreItems Is used most 0 ts items

-- the value of a leaf; another item has any value
abbrev pub IsLeafOf : Kind → Resource → Data → Type 0
IsLeafOf kind.Array t d = Unit {0}
IsLeafOf kind.Table t d = Unit {0}
IsLeafOf kind.Alias t d = Unit {0}
IsLeafOf k t d = d ≡ value_of t
