-- Defines which trees differ only in the order of their tables' entries. That keys are unique is a rule of this project.
use Rattle.std.specs.Prelude.{◌≡◌, ℕ, List, [], ◌∷◌}
use Rattle.std.specs.Map.{keys_of}
use Rattle.rb_tree.specs.Resource.{Resource, array, table, Resources, no_trees}
use Rattle.rb_tree.specs.Resource.{tree_and, Members, no_entries, entry_and}
use Rattle.rb_tree.specs.Table.{IsTableOf, NoRepeat}

-- the second tree is the first with the entries of each table ascending; none of its tables has a key twice
abbrev mutual
  pub Arranges : Resource → Resource → Type 0
  Arranges (array us) t = (ts : Resources) × (t ≡ array ts) × ItemsArrange us ts
  Arranges (table es) t =
      (ps : List (List ℕ × Resource)) × EntriesArrange es ps × NoRepeat (keys_of ps) × IsTableOf ps t
  Arranges leaf t = t ≡ leaf

  pub ItemsArrange : Resources → Resources → Type 0
  ItemsArrange no_trees ts = ts ≡ no_trees
  ItemsArrange (tree_and u us) ts =
      (t : Resource) × (rest : Resources) × (ts ≡ tree_and t rest) × Arranges u t × ItemsArrange us rest

  -- the pairs have the entries' keys, in their order, and the trees with their own entries ascending
  pub EntriesArrange : Members → List (List ℕ × Resource) → Type 0
  EntriesArrange no_entries ps = ps ≡ []
  EntriesArrange (entry_and k u es) ps =
      (t : Resource) × (rest : List (List ℕ × Resource)) × (ps ≡ (k, t) ∷ rest) × Arranges u t × EntriesArrange es rest
