-- Defines the model of the program's explicit parents: a map from children to parents.
use Rattle.std.specs.Prelude.{ℕ, List, Option}
use Rattle.std.specs.Ordering.{nat_cmp}
use Rattle.std.specs.Cmp.Lexicographic.{slice_cmp}
use Rattle.std.specs.BTreeMap as tree_map
use Rattle.std.specs.BTreeMap.{is_at}
use Rattle.std.specs.Map.{lookup}
use Rattle.rb_parents.specs.declared.parents.Parents.{Parents}

-- the explicit parent of a name
abbrev pub parent_of : Parents → List ℕ → Option (List ℕ)
parent_of p n = tree_map.get (slice_cmp nat_cmp) p.by_child n

-- the pairs of child and parent, in the order of the children, and the parent that they give a name
abbrev pub family_pairs : Parents → List (List ℕ × List ℕ)
family_pairs p = p.by_child.entries

abbrev pub parent_in : List (List ℕ × List ℕ) → List ℕ → Option (List ℕ)
parent_in pairs n = lookup (is_at (slice_cmp nat_cmp n)) pairs
