-- Defines the model of the bundles of the program's shelves.
use Rattle.std.specs.Prelude.{ℕ, List, Bool, map}
use Rattle.rb_tree.specs.Resource.{Resource}
use Rattle.rb_tree.specs.SourceTree.{SourceTree}
use Rattle.rb_tree.specs.View.{view_of}
use Rattle.rb_tree.specs.declared.tree.Tree.{Tree}

-- the tree of a bundle's root, by `tree`, with its flag
abbrev pub bundle_of : {N : Type 0} → (N → Resource) → N × Bool → SourceTree
bundle_of tree b = record { tree = tree b.0; no_fallback = b.1 }

-- the bundles of a list with their names, in order
abbrev pub listed_bundles : List (List ℕ × Tree × Bool) → List (List ℕ × SourceTree)
listed_bundles bs = map (λ b. (b.0, record { tree = view_of b.1; no_fallback = b.2 })) bs
