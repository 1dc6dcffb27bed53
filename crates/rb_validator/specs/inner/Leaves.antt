-- Defines the items that are known to be leaves without a fault, for proofs only.
use Rattle.std.specs.Prelude.{◌≡◌, ℕ, ◌+◌, ◌*◌, ◌≤◌, ◌<◌, List, Ok, slice_index}
use Rattle.rb_format.specs.declared.layout.Layout.{Layout}
use Rattle.rb_format.specs.Place.{word_at}
use Rattle.rb_format.specs.inner.FirstFault.{read, result_map}
use Rattle.rb_tree.specs.Resource.{height}
use Rattle.rb_validator.specs.inner.Marks.{IsKnown}

-- the item denotes a tree of height 1, whatever was entered
pub record IsLeaf (y : Layout) (body : List ℕ) (item : ℕ) : Type 0 where
  pub value : (left : ℕ) → 0 < left → result_map height (read y body left item) ≡ Ok 1
  pub known : (cells : List ℕ) → IsKnown cells item

-- from each unit of 32 words on, this many units consist of leaves
abbrev pub AreLeaves : Layout → List ℕ → List ℕ → Type 0
AreLeaves y body leaves = (u w : ℕ) → 32 * u ≤ w → w < 32 * (u + slice_index leaves u) → IsLeaf y body (word_at body w)
