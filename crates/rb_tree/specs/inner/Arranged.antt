-- Defines pairs sorted by their keys. Only private contracts and proofs use this page.
use Rattle.std.specs.Prelude.{◌≡◌, ◌<◌, ℕ, suc, List, [], length, get_or, map}
use Rattle.std.specs.Cmp.Lexicographic.{slice_cmp}
use Rattle.std.specs.Ordering.{nat_cmp}
use Rattle.std.specs.declared.cmp.Ordering.TheVariants.{Less}
use Rattle.rb_tree.specs.declared.tree.Tree.{Tree}
use Rattle.rb_tree.specs.declared.tree.Entry.{Entry}
use Rattle.rb_tree.specs.declared.arrange.Numbered.{Numbered}

-- each key with its index
pub record AreNumbered (ks : List (List ℕ)) (ns : List Numbered) : Type 0 where
  pub same_length : length ns ≡ length ks
  pub each : (i : ℕ) (d : Numbered) → i < length ns → ((get_or ns i d).key.now ≡ get_or ks i []) × ((get_or ns i d).index ≡ i)

-- each key is below the next
abbrev pub Rise : List Numbered → Type 0
Rise ns = (k : ℕ) (d : Numbered) → suc k < length ns → slice_cmp nat_cmp (get_or ns k d).key.now (get_or ns (suc k) d).key.now ≡ Less

-- all indices, in the order in which the keys ascend strictly
pub record IsOrder (ks : List (List ℕ)) (order : List ℕ) : Type 0 where
  pub same_length : length order ≡ length ks
  pub within : (k : ℕ) → k < length order → get_or order k 0 < length ks
  pub onto : (i : ℕ) → i < length ks → (k : ℕ) × (k < length order) × (get_or order k 0 ≡ i)
  pub rise : (k : ℕ) → suc k < length order → slice_cmp nat_cmp (get_or ks (get_or order k 0) []) (get_or ks (get_or order (suc k) 0) []) ≡ Less

abbrev pub pair_of : Entry → List ℕ × Tree
pair_of e = (e.key, e.tree)

-- the pairs at these indices, as entries
pub record AreArranged (ps : List (List ℕ × Tree)) (order : List ℕ) (es : List Entry) : Type 0 where
  pub same_length : length es ≡ length order
  pub each : (k : ℕ) (d : List ℕ × Tree) → k < length order → get_or (map pair_of es) k d ≡ get_or ps (get_or order k 0) d
