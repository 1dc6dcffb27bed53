-- For proofs only: encodes trees as trees of numbers, so that a proof can tell two trees apart.
use Rattle.std.specs.Prelude.{◌≡◌, ◌==◌, ℕ, ℤ, pos, negsuc, List, [], ◌∷◌, cond, refl}
use Rattle.std.specs.Coded.{Coded, code_by}
use mathlib.Core.Path.{ap}
use base.Stored.{Gv, gnil, gnum, gcons, num}
use denote.Struct.Codes.{itself}
use Rattle.rb_tree.specs.Resource.{Resource, string, int, ints, binary, alias, array, table, Resources, no_trees}
use Rattle.rb_tree.specs.Resource.{tree_and, Members, no_entries, entry_and}

abbrev pub numbers_code : List ℕ → Gv
numbers_code [] = gnil
numbers_code (x ∷ xs) = gcons (gnum x) (numbers_code xs)

abbrev pub numbers_back : Gv → List ℕ
numbers_back gnil = []
numbers_back (gnum n) = []
numbers_back (gcons a b) = num a ∷ numbers_back b

pub numbers_back_code : (xs : List ℕ) → numbers_back (numbers_code xs) ≡ xs
numbers_back_code [] = refl
numbers_back_code (x ∷ xs) = ap (λ ys. x ∷ ys) (numbers_back_code xs)

abbrev pub signed_code : ℤ → Gv
signed_code (pos n) = gcons gnil (gnum n)
signed_code (negsuc n) = gnum n

abbrev pub signed_back : Gv → ℤ
signed_back gnil = pos 0
signed_back (gnum n) = negsuc n
signed_back (gcons a b) = pos (num b)

pub signed_back_code : (z : ℤ) → signed_back (signed_code z) ≡ z
signed_back_code (pos n) = refl
signed_back_code (negsuc n) = refl

abbrev pub signeds_code : List ℤ → Gv
signeds_code [] = gnil
signeds_code (x ∷ xs) = gcons (signed_code x) (signeds_code xs)

abbrev pub signeds_back : Gv → List ℤ
signeds_back gnil = []
signeds_back (gnum n) = []
signeds_back (gcons a b) = signed_back a ∷ signeds_back b

pub signeds_back_code : (xs : List ℤ) → signeds_back (signeds_code xs) ≡ xs
signeds_back_code [] = refl
signeds_back_code (x ∷ xs) = λ i. signed_back_code x i ∷ signeds_back_code xs i

abbrev mutual
  pub tree_code : Resource → Gv
  tree_code (string us) = gcons (gnum 0) (numbers_code us)
  tree_code (int n) = gcons (gnum 1) (gnum n)
  tree_code (ints zs) = gcons (gnum 2) (signeds_code zs)
  tree_code (binary bs) = gcons (gnum 3) (numbers_code bs)
  tree_code (alias us) = gcons (gnum 4) (numbers_code us)
  tree_code (array ts) = gcons (gnum 5) (trees_code ts)
  tree_code (table es) = gcons (gnum 6) (entries_code es)

  pub trees_code : Resources → Gv
  trees_code no_trees = gnil
  trees_code (tree_and t ts) = gcons (tree_code t) (trees_code ts)

  pub entries_code : Members → Gv
  entries_code no_entries = gnil
  entries_code (entry_and k t es) = gcons (gcons (numbers_code k) (tree_code t)) (entries_code es)

abbrev mutual
  pub tree_back : Gv → Resource
  tree_back gnil = int 0
  tree_back (gnum n) = int 0
  tree_back (gcons a b) =
      cond (num a == 0) (string (numbers_back b))
      (cond (num a == 1) (int (num b))
      (cond (num a == 2) (ints (signeds_back b))
      (cond (num a == 3) (binary (numbers_back b))
      (cond (num a == 4) (alias (numbers_back b))
      (cond (num a == 5) (array (trees_back b))
      (table (entries_back b)))))))

  pub trees_back : Gv → Resources
  trees_back gnil = no_trees
  trees_back (gnum n) = no_trees
  trees_back (gcons a b) = tree_and (tree_back a) (trees_back b)

  pub entries_back : Gv → Members
  entries_back gnil = no_entries
  entries_back (gnum n) = no_entries
  entries_back (gcons gnil b) = no_entries
  entries_back (gcons (gnum n) b) = no_entries
  entries_back (gcons (gcons k t) b) = entry_and (numbers_back k) (tree_back t) (entries_back b)

mutual
  pub tree_back_code : (t : Resource) → tree_back (tree_code t) ≡ t
  tree_back_code (string us) = ap string (numbers_back_code us)
  tree_back_code (int n) = refl
  tree_back_code (ints zs) = ap ints (signeds_back_code zs)
  tree_back_code (binary bs) = ap binary (numbers_back_code bs)
  tree_back_code (alias us) = ap alias (numbers_back_code us)
  tree_back_code (array ts) = ap array (trees_back_code ts)
  tree_back_code (table es) = ap table (entries_back_code es)

  pub trees_back_code : (ts : Resources) → trees_back (trees_code ts) ≡ ts
  trees_back_code no_trees = refl
  trees_back_code (tree_and t ts) = λ i. tree_and (tree_back_code t i) (trees_back_code ts i)

  pub entries_back_code : (es : Members) → entries_back (entries_code es) ≡ es
  entries_back_code no_entries = refl
  entries_back_code (entry_and k t es) = λ i. entry_and (numbers_back_code k i) (tree_back_code t i)
      (entries_back_code es i)

abbrev pub tree_coded : Coded Resource
tree_coded = code_by Gv itself tree_code tree_back tree_back_code

abbrev pub trees_coded : Coded Resources
trees_coded = code_by Gv itself trees_code trees_back trees_back_code

abbrev pub entries_coded : Coded Members
entries_coded = code_by Gv itself entries_code entries_back entries_back_code
