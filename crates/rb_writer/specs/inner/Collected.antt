-- Defines the gathering of a tree's keys, for private contracts and proofs only.
use Rattle.rb_writer.specs.KeyList.{all_keys}
use Rattle.std.specs.Prelude.{◌≡◌, ◌⊎◌, ◌≤◌, ℕ, ◌+◌, List, [], ◌∷◌, length, map, All, Contains}
use Rattle.std.proofs.Common.{Bor}
use Rattle.rb_tree.specs.Keys.{IsKey}
use Rattle.rb_tree.specs.Resource.{Resource}
use Rattle.rb_writer.specs.inner.Most.{keys_most}
use Rattle.rb_writer.specs.inner.Places.{EachKey}

-- the size of keys in bytes, each with its NUL
abbrev pub keys_size : List (List ℕ) → ℕ
keys_size [] = 0
keys_size (k ∷ ks) = 1 + length k + keys_size ks

-- the size of borrowed keys
abbrev pub size_of : List (Bor (List ℕ)) → ℕ
size_of keys = keys_size (map (λ r. r.now) keys)

-- the keys of pairs with numbers
abbrev pub names : List (Bor (List ℕ) × ℕ) → List (Bor (List ℕ))
names pairs = map (λ p. p.0) pairs

-- a list has this key
abbrev pub Has : List (Bor (List ℕ)) → List ℕ → Type 0
Has keys k = (r : Bor (List ℕ)) × Contains keys r × (r.now ≡ k)

-- a key was added, unless the list had it
pub record Gains (k : List ℕ) (old new : List (Bor (List ℕ))) : Type 0 where
  pub here : Has new k
  pub stay : (q : List ℕ) → Has old q → Has new q
  pub little : size_of new ≤ size_of old + (1 + length k)
  pub is_key : IsKey k → All (λ r. IsKey r.now) old → All (λ r. IsKey r.now) new
  pub only : (q : List ℕ) → Has new q → Has old q ⊎ (q ≡ k)

-- the keys of a tree were added, unless the list had them
pub record Gathers (t : Resource) (old new : List (Bor (List ℕ))) : Type 0 where
  pub covered : EachKey (λ k. Has new k) t
  pub stay : (q : List ℕ) → Has old q → Has new q
  pub little : size_of new ≤ size_of old + keys_most t
  pub is_key : All (λ r. IsKey r.now) old → All (λ r. IsKey r.now) new
  pub only : (q : List ℕ) → Has new q → Has old q ⊎ Contains (all_keys t) q

-- the borrowed keys are those of the tree, in any order, and no larger in total than all of its keys
pub record GathersKeys (t : Resource) (keys : List (Bor (List ℕ))) : Type 0 where
  pub covered : EachKey (λ k. Has keys k) t
  pub little : size_of keys ≤ keys_most t
  pub is_key : All (λ r. IsKey r.now) keys
  pub only : (q : List ℕ) → Has keys q → Contains (all_keys t) q
