-- Defines, for private contracts, paths of segments with a zero byte between them, and where a walk along one ends: as
-- that of rb_tree does (ICU's `ures_getByKeyWithFallback` in one bundle).
use Rattle.std.specs.Prelude.{◌≡◌, ◌<◌, ◌-◌, ◌==◌, ◌++◌, ℕ, List, [], ◌∷◌, length, drop, All, Bool, if◌then◌else◌}
use Rattle.std.specs.List.{slice_split}
use Rattle.rb_tree.specs.Resource.{Resource, alias}
use Rattle.rb_tree.specs.Parts.{kind_of}
use Rattle.rb_tree.specs.declared.kind.Kind.TheVariants as kind
use Rattle.rb_tree.specs.Walk as walks
use Rattle.rb_inherit.specs.declared.path.Walked.{Walked}
use Rattle.rb_inherit.specs.declared.path.Walked.TheVariants.{End, Link, Gone}

abbrev pub is_separator : ℕ → Bool
is_separator b = b == 0

-- the byte of such a path for one of a path with slashes
abbrev pub separated : ℕ → ℕ
separated b = if b == 47 then 0 else b

-- the parts between zero bytes; the empty path has none
abbrev pub steps_of : List ℕ → List (List ℕ)
steps_of [] = []
steps_of (b ∷ bs) = slice_split is_separator (b ∷ bs)

abbrev pub AreFilled : List (List ℕ) → Type 0
AreFilled ss = All (λ s. 0 < length s) ss

-- a walk along a path ended at an alias, beyond which its last bytes lead
pub record IsLink (t : Resource) (path : List ℕ) (left : ℕ) (w : walks.Walked) : Type 0 where
  pub units : List ℕ
  pub walked : List (List ℕ)
  pub rest : List (List ℕ)
  pub is : w ≡ walks.links units walked rest
  pub tree : t ≡ alias units
  pub whole : walked ++ rest ≡ steps_of path
  pub beyond : rest ≡ steps_of (drop (length path - left) path)

-- the end of a walk, in the program's type
abbrev pub EndsAt : {N : Type 0} → (N → Resource) → List ℕ → Walked N → walks.Walked → Type 0
EndsAt tree path (End n) w = w ≡ walks.ends (tree n)
EndsAt tree path (Link n left) w = IsLink (tree n) path left w
EndsAt tree path Gone w = w ≡ walks.gone

-- a walk ends at no alias without saying so
abbrev pub IsEnd : {N : Type 0} → (N → Resource) → Walked N → Type 0
IsEnd tree (End n) = kind_of (tree n) ≡ kind.Alias → ⊥
IsEnd tree (Link n left) = kind_of (tree n) ≡ kind.Alias
IsEnd tree Gone = Unit {0}
