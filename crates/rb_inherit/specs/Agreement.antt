-- Defines how a tree with inheritance agrees with lookups, ICU's `ures_getByKeyWithFallback` along the trail of UTS #35
-- (LDML): each value in it is what a lookup of its path finds, and it has each leaf that a lookup finds, unless a stop
-- hides it. The first is of paths on which no stop has an alias, except one at the end whose text can't be read; the
-- second is of paths on which no stop has any.
use Rattle.std.specs.Prelude.{◌≡◌, ◌<◌, ℕ, List, [], ◌∷◌, ◌++◌, length, Option, Some, None, option_and_then, Result}
use Rattle.std.specs.Prelude.{Ok, Err}
use Rattle.std.specs.Cmp.Lexicographic.{slice_cmp}
use Rattle.std.specs.List.{AllByRecursion}
use Rattle.std.specs.List.Sorted.{IsStrictlySortedBy}
use Rattle.std.specs.Map.{keys_of}
use Rattle.std.specs.Ordering.{nat_cmp}
use Rattle.serde_json.specs.Data.{Data, null, boolean, number, string, array, object, Items, Members}
use Rattle.serde_json.specs.Find.{get_item, get_member}
use Rattle.rb_tree.specs.Limits.{height_limit}
use Rattle.rb_tree.specs.Parts.{children_of, kind_of, pairs_of}
use Rattle.rb_tree.specs.Path.{index_of, segments}
use Rattle.rb_tree.specs.Resource.{Resource, alias}
use Rattle.rb_tree.specs.Walk.{Walked, ends, links, gone}
use Rattle.rb_tree.specs.declared.kind.Kind.{Kind}
use Rattle.rb_tree.specs.declared.kind.Kind.TheVariants as kind
use Rattle.rb_json.specs.Value.{key_text, value_of}
use Rattle.rb_parents.specs.Trail.{Bundles, ParentsOf, names, stops, trail}
use Rattle.rb_fallback.specs.Search.{Hit, look_up, walk_of}
use Rattle.rb_fallback.specs.Words.{look_word}
use Rattle.rb_fallback.specs.declared.fault.LookError.{LookError}
use Rattle.rb_inherit.specs.Leaves.{IsLeaf}
use Rattle.rb_inherit.specs.Merged.{IsTreeAt, alias_fault, error_data}

-- ---- the value at a path
-- a member by its key, or an item by its index, as JSON pointers have them (RFC 6901)
abbrev pub child_data : List ℕ → Data → Option Data
child_data k null = None
child_data k (boolean b) = None
child_data k (number n) = None
child_data k (string s) = None
child_data k (array ds) = option_and_then (λ i. get_item i ds) (index_of k)
child_data k (object ms) = get_member (key_text k) ms

abbrev pub data_at : List (List ℕ) → Data → Option Data
data_at [] d = Some d
data_at (k ∷ ks) d = option_and_then (λ c. data_at ks c) (child_data k d)

-- ---- the bundles
-- keys ascend, and the number of children fits 64 bits, as in each bundle (`uresdata.h`)
pub record IsSorted (t : Resource) : Type 0 where
  pub ascend : IsStrictlySortedBy (slice_cmp nat_cmp) (keys_of (pairs_of t))
  pub few : length (children_of t) < 18446744073709551616

-- so does each item that a walk finds
abbrev pub AreSorted : Bundles → Type 0
AreSorted bundles =
    (m : List ℕ) (ss : List (List ℕ)) (t : Resource) → walk_of (bundles m) ss ≡ ends t → IsSorted t

-- a walk that doesn't end at an alias
abbrev pub IsNoLink : Walked → Type 0
IsNoLink (ends t) = Unit {0}
IsNoLink (links us walked rest) = ⊥
IsNoLink gone = Unit {0}

-- a walk that ends at no alias, or at the end of its path at one whose text can't be read
abbrev pub IsDirect : Walked → Type 0
IsDirect (ends t) = Unit {0}
IsDirect (links us walked []) = (e : LookError) × (alias_fault (alias us) ≡ Some e)
IsDirect (links us walked (s ∷ rest)) = ⊥
IsDirect gone = Unit {0}

-- no stop of a name has an alias on a path, except one at its end whose text can't be read
abbrev pub HaveDirectWalks : Bundles → ParentsOf → List ℕ → List (List ℕ) → Type 0
HaveDirectWalks bundles parents n ss =
    (ns : List (List ℕ)) → trail bundles parents n ≡ names ns
    → AllByRecursion (λ m. IsDirect (walk_of (bundles m) ss)) (stops bundles ns)

-- no stop of a name has an alias on a path
abbrev pub HaveNoAlias : Bundles → ParentsOf → List ℕ → List (List ℕ) → Type 0
HaveNoAlias bundles parents n ss =
    (ns : List (List ℕ)) → trail bundles parents n ≡ names ns
    → AllByRecursion (λ m. IsNoLink (walk_of (bundles m) ss)) (stops bundles ns)

-- ---- what the tree has is found
-- the value of an item: a leaf as JSON, or an object or an array
abbrev pub Shows : Kind → Resource → Data → Type 0
Shows kind.Table t d = (ms : Members) × (d ≡ object ms)
Shows kind.Array t d = (ds : Items) × (d ≡ array ds)
Shows kind.Alias t d = ⊥
Shows k t d = d ≡ value_of t

-- the value of what a lookup answers: of the item that it finds, or its error
abbrev pub Tells : Result Hit LookError → Data → Type 0
Tells (Ok hit) d = Shows (kind_of hit.tree) hit.tree d
Tells (Err e) d = d ≡ error_data (look_word e)

-- each value of a tree is that of what a lookup of its path answers
abbrev pub IsAllFound : Type 0
IsAllFound =
    (own icu : Bundles) (parents : ParentsOf) (n path : List ℕ) (hit : Hit) (d : Data) → AreSorted own
    → look_up own icu parents n (segments path) ≡ Ok hit → IsTreeAt own parents n path d
    → (ks : List (List ℕ)) (e : Data) → length ks < height_limit → HaveDirectWalks own parents n (segments path ++ ks)
    → data_at ks d ≡ Some e → Tells (look_up own icu parents n (segments path ++ ks)) e

-- ---- what is found is in the tree
-- what a stop has at a place isn't hidden by the stops before it: those have tables there, or nothing; and nothing if
-- it has something other than a table itself, which ends the merging
pub record IsSeen (bundles : Bundles) (before : List (List ℕ)) (stop : List ℕ) (ss : List (List ℕ)) : Type 0 where
  pub tables : AllByRecursion (λ m. (t : Resource) → walk_of (bundles m) ss ≡ ends t → kind_of t ≡ kind.Table) before
  pub alone : (t : Resource) → walk_of (bundles stop) ss ≡ ends t → (kind_of t ≡ kind.Table → ⊥)
      → AllByRecursion (λ m. walk_of (bundles m) ss ≡ gone) before

-- so it is on each place of a path before its end
abbrev pub IsSeenOn : Bundles → List (List ℕ) → List ℕ → List (List ℕ) → List (List ℕ) → Type 0
IsSeenOn bundles before stop ss [] = Unit {0}
IsSeenOn bundles before stop ss (k ∷ ks) =
    IsSeen bundles before stop ss × IsSeenOn bundles before stop (ss ++ k ∷ []) ks

-- the first stop that has something at a path isn't hidden on the way from one place on
pub record IsInSight (bundles : Bundles) (parents : ParentsOf) (n : List ℕ) (ss ks : List (List ℕ)) : Type 0 where
  pub ns : List (List ℕ)
  pub trail : trail bundles parents n ≡ names ns
  pub before : List (List ℕ)
  pub stop : List ℕ
  pub after : List (List ℕ)
  pub split : stops bundles ns ≡ before ++ stop ∷ after
  pub none : AllByRecursion (λ m. walk_of (bundles m) (ss ++ ks) ≡ gone) before
  pub some : walk_of (bundles stop) (ss ++ ks) ≡ gone → ⊥
  pub seen : IsSeenOn bundles before stop ss ks

-- each leaf that a lookup finds is in the tree at its path, unless it is hidden
abbrev pub IsAllShown : Type 0
IsAllShown =
    (own icu : Bundles) (parents : ParentsOf) (n path : List ℕ) (hit : Hit) (d : Data) → AreSorted own
    → look_up own icu parents n (segments path) ≡ Ok hit → IsTreeAt own parents n path d
    → (ks : List (List ℕ)) (leaf : Hit) → length ks < height_limit → HaveNoAlias own parents n (segments path ++ ks)
    → IsInSight own parents n (segments path) ks → look_up own icu parents n (segments path ++ ks) ≡ Ok leaf
    → IsLeaf (kind_of leaf.tree) → data_at ks d ≡ Some (value_of leaf.tree)

-- ---- one tree
-- no walk in a bundle ends at an alias
abbrev pub HasNoAliases : Bundles → Type 0
HasNoAliases bundles = (m : List ℕ) (ss : List (List ℕ)) → IsNoLink (walk_of (bundles m) ss)

-- bundles without aliases have one tree at a path
abbrev pub IsOneTree : Type 0
IsOneTree =
    (bundles : Bundles) (parents : ParentsOf) (n path : List ℕ) (d e : Data) → AreSorted bundles
    → HasNoAliases bundles → IsTreeAt bundles parents n path d → IsTreeAt bundles parents n path e → d ≡ e
