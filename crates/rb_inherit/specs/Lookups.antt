-- Defines what the tree of a path has from a lookup of it, ICU's `ures_getByKeyWithFallback` along the trail of UTS #35
-- (LDML): its error, its names, and all of it if the item has no children. Any other tree is that of `Merged`.
use Rattle.std.specs.Prelude.{◌≡◌, ◌↔◌, ℕ, List, Result, Ok, Err, IfOk}
use Rattle.serde_json.specs.Written.{compact_text}
use Rattle.rb_tree.specs.Path.{IsPath, segments}
use Rattle.rb_tree.specs.Parts.{kind_of}
use Rattle.rb_json.specs.Value.{value_of}
use Rattle.rb_parents.specs.Trail.{Bundles, ParentsOf}
use Rattle.rb_fallback.specs.Search.{Hit, look_up}
use Rattle.rb_fallback.specs.declared.fault.LookError.{LookError}
use Rattle.rb_fallback.specs.declared.fault.LookError.TheVariants as look
use Rattle.rb_inherit.specs.Leaves.{IsLeaf}
use Rattle.rb_inherit.specs.Merged.{IsTreeAt, Writes}
use Rattle.rb_inherit.specs.declared.error.TreeError.{TreeError}
use Rattle.rb_inherit.specs.declared.error.TreeError.TheVariants as tree

-- what a lookup answers: `BadPath`, or what the search does
pub record IsLookup (own icu : Bundles) (parents : ParentsOf) (n path : List ℕ) (answer : Result Hit LookError)
    : Type 0 where
  pub bad_path : (answer ≡ Err look.BadPath) ↔ (IsPath path → ⊥)
  pub search : IsPath path → answer ≡ look_up own icu parents n (segments path)

-- the lookup's error is the result; if the lookup finds an item, the result is no such error, and a tree that it has is
-- one of the item
abbrev pub Follows : {A : Type 0} → (A → Hit → Type 0) → Result A TreeError → Result Hit LookError → Type 0
Follows IsOf result (Err e) = result ≡ Err (tree.Look e)
Follows IsOf result (Ok hit) = IfOk result (λ x. IsOf x hit) × ((e : LookError) → result ≡ Err (tree.Look e) → ⊥)

-- the tree of an item without children is the item as JSON; any other is that of what the stops have at the path
pub record IsTreeOf (bundles : Bundles) (parents : ParentsOf) (n path : List ℕ) (IsText : List ℕ → Type 0) (hit : Hit)
    : Type 0 where
  pub leaf : IsLeaf (kind_of hit.tree) → IsText (compact_text (value_of hit.tree))
  pub other : (IsLeaf (kind_of hit.tree) → ⊥) → Writes IsText (IsTreeAt bundles parents n path)

-- the result follows the lookup of a path
abbrev pub FollowsLookup : {A : Type 0} → Bundles → Bundles → ParentsOf → List ℕ → List ℕ
    → (A → Hit → Type 0) → Result A TreeError → Type 0
FollowsLookup own icu parents n path IsOf result =
    (answer : Result Hit LookError) × (IsLookup own icu parents n path answer × Follows IsOf result answer)
