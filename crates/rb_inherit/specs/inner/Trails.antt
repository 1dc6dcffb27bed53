-- Defines, for private contracts, that the roots of the stops of a name's trail are known (locale inheritance of UTS
-- #35).
use Rattle.std.specs.Prelude.{◌≡◌, ℕ, List, [], ◌∷◌, map, Bool, true, Option, Some, None, option_map, Result, Ok, Err}
use Rattle.rb_tree.specs.Resource.{Resource}
use Rattle.rb_parents.specs.Trail.{Bundles, ParentsOf, Trail, names, chain, bad_parent, stops, trail}
use Rattle.rb_parents.specs.declared.fault.TrailFault.{TrailFault}
use Rattle.rb_parents.specs.declared.fault.TrailFault.TheVariants as fault
use Rattle.rb_inherit.specs.declared.stops.LastTrail.{LastTrail}

-- the tree of a name's bundle
abbrev pub tree_in : Bundles → List ℕ → Option Resource
tree_in bundles n = option_map (λ b. b.tree) (bundles n)

abbrev pub and_tree : Option Resource → List Resource → List Resource
and_tree None ts = ts
and_tree (Some t) ts = t ∷ ts

-- the trees of the bundles of some names, in their order
abbrev pub trees_in : Bundles → List (List ℕ) → List Resource
trees_in bundles [] = []
trees_in bundles (n ∷ ns) = and_tree (tree_in bundles n) (trees_in bundles ns)

-- a name has a trail, and these are the roots of its stops
pub record AreStops {N : Type 0} (tree : N → Resource) (bundles : Bundles) (parents : ParentsOf) (n : List ℕ)
    (roots : List N) : Type 0 where
  pub ns : List (List ℕ)
  pub trail : trail bundles parents n ≡ names ns
  pub trees : map tree roots ≡ trees_in bundles (stops bundles ns)

-- a trail that is kept is that of its name
abbrev pub IsKept : {N : Type 0} → (N → Resource) → (Bool → Bundles) → ParentsOf → LastTrail N → Type 0
IsKept tree bundles parents t =
    t.is_known ≡ true → AreStops tree (bundles t.icudata) parents t.name t.roots.items

abbrev pub refused : TrailFault → Trail
refused fault.Chain = chain
refused fault.BadParent = bad_parent

-- the stops of a name were found, or its trail's error
abbrev pub IsTrailOf : {N : Type 0} → (N → Resource) → Bundles → ParentsOf → List ℕ → List N
    → Result (Unit {0}) TrailFault → Type 0
IsTrailOf tree bundles parents n roots (Ok u) = AreStops tree bundles parents n roots
IsTrailOf tree bundles parents n roots (Err f) = trail bundles parents n ≡ refused f
