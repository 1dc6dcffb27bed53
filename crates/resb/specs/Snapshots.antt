-- Defines an engine with the bundles of another one, a rule of this project.
use Rattle.std.specs.Prelude.{◌≡◌}
use Rattle.rb_engine.specs.Kept.{Kept}

-- both have the same bundles, and the same explicit parents
pub record IsSnapshot (of engine : Kept) : Type 0 where
  pub packages : engine.packages ≡ of.packages
  pub parents : engine.parents ≡ of.parents
