-- Defines an engine without bundles, a rule of this project.
use Rattle.std.specs.Prelude.{◌≡◌, ℕ, List, [], None}
use Rattle.rb_engine.specs.Kept.{Kept, state_of}

pub record IsEmpty (engine : Kept) : Type 0 where
  pub icudata : (state_of engine).start.icudata ≡ []
  pub parents : (name : List ℕ) → (state_of engine).start.parents name ≡ None
  pub lists : (app : List ℕ) → (state_of engine).lists app ≡ []
