-- For private contracts and proofs only: the versions in which the groups of applications changed last.
use Rattle.std.specs.Prelude.{◌≡◌, ◌<◌, ◌≤◌, ◌+◌, ◌*◌, ◌%◌, ◌^◌, ℕ, List, fold, get_or, length, set}
use Rattle.rb_packages.specs.Packages.{OthersStay, Stored}
use Rattle.rb_engine.specs.Version.{last_version, next_version}
use Rattle.rb_engine.specs.declared.versions.Versions.{Versions}

abbrev pub group_of : List ℕ → ℕ
group_of app = fold (λ group byte. (group * 31 % 2 ^ 8 + byte) % 2 ^ 8) 0 app

abbrev pub version_in : List ℕ → List ℕ → ℕ
version_in versions app = get_or versions (group_of app) 0

-- there is a version for each group, and only the last one of all may be later than the latest
pub record AreUpTo (versions : List ℕ) (latest : ℕ) : Type 0 where
  pub all : length versions ≡ 256
  pub past : (group : ℕ) → get_or versions group 0 < last_version → get_or versions group 0 ≤ latest

-- one application has changed, in a new version
pub record HasChanged (old new : Stored) (before after : Versions) : Type 0 where
  pub app : List ℕ
  pub others : OthersStay app old new
  pub latest : after.latest ≡ next_version before.latest
  pub groups : after.groups ≡ set before.groups (group_of app) after.latest
