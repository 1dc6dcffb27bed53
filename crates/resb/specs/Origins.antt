-- Defines where an item was found, in C, a rule of this project.
use Rattle.std.specs.Prelude.{◌≡◌, ℕ, List, Some, length, take, slice_get}
use Rattle.rb_engine.specs.Answer.{Response, Finds}

-- a field begins with a name and a zero byte after it
pub record IsNameIn (field name : List ℕ) : Type 0 where
  pub bytes : take (length name) field ≡ name
  pub zero : slice_get field (length name) ≡ Some 0

-- the name of the bundle with the item that is found, and that of the first bundle on the locale's trail
abbrev pub ComesFrom : Response → List ℕ → List ℕ → Type 0
ComesFrom (Finds hit first) actual valid = IsNameIn actual hit.actual × IsNameIn valid first
ComesFrom response actual valid = Unit {0}
