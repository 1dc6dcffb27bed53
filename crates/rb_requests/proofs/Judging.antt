-- The refusals of limits, by which limits are on.
use Rattle.std.proofs.Common.{◌≡◌, ℕ, Bool, true, false, eqb, List, length, None, refl}
use Rattle.rb_packages.specs.Packages.{Files}
use Rattle.rb_engine.specs.declared.handle.Change.{Change}
use Rattle.rb_requests.specs.Limits.{len_at, takes_place, file_refusal}
use Rattle.rb_requests.specs.declared.limits.Limits.{Limits}

-- without limits on stored files no file is refused
pub keeps_nothing : (limits : Limits) (made : Change) (name : List ℕ) (files : Files) (apps : ℕ) (file : List ℕ) → limits.bundle_bytes ≡ None
    → limits.app_bytes ≡ None → limits.apps ≡ None → None ≡ file_refusal limits made name files apps file
keeps_nothing limits made name files apps file b q a =
    by (takes_place made (len_at name files) (length files)) (eqb (length files) 0) refl refl
  where
    by : (t z : Bool) → takes_place made (len_at name files) (length files) ≡ t → eqb (length files) 0 ≡ z → None ≡ file_refusal limits made name files apps file
    by true true e f = rw (e, b, q, a, f) refl
    by true false e f = rw (e, b, q, a, f) refl
    by false z e f = rw e refl
