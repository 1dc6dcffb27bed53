-- Steps of a reading: what a step that did not fail gave.
use Rattle.std.proofs.Common.{◌≡◌, Bool, true, false, cond, Result, Ok, Err, Option, Some, None, refl, ap}
use Rattle.rb_format.specs.declared.fault.FileFault.{FileFault}
use Rattle.rb_format.specs.inner.FirstFault.{◌>>=◌, result_map, fault_of}

pub bind_ok : {A B : Type 0} (r : Result A FileFault) (f : A → Result B FileFault) (y : B) → (r >>= f) ≡ Ok y → (x : A) × (r ≡ Ok x) × (f x ≡ Ok y)
bind_ok (Ok x) f y e = (x, refl, e)
bind_ok (Err d) f y e = absurd cc

pub map_ok : {A B : Type 0} (f : A → B) (r : Result A FileFault) (y : B) → result_map f r ≡ Ok y → (x : A) × (r ≡ Ok x) × (f x ≡ y)
map_ok f (Ok x) y e = (x, refl, cc)
map_ok f (Err d) y e = absurd cc

-- a choice keeps what both of its sides keep
pub follow : {A B : Type 0} (b : Bool) (x y r : A) (x' y' r' : B) → (x ≡ r → x' ≡ r') → (y ≡ r → y' ≡ r') → cond b x y ≡ r → cond b x' y' ≡ r'
follow true x y r x' y' r' p q e = p e
follow false x y r x' y' r' p q e = q e

-- a choice with a fault on one side
pub guarded : {A B : Type 0} (b : Bool) (d : FileFault) (x : A) (y : Result A FileFault) (y' r' : Result B FileFault) → (y ≡ Ok x → y' ≡ r')
    → cond b (Err d) y ≡ Ok x → cond b (Err d) y' ≡ r'
guarded true d x y y' r' q e = absurd cc
guarded false d x y y' r' q e = q e

pub ok_is : {A : Type 0} (x y : A) → ◌≡◌ {A = Result A FileFault} (Ok x) (Ok y) → x ≡ y
ok_is x y e = cc

pub then_ok : {A B : Type 0} (r : Result A FileFault) (x : A) (f : A → Result B FileFault) → r ≡ Ok x → (r >>= f) ≡ f x
then_ok (Ok z) x f e = ap f (ok_is z x e)
then_ok (Err d) x f e = absurd cc

-- ---- faults alone

pub fault_then : {A B : Type 0} (r : Result A FileFault) (f : A → Result B FileFault) (m : Option FileFault) → fault_of r ≡ None
    → ((x : A) → r ≡ Ok x → fault_of (f x) ≡ m) → fault_of (r >>= f) ≡ m
fault_then (Ok x) f m e g = g x refl
fault_then (Err d) f m e g = absurd cc

pub fault_first : {A B : Type 0} (r : Result A FileFault) (f : A → Result B FileFault) (d : FileFault) → fault_of r ≡ Some d → fault_of (r >>= f) ≡ Some d
fault_first (Ok x) f d e = absurd cc
fault_first (Err c) f d e = e

pub fault_map : {A B : Type 0} (f : A → B) (r : Result A FileFault) → fault_of (result_map f r) ≡ fault_of r
fault_map f (Ok x) = refl
fault_map f (Err d) = refl

-- a test that did not refuse
pub guard : {A : Type 0} (b : Bool) (d : FileFault) (r : Result A FileFault) (x : A) → cond b (Err d) r ≡ Ok x → (b ≡ false) × (r ≡ Ok x)
guard true d r x e = absurd cc
guard false d r x e = (refl, e)

pub guard_else : {A : Type 0} (b : Bool) (d : FileFault) (r : Result A FileFault) (x : A) → cond b r (Err d) ≡ Ok x → (b ≡ true) × (r ≡ Ok x)
guard_else true d r x e = (refl, e)
guard_else false d r x e = absurd cc
