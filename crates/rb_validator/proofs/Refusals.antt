-- Answers that `Memory` may replace.
use Rattle.std.proofs.Common.{◌≡◌, ◌∙◌, Ok, Err, Option, Some, None, inl, inr}
use Rattle.std.specs.Prelude.{◌⊎◌, Result}
use Rattle.rb_format.specs.declared.fault.FileFault.{FileFault}
use Rattle.rb_format.specs.declared.fault.FileFault.TheVariants.{Memory}

-- a value is no refusal
pub told : {A : Type 0} (x : A) (v : Result A FileFault) → (Ok x ≡ Err Memory) ⊎ (Ok x ≡ v) → Ok x ≡ v
told x v (inl z) = absurd cc
told x v (inr e) = e

-- a fault is passed on, and so is a refusal
pub passed : {A B : Type 0} (d : FileFault) (v : Result A FileFault) (w : Result B FileFault) → (Err d ≡ v → Err d ≡ w)
    → (◌≡◌ {A = Result A FileFault} (Err d) (Err Memory)) ⊎ (Err d ≡ v) → (◌≡◌ {A = Result B FileFault} (Err d) (Err Memory)) ⊎ (Err d ≡ w)
passed d v w f (inl z) = inl cc
passed d v w f (inr e) = inr (f e)

-- an answer is passed on unchanged
pub onward : {A : Type 0} (r v w : Result A FileFault) → (r ≡ Err Memory) ⊎ (r ≡ v) → v ≡ w → (r ≡ Err Memory) ⊎ (r ≡ w)
onward r v w (inl z) e = inl z
onward r v w (inr p) e = inr (p ∙ e)

-- an accepted value means that there is no fault
pub agreed : {A : Type 0} (x : A) {f : Option FileFault} → (Ok x ≡ Err Memory) ⊎ (None ≡ f) → None ≡ f
agreed x (inl z) = absurd cc
agreed x (inr e) = e

pub refused : {A : Type 0} (d : FileFault) {f g : Option FileFault} → (Some d ≡ f → g ≡ Some d)
    → (◌≡◌ {A = Result A FileFault} (Err d) (Err Memory)) ⊎ (Some d ≡ f) → (d ≡ Memory) ⊎ (g ≡ Some d)
refused d h (inl z) = inl cc
refused d h (inr e) = inr (h e)
