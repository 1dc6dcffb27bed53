-- Proves that what the reading of a file finds is the file's first fault.
use Rattle.std.proofs.Common.{◌≡◌, List, ℕ, Some, sym, ◌∙◌, inl, inr}
use Rattle.std.specs.Prelude.{◌⊎◌}
use Rattle.rb_format.specs.declared.fault.FileFault.{FileFault}
use Rattle.rb_format.specs.declared.fault.FileFault.TheVariants.{Memory}
use Rattle.rb_format.specs.inner.FirstFault.{fault_of, read_file}
use Rattle.rb_format.specs.Checks.{first_fault}
use Rattle.rb_format.proofs.Checks.{file_first}

pub fault_checked : (bytes : List ℕ) (e : FileFault) → (e ≡ Memory) ⊎ (fault_of (read_file 64 bytes) ≡ Some e) → (e ≡ Memory) ⊎ (first_fault bytes ≡ Some e)
fault_checked bytes e (inl m) = inl m
fault_checked bytes e (inr f) = inr (sym (file_first bytes) ∙ f)
