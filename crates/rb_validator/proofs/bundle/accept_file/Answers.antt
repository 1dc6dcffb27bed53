use Rattle.std.proofs.Common.{◌≡◌, List, ℕ, Some, None, sym, ◌∙◌, inl, inr}
use Rattle.std.specs.Prelude.{◌⊎◌, drop}
use Rattle.rb_format.specs.Place.{half_at}
use Rattle.rb_validator.specs.TextBlocks.{AreSegmentBlocks}
use Rattle.rb_validator.specs.inner.Noted.{blocks_noted}
use Rattle.rb_format.specs.declared.fault.FileFault.{FileFault}
use Rattle.rb_format.specs.declared.fault.FileFault.TheVariants.{Memory}
use Rattle.rb_format.specs.inner.FirstFault.{fault_of, read_file}
use Rattle.rb_format.specs.Checks.{first_fault}
use Rattle.rb_format.proofs.Checks.{file_first}
use Rattle.rb_format.proofs.Root.{fault_free}
use Rattle.rb_validator.specs.Visits.{HasVisits}
use Rattle.rb_validator.proofs.FirstFaults.{fault_checked}
use Rattle.rb_validator.proofs.bundle.accept_file.Goals as goal

pub invariant_of-result : goal.invariant_of-result
invariant_of-result c =
    let bytes = c.args.bytes.items in
    let none : fault_of (read_file 64 bytes) ≡ None = rw (← c.deref.ensures.value) c.in-Ok.ensures.answer in
    let counted : HasVisits bytes c.in-Ok.field-0.visits = rw (← c.deref.ensures.value) c.in-Ok.ensures.visits in
    let marked : AreSegmentBlocks (drop (half_at bytes 0) bytes) (blocks_noted c.in-Ok.field-0.notes) = rw (← c.deref.ensures.value) c.in-Ok.ensures.blocks in
    record { denoted = fault_free bytes (sym (file_first bytes) ∙ none); counted = counted; marked = marked }

pub returns-in-Ok-clause-tree : goal.returns-in-Ok-clause-tree
returns-in-Ok-clause-tree c =
    let bytes = c.args.bytes.items in
    let none : fault_of (read_file 64 bytes) ≡ None = rw (← c.deref.ensures.value) c.in-Ok.ensures.answer in
    fault_free bytes (sym (file_first bytes) ∙ none)

pub returns-in-Err-clause-fault : goal.returns-in-Err-clause-fault
returns-in-Err-clause-fault c =
    let bytes = c.args.bytes.items in
    let e = c.in-Err.fault in
    let told : (e ≡ Memory) ⊎ (fault_of (read_file 64 bytes) ≡ Some e) = rw (← c.deref.ensures.value) c.in-Err.ensures.answer in
    fault_checked bytes e told
