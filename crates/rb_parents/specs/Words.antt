-- Defines the error codes of explicit parents and of trails.
use Rattle.std.specs.Prelude.{ℕ, List, codes}
use Rattle.rb_parents.specs.declared.fault.ParentsFault.{ParentsFault}
use Rattle.rb_parents.specs.declared.fault.ParentsFault.TheVariants as parents
use Rattle.rb_parents.specs.declared.fault.TrailFault.{TrailFault}
use Rattle.rb_parents.specs.declared.fault.TrailFault.TheVariants as trail

abbrev pub parents_word : ParentsFault → List ℕ
parents_word parents.Shape = codes "Shape"
parents_word parents.BadLocale = codes "BadLocale"
parents_word parents.TwoParents = codes "TwoParents"
parents_word parents.Memory = codes "Memory"

abbrev pub trail_word : TrailFault → List ℕ
trail_word trail.Chain = codes "Chain"
trail_word trail.BadParent = codes "BadParent"
