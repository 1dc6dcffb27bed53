-- Defines the error codes of packages, a rule of this project: the name of the variant or the type.
use Rattle.std.specs.Prelude.{ℕ, List, codes}
use Rattle.rb_packages.specs.declared.app.AppFault.{AppFault}
use Rattle.rb_packages.specs.declared.app.AppFault.TheVariants as app
use Rattle.rb_packages.specs.declared.fault.PackFault.{PackFault}
use Rattle.rb_packages.specs.declared.fault.PackFault.TheVariants as pack
use Rattle.rb_packages.specs.declared.fault.DraftFault.{DraftFault}
use Rattle.rb_packages.specs.declared.fault.DraftFault.TheVariants as draft

abbrev pub app_word : AppFault → List ℕ
app_word app.BadApp = codes "BadApp"
app_word app.Reserved = codes "Reserved"

abbrev pub pack_word : PackFault → List ℕ
pack_word pack.Twice = codes "Twice"
pack_word pack.Exists = codes "Exists"
pack_word pack.Full = codes "Full"
pack_word pack.Memory = codes "Memory"

abbrev pub draft_word : DraftFault → List ℕ
draft_word draft.Absent = codes "Absent"
draft_word draft.Full = codes "Full"
draft_word draft.Memory = codes "Memory"
