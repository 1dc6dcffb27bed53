-- Defines the error of a lookup from that of a search or of a trail.
use Rattle.rb_fallback.specs.declared.fault.LookError.{LookError}
use Rattle.rb_fallback.specs.declared.fault.LookError.TheVariants as error
use Rattle.rb_parents.specs.declared.fault.TrailFault.{TrailFault}
use Rattle.rb_parents.specs.declared.fault.TrailFault.TheVariants as trail
use Rattle.rb_engine.specs.declared.request.LookFault.{LookFault}
use Rattle.rb_engine.specs.declared.request.LookFault.TheVariants as fault

abbrev pub look_fault_of : LookError → LookFault
look_fault_of error.BadPath = fault.BadPath
look_fault_of error.PathTooLong = fault.PathTooLong
look_fault_of error.Chain = fault.Chain
look_fault_of error.BadParent = fault.BadParent
look_fault_of error.NoBundle = fault.NoBundle
look_fault_of error.Missing = fault.Missing
look_fault_of error.AliasText = fault.AliasText
look_fault_of error.AliasPackage = fault.AliasPackage
look_fault_of error.TooManyAliases = fault.TooManyAliases

-- the error of a lookup whose trail is invalid
abbrev pub trail_refusal : TrailFault → LookFault
trail_refusal trail.Chain = fault.Chain
trail_refusal trail.BadParent = fault.BadParent
