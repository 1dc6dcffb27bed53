-- Defines the model of the program's trails.
use Rattle.std.specs.Prelude.{Result, Ok, Err}
use Rattle.rb_parents.specs.Trail.{Trail, names, chain, bad_parent}
use Rattle.rb_parents.specs.declared.fault.TrailFault.{TrailFault}
use Rattle.rb_parents.specs.declared.fault.TrailFault.TheVariants as fault
use Rattle.rb_parents.specs.declared.route.Route.{Route}

abbrev pub trail_of : Result Route TrailFault → Trail
trail_of (Ok r) = names r.names.items
trail_of (Err fault.Chain) = chain
trail_of (Err fault.BadParent) = bad_parent
