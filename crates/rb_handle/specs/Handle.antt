-- Defines what a handle owns: a box with one count of an engine, and the right to free the box; or nothing.
use Rattle.std.specs.Prelude.{Bool, true, false, Option, Some, None}
use base.Fml.{Fml, fsep, feq}
use denote.RawPtr.{Ptr}
use denote.RattleType.{RattleType}
use Rattle.std_alloc.specs.Box.Ownership.{box_owns}
use Rattle.std_alloc.specs.contracts.arc.Arc as arc
use Rattle.std_alloc.specs.declared.arc.Arc.{Arc}
use Rattle.std_alloc.specs.declared.boxed.Box.{Box}
use Rattle.std.specs.contracts.alloc.Global as heap
use Rattle.std.specs.contracts.impls.GlobalAllocator.TheImpl.{ghosts}
use Rattle.std.specs.declared.alloc.Global.{Global}
use Rattle.rb_engine.specs.Kept.{Kept}
use Rattle.rb_engine.specs.contracts.engine.Engine as engine
use Rattle.rb_handle.specs.declared.parts.Parts.{Parts}

-- the value in a box
abbrev pub boxed : {X Z : Type 0} → Box X Z → X
boxed b = b.value

-- the value in the parts of a box
abbrev pub parts_value : {X Z : Type 0} → Parts X Z → X
parts_value p = p.value

-- the type of one count of an engine
abbrev pub counted : RattleType
counted = arc.the_row engine.the_row heap.the_row ghosts

-- an open handle owns a box; a closed one owns nothing, whatever its pointer
abbrev pub handle_owns : Bool → Ptr → Global → Option (Arc Kept Global) → Fml
handle_owns is_open at alloc (Some count) = fsep (feq Bool is_open true) (box_owns (ghosts.dealloc_token alloc) counted at count)
handle_owns is_open at alloc None = feq Bool is_open false
