-- Defines what the handle of a bundle owns: a box with the bundle, and the right to free the box; or nothing.
use Rattle.std.specs.Prelude.{ℕ, Bool, true, false, List, Option, Some, None}
use base.Fml.{Fml, fsep, feq}
use denote.RawPtr.{Ptr}
use denote.RattleType.{RattleType}
use Rattle.std_alloc.specs.Box.Ownership.{box_owns}
use Rattle.std.specs.contracts.impls.GlobalAllocator.TheImpl.{ghosts}
use Rattle.std.specs.declared.alloc.Global.{Global}
use Rattle.rb_validator.specs.contracts.bundle.Bundle as bundle

-- the type of a bundle
abbrev pub stored : RattleType
stored = bundle.the_row

-- a prepared handle owns a box; a discarded one owns nothing, whatever its pointer
abbrev pub bundle_owns : Bool → Ptr → Global → Option (List ℕ) → Fml
bundle_owns is_prepared at alloc (Some file) = fsep (feq Bool is_prepared true) (box_owns (ghosts.dealloc_token alloc) stored at file)
bundle_owns is_prepared at alloc None = feq Bool is_prepared false
