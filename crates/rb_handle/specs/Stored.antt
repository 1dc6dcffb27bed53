-- Defines the engine of a handle.
use Rattle.std.specs.Prelude.{Option, option_map}
use Rattle.rb_engine.specs.Kept.{Kept}
use Rattle.rb_handle.specs.declared.handle.Handle.{Handle}

-- the engine, if the handle is open
abbrev pub engine_of : Handle → Option Kept
engine_of h = option_map (λ count. count.value) h.engine
