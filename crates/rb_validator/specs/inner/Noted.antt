-- Defines the notes that few files have, for proofs only.
use Rattle.std.specs.Prelude.{Bool, List, [], Option, Some, None, Box}
use Rattle.std.specs.declared.alloc.Global.{Global}
use Rattle.rb_validator.specs.declared.notes.Notes.{Notes}

-- the marks of blocks
abbrev pub blocks_noted : Option (Box Notes Global) → List Bool
blocks_noted None = []
blocks_noted (Some notes) = notes.value.blocks.items
