-- Defines the bundle that is prepared from a payload in C, or the first error, a rule of this project.
use Rattle.std.specs.Prelude.{◌≡◌, ℕ, List}
use Rattle.rb_compiler.specs.Compiled.{IsCompiled}
use Rattle.rb_format.specs.File.{Denotes, source_tree_of}
use Rattle.rb_engine.specs.declared.request.Payload.{Payload}
use Rattle.rb_engine.specs.declared.request.Payload.TheVariants.{Text, File}
use Rattle.resb.specs.Numbers.{IsFileError}
use Rattle.resb.specs.Texts.{IsTextError}

-- the file that a text compiles to, or a file that denotes a bundle
abbrev pub IsPrepared : Payload → List ℕ → Type 0
IsPrepared (Text bytes) file = IsCompiled bytes file
IsPrepared (File bytes) file = (file ≡ bytes) × Denotes bytes (source_tree_of file)

-- the number of the first error, and its line in a text
abbrev pub IsPayloadError : Payload → ℕ → ℕ → Type 0
IsPayloadError (Text bytes) n line = IsTextError bytes n line
IsPayloadError (File bytes) n line = IsFileError bytes n
