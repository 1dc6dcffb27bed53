-- Defines the errors of a text in C, a rule of this project.
use Rattle.std.specs.Prelude.{◌≡◌, ◌<◌, ℕ, List, length}
use Rattle.rb_lexer.specs.declared.fault.SourceFault.{SourceFault}
use Rattle.rb_parser.specs.Source.{IsRefusal}
use Rattle.rb_compiler.specs.Compiled.{IsCompiled}
use Rattle.resb.specs.Numbers.{text_number}

-- the number and the line of a text's first error
abbrev pub IsTextError : List ℕ → ℕ → ℕ → Type 0
IsTextError text n line = (fault : SourceFault) × IsRefusal text fault × (n ≡ text_number fault.kind) × (line ≡ fault.line)

-- the length of a text's file, which is longer than a buffer
abbrev pub IsTooLong : List ℕ → ℕ → List ℕ → Type 0
IsTooLong text n out = (file : List ℕ) × IsCompiled text file × (n ≡ length file) × (length out < n)
