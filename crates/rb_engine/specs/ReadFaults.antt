-- Defines the first error of a payload that isn't read, a rule of this project.
use Rattle.std.specs.Prelude.{◌≡◌, Some}
use Rattle.rb_parser.specs.Source.{IsRefusal}
use Rattle.rb_format.specs.Checks.{first_fault}
use Rattle.rb_engine.specs.declared.request.Payload.{Payload}
use Rattle.rb_engine.specs.declared.request.Payload.TheVariants.{Text, File}
use Rattle.rb_engine.specs.declared.payload.ReadFault.{ReadFault}
use Rattle.rb_engine.specs.declared.payload.ReadFault.TheVariants.{Refused, BadText, BadFile}

-- the error of a text or of a file is the first that there is, as `compile` and `accept` report it
abbrev pub IsFirstFault : Payload → ReadFault → Type 0
IsFirstFault payload (Refused reply) = Unit {0}
IsFirstFault (Text bytes) (BadText fault) = IsRefusal bytes fault
IsFirstFault (File bytes) (BadFile fault) = first_fault bytes ≡ Some fault
IsFirstFault payload fault = ⊥
