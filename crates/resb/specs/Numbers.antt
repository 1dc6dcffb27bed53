-- Defines the numbers of errors in C (`resb.h`) by their codes, a rule of this project.
use Rattle.std.specs.Prelude.{◌≡◌, ◌⊎◌, ℕ, suc, List, [], ◌∷◌, Some, codes, if◌then◌else◌}
use Rattle.std.specs.Str.{bytes_eq}
use Rattle.rb_format.specs.Checks.{first_fault}
use Rattle.rb_format.specs.Words.{word_of}
use Rattle.rb_format.specs.declared.fault.FileFault.{FileFault}
use Rattle.rb_lexer.specs.Words.{kind_word}
use Rattle.rb_lexer.specs.declared.fault.SourceKind.{SourceKind}
use Rattle.rb_packages.specs.Words.{app_word}
use Rattle.rb_packages.specs.declared.app.AppFault.{AppFault}
use Rattle.rb_engine.specs.Words.{look_word, reply_word}
use Rattle.rb_engine.specs.declared.request.LookFault.{LookFault}
use Rattle.rb_engine.specs.declared.request.Reply.{Reply}
use Rattle.rb_engine.specs.declared.request.Reply.TheVariants.{Done, Names}

-- ---- the codes, in the order of their numbers

-- of requests, from 11 on; 20 is no number of an error
abbrev pub request_codes : List (List ℕ)
request_codes = codes "BadApp" ∷ codes "Reserved" ∷ codes "BadLocale" ∷ codes "BadText" ∷ codes "BadFile"
    ∷ codes "Exists" ∷ codes "Absent" ∷ codes "Full" ∷ codes "Twice" ∷ [] ∷ codes "BadPath" ∷ codes "PathTooLong"
    ∷ codes "Chain" ∷ codes "BadParent" ∷ codes "NoBundle" ∷ codes "Missing" ∷ codes "AliasText"
    ∷ codes "AliasPackage" ∷ codes "TooManyAliases" ∷ []

-- of texts, from 31 on
abbrev pub text_codes : List (List ℕ)
text_codes = codes "TooLong" ∷ codes "NotUtf8" ∷ codes "BadEscape" ∷ codes "OpenQuote" ∷ codes "OpenComment"
    ∷ codes "Unexpected" ∷ codes "UnknownType" ∷ codes "BadKey" ∷ codes "DuplicateKey" ∷ codes "BadInt"
    ∷ codes "BadHex" ∷ codes "TooDeep" ∷ codes "TrailingText" ∷ codes "TooLarge" ∷ []

-- of files, from 51 on
abbrev pub file_codes : List (List ℕ)
file_codes = codes "TooLong" ∷ codes "Header" ∷ codes "BigEndian" ∷ codes "Family" ∷ codes "FormatVersion"
    ∷ codes "Indexes" ∷ codes "Attributes" ∷ codes "Root" ∷ codes "ItemType" ∷ codes "Offset" ∷ codes "Length"
    ∷ codes "NotTerminated" ∷ codes "Key" ∷ codes "KeyOrder" ∷ codes "TooDeep" ∷ []

-- ---- the numbers

-- the number of a code among some, the first of which has a number
abbrev pub number_among : ℕ → List (List ℕ) → List ℕ → ℕ
number_among first [] code = first
number_among first (c ∷ cs) code = if bytes_eq c code then first else number_among (suc first) cs code

-- out of memory is 1 everywhere
abbrev pub code_number : ℕ → List (List ℕ) → List ℕ → ℕ
code_number first cs code = if bytes_eq (codes "Memory") code then 1 else number_among first cs code

abbrev pub file_number : FileFault → ℕ
file_number fault = code_number 51 file_codes (word_of fault)

abbrev pub text_number : SourceKind → ℕ
text_number kind = code_number 31 text_codes (kind_word kind)

abbrev pub look_number : LookFault → ℕ
look_number fault = code_number 11 request_codes (look_word fault)

-- the number of a reply to a change
abbrev pub reply_number : Reply → ℕ
reply_number Done = 0
reply_number (Names names) = 99
reply_number reply = code_number 11 request_codes (reply_word reply)

-- the number of a name that isn't one of an application
abbrev pub app_number : AppFault → ℕ
app_number fault = code_number 11 request_codes (app_word fault)

-- the number of the first fault of a file, or that of out of memory
abbrev pub IsFileError : List ℕ → ℕ → Type 0
IsFileError bytes n = (n ≡ 1) ⊎ ((fault : FileFault) × (first_fault bytes ≡ Some fault) × (n ≡ file_number fault))
