-- For what is private. Defines the bytes of a refusal's members, part by part.
use Rattle.std.specs.Prelude.{ℕ, List, [], ◌++◌, true, false, Option, Some, None, codes}
use Rattle.serde_json.specs.Data.{number, string, unsigned}
use Rattle.serde_json.specs.Written.{compact_text}
use Rattle.rb_json.specs.Parts.{name_text}

-- the first member, if there is a code
abbrev pub code_text : Option (List ℕ) → List ℕ
code_text None = []
code_text (Some code) = name_text false (codes "code") ++ compact_text (string code)

-- a later member, if there is a number
abbrev pub number_text : List ℕ → Option ℕ → List ℕ
number_text key None = []
number_text key (Some n) = name_text true key ++ compact_text (number (unsigned n))
