-- Defines the values of a command's arguments, by the rows that clap returned: a row has the texts of one argument.
use Rattle.std.specs.Prelude.{◌≡◌, ◌<◌, ◌^◌, ◌∷◌, [], ℕ, Bool, true, false, List, Option, Some, None, codes}
use Rattle.std.specs.Prelude.{option_map, unwrap_or}
use Rattle.std.specs.Option.{SomeIff}
use Rattle.std.specs.Str.Parse.{IsNumeral, digits_value, without_leading_plus}
use Rattle.std.specs.Borrow.{Bor}
use Rattle.clap.specs.Words.{Row, Text, all_of, first_of, one_of}

-- the word of an argument, empty if it is missing
abbrev pub word_in : List Row → Text → Text
word_in rows id = unwrap_or (first_of id rows) []

-- the text of an argument, if it is given
abbrev pub IsTextIn : List Row → Text → Option (Bor (List ℕ)) → Type 0
IsTextIn rows id text = option_map (λ s. s.now) text ≡ first_of id rows

-- the words of an argument, none if it is missing
abbrev pub words_in : List Row → Text → List Text
words_in rows id = unwrap_or (all_of id rows) []

-- an optional text as a list
abbrev pub alone : Option Text → List Text
alone None = []
alone (Some text) = text ∷ []

-- the value of a flag, by its text; only `true` and `false` are defined
abbrev pub IsFlagOf : Option Text → Bool → Type 0
IsFlagOf None flag = flag ≡ false
IsFlagOf (Some text) flag = (text ≡ codes "true" → flag ≡ true) × (text ≡ codes "false" → flag ≡ false)

abbrev pub IsFlagIn : List Row → Text → Bool → Type 0
IsFlagIn rows id flag = IsFlagOf (one_of id rows) flag

-- a number of 64 bits by its text, decimal digits after an optional plus; None for any other text
abbrev pub IsNumberOf : Option Text → Option ℕ → Type 0
IsNumberOf None number = number ≡ None
IsNumberOf (Some text) number =
    let digits = without_leading_plus text in
    SomeIff number (IsNumeral 10 digits × (digits_value 10 digits < 2 ^ 64)) (digits_value 10 digits)

abbrev pub IsNumberIn : List Row → Text → Option ℕ → Type 0
IsNumberIn rows id number = IsNumberOf (one_of id rows) number
