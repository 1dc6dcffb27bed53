-- For proofs and private contracts: defines the only numeral that some units can spell.
use Rattle.std.specs.Prelude.{ℕ, true, false, List, [], ◌∷◌, ◌==◌, if◌then◌else◌}
use Rattle.rb_grammar.specs.Numeral.{Sign, bare, plus, minus, Numeral, hexadecimal, octal, decimal}

abbrev pub after_0 : List ℕ → Numeral
after_0 [] = octal []
after_0 (u ∷ us) = if u == 0x58 then hexadecimal true us
    else (if u == 0x78 then hexadecimal false us else octal (u ∷ us))

abbrev pub shape : List ℕ → Numeral
shape [] = decimal []
shape (u ∷ us) = if u == 0x30 then after_0 us else decimal (u ∷ us)

abbrev pub sign_of : List ℕ → Sign
sign_of [] = bare
sign_of (u ∷ us) = if u == 0x2B then plus else (if u == 0x2D then minus else bare)

abbrev pub unsigned_of : List ℕ → List ℕ
unsigned_of [] = []
unsigned_of (u ∷ us) = if u == 0x2B then us else (if u == 0x2D then us else u ∷ us)
