-- For proofs only: reads an escape from the characters after a backslash.
use Rattle.std.specs.Prelude.{ℕ, zero, suc, ◌==◌, cond, List, [], ◌∷◌, length, Option, Some, None, nat_lt}
use Rattle.std.specs.Char.{is_digit}
use Rattle.std.specs.Str.Parse.{digits_value}
use Rattle.rb_lexer.specs.Lexeme.{Escape, four, eight, hex, octal, letter}

-- as many digits as there are, up to a limit, and the remaining characters
unfoldable pub digits_at : ℕ → ℕ → List ℕ → List ℕ × List ℕ
digits_at radix zero cs = ([], cs)
digits_at radix (suc n) [] = ([], [])
digits_at radix (suc n) (c ∷ cs) = cond (is_digit c radix) (c ∷ (digits_at radix n cs).0, (digits_at radix n cs).1)
    ([], c ∷ cs)

abbrev pub at_least : ℕ → (List ℕ → Escape) → List ℕ × List ℕ → Option (Escape × List ℕ)
at_least least kind x = cond (nat_lt (length x.0) least) None (Some (kind x.0, x.1))

abbrev pub code_point : List ℕ × List ℕ → Option (Escape × List ℕ)
code_point x = cond (nat_lt (length x.0) 8) None
    (cond (nat_lt 0x10FFFF (digits_value 16 x.0)) None (Some (eight x.0, x.1)))

unfoldable pub escape_at : List ℕ → Option (Escape × List ℕ)
escape_at [] = None
escape_at (c ∷ cs) =
    cond (c == 0x75) (at_least 4 four (digits_at 16 4 cs))
    (cond (c == 0x55) (code_point (digits_at 16 8 cs))
    (cond (c == 0x78) (at_least 1 hex (digits_at 16 2 cs))
    (cond (is_digit c 8) (at_least 1 octal (digits_at 8 3 (c ∷ cs)))
    (cond (c == 0x63) None (Some (letter c, cs))))))
