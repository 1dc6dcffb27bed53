-- For proofs only: defines tokens as the code makes them, with a pending text that the next piece may join.
use Rattle.std.specs.Prelude.{ℕ, Bool, true, false, List, [], ◌∷◌, ◌++◌, Option, Some, None}
use Rattle.rb_lexer.specs.Lexeme.{Lexeme, white, comment, punctuation, quoted, unquoted, parts_units}
use Rattle.rb_lexer.specs.Tokens.{line_of, punctuation_mark, separator, past_lexeme}
use Rattle.rb_lexer.specs.declared.token.Mark.TheVariants.{Text}
use Rattle.rb_lexer.specs.declared.token.Token.{Token}
use Rattle.rb_lexer.specs.declared.pending.PendingText.{PendingText}

abbrev pub between : PendingText → PendingText → List ℕ
between a b = separator a.units a.is_quoted b.is_quoted

abbrev pub joined : PendingText → PendingText → PendingText
joined a b = record {
  units = (a.units ++ between a b)
      ++ b.units;
  is_quoted = b.is_quoted;
  first = a.first;
  past = b.past;
  line = a.line;
}

abbrev pub grown : Option PendingText → PendingText → PendingText
grown None b = b
grown (Some a) b = joined a b

abbrev pub text_token : PendingText → Token
text_token p = record { what = Text p.units; first = p.first; past = p.past; line = p.line }

abbrev pub flushed : Option PendingText → List Token → List Token
flushed None ts = ts
flushed (Some p) ts = text_token p ∷ ts

abbrev pub piece : List ℕ → List ℕ → Bool → ℕ → ℕ → PendingText
piece bytes units is_quoted first past = record { units = units; is_quoted = is_quoted; first = first; past = past; line = line_of bytes first }

abbrev pub punctuation_token : List ℕ → ℕ → ℕ → ℕ → Token
punctuation_token bytes c first past = record { what = punctuation_mark c; first = first; past = past; line = line_of bytes first }

-- the tokens of lexemes that begin at a byte, after a pending text
abbrev pub tokens_from : List ℕ → ℕ → Option PendingText → List Lexeme → List Token
tokens_from bytes at pending [] = flushed pending []
tokens_from bytes at pending (white c ∷ ls) = tokens_from bytes (past_lexeme at (white c)) pending ls
tokens_from bytes at pending (comment c ∷ ls) = tokens_from bytes (past_lexeme at (comment c)) pending ls
tokens_from bytes at pending (punctuation c ∷ ls) =
    flushed pending (punctuation_token bytes c at (past_lexeme at (punctuation c))
    ∷ tokens_from bytes (past_lexeme at (punctuation c)) None ls)
tokens_from bytes at pending (quoted ps ∷ ls) =
    tokens_from bytes (past_lexeme at (quoted ps))
    (Some (grown pending (piece bytes (parts_units ps) true at (past_lexeme at (quoted ps))))) ls
tokens_from bytes at pending (unquoted ps ∷ ls) =
    tokens_from bytes (past_lexeme at (unquoted ps))
    (Some (grown pending (piece bytes (parts_units ps) false at (past_lexeme at (unquoted ps))))) ls
