-- For private contracts: relates the program's punctuation, lookahead, guesses and types to those of the grammar's
-- reading function.
use Rattle.std.specs.Prelude.{ℕ, List, [], ◌∷◌, Result, Ok, Err}
use Rattle.rb_lexer.specs.declared.fault.SourceKind.TheVariants.{Unexpected}
use Rattle.rb_lexer.specs.declared.fault.SourceFault.{SourceFault}
use Rattle.rb_grammar.specs.Faults.{line_at}
use Rattle.rb_grammar.specs.Reading as reading
use Rattle.rb_parser.specs.declared.cursor.Punctuation.{Punctuation}
use Rattle.rb_parser.specs.declared.cursor.Punctuation.TheVariants.{Left, Right, Colon, Comma}
use Rattle.rb_lexer.specs.declared.token.Token.{Token}
use Rattle.rb_lexer.specs.declared.token.Mark.{Mark}
use Rattle.rb_lexer.specs.declared.token.Mark.TheVariants as mark
use Rattle.rb_parser.specs.declared.cursor.Lookahead.{Lookahead}
use Rattle.rb_parser.specs.declared.cursor.Lookahead.TheVariants as next
use Rattle.rb_parser.specs.declared.cursor.Guess.{Guess}
use Rattle.rb_parser.specs.declared.cursor.Guess.TheVariants.{Text, Table, Array}
use Rattle.rb_parser.specs.declared.word.Word.{Word}
use Rattle.rb_parser.specs.declared.word.Word.TheVariants as word
use Rattle.rb_parser.specs.declared.word.Leaf.TheVariants as leaf

abbrev pub punctuation_of : Punctuation → reading.Punctuation
punctuation_of Left = reading.left
punctuation_of Right = reading.right
punctuation_of Colon = reading.colon
punctuation_of Comma = reading.comma

abbrev pub next_mark : Mark → Lookahead
next_mark (mark.Text s) = next.Text
next_mark mark.LeftBrace = next.Left
next_mark mark.Colon = next.Colon
next_mark mark.RightBrace = next.Other
next_mark mark.Comma = next.Other

abbrev pub next_of : List Token → Lookahead
next_of [] = next.Other
next_of (t ∷ ts) = next_mark t.what

-- the guess, or the error at the token that decides
abbrev pub guessed : ℕ → reading.Guess → Result Guess SourceFault
guessed end reading.as_text = Ok Text
guessed end reading.as_table = Ok Table
guessed end reading.as_array = Ok Array
guessed end (reading.none_at rest) = Err (record { kind = Unexpected; line = line_at end rest })

-- the long and the short words give the same type
abbrev pub word_of : reading.Word → Word
word_of reading.string_type = word.Leaf leaf.String
word_of reading.alias_type = word.Leaf leaf.Alias
word_of (reading.binary_type long) = word.Leaf leaf.Binary
word_of (reading.int_type long) = word.Leaf leaf.Int
word_of reading.ints_type = word.Leaf leaf.Ints
word_of reading.table_type = word.Table
word_of reading.array_type = word.Array
