-- For private contracts: defines the tokens that a reader has not returned yet.
use Rattle.std.specs.Prelude.{◌≡◌, ℕ, ◌+◌, ◌≤◌, ◌⊎◌, List, [], ◌++◌, length, None, false}
use Rattle.std.specs.Str.{chars}
use Rattle.rb_lexer.specs.declared.reader.Reader.{Reader}
use Rattle.rb_lexer.specs.declared.token.Token.{Token}
use Rattle.rb_lexer.specs.Tokens.{width, line_of}
use Rattle.rb_lexer.specs.Atom.{Atom, atoms_chars, AreAtoms, atoms_tokens}
use Rattle.rb_lexer.specs.Limits.{source_limit}

-- The unread characters begin at the reader's byte and line.
pub record IsPlaced (r : Reader) : Type 0 where
  pub short : length r.text.now ≤ source_limit
  pub at : r.first + width (chars r.rest.now) ≡ length r.text.now
  pub line_is : r.line ≡ line_of r.text.now r.first

-- The buffered tokens, followed by those of the unread characters, which have no error, are these.
pub record Gives (r : Reader) (ts : List Token) : Type 0 where
  pub atoms : List Atom
  pub spelled : chars r.rest.now ≡ atoms_chars atoms []
  pub good : AreAtoms atoms []
  pub tokens : ts ≡ r.builder.tokens.items ++ atoms_tokens r.text.now r.first r.builder.pending r.builder.is_open atoms

-- Everything is read.
abbrev pub IsDone : Reader → Type 0
IsDone r = (chars r.rest.now ≡ []) × (r.builder.pending ≡ None)

-- Two tokens are buffered, or all remaining ones.
abbrev pub IsFull : Reader → Type 0
IsFull r = (2 ≤ length r.builder.tokens.items) ⊎ IsDone r

-- These tokens remain.
pub record Left (r : Reader) (ts : List Token) : Type 0 where
  pub placed : IsPlaced r
  pub full : IsFull r
  pub gives : Gives r ts

-- The reader is at the start of the text.
pub record IsAtStart (r : Reader) (text : List ℕ) : Type 0 where
  pub text_is : r.text.now ≡ text
  pub rest_is : r.rest.now ≡ text
  pub first_is : r.first ≡ 0
  pub line_is : r.line ≡ 1
  pub no_tokens : r.builder.tokens.items ≡ []
  pub no_pending : r.builder.pending ≡ None
  pub closed : r.builder.is_open ≡ false
