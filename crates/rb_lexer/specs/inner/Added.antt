-- For private contracts: defines what a builder adds.
use Rattle.std.specs.Prelude.{◌≡◌, ℕ, ◌+◌, List, [], ◌++◌}
use Rattle.rb_lexer.specs.declared.builder.Builder.{Builder}
use Rattle.rb_lexer.specs.declared.scan.Scanned.{Scanned}
use Rattle.rb_lexer.specs.declared.span.Span.{Span}
use Rattle.rb_lexer.specs.Tokens.{width, line_of}
use Rattle.rb_lexer.specs.Atom.{Atom, atoms_chars, atoms_tokens, Shows}

-- Adding the item of these units at this span gives the tokens that the item's characters and all that follows spell.
abbrev pub Adds : Builder → Builder → Scanned → List ℕ → Span → Type 0
Adds old new item units at = (bytes : List ℕ) (xs rest : List Atom) → Shows item units xs
    → at.line ≡ line_of bytes at.first → at.past ≡ at.first + width (atoms_chars xs [])
    → old.tokens.items ++ atoms_tokens bytes at.first old.pending old.is_open (xs ++ rest)
    ≡ new.tokens.items ++ atoms_tokens bytes at.past new.pending new.is_open rest
