-- Defines the view of `Tokens`: the tokens not yet taken, as a function. It follows the second reading of characters
-- without errors; its results for other characters don't matter.
use Rattle.std.specs.Prelude.{ℕ, zero, suc, ◌==◌, ◌&&◌, cond, List, [], ◌∷◌, ◌++◌, Option, Some, None, length, drop}
use Rattle.std.specs.Str.{chars}
use Rattle.rb_lexer.specs.declared.reader.Reader.{Reader}
use Rattle.rb_lexer.specs.declared.token.Token.{Token}
use Rattle.rb_lexer.specs.Lexeme.{is_white, is_punctuation, quote, backslash, slash, star, begins, begins_comment}
use Rattle.rb_lexer.specs.Lexeme.{ends_line, Escape, line_comment, block_comment, Part, plain, escaped}
use Rattle.rb_lexer.specs.Escapes.{escape_at}
use Rattle.rb_lexer.specs.Atom.{Atom, blank, remark, punct, cited, single, atoms_tokens}

-- the text of a line comment after its slashes, its end, and the remaining characters
unfoldable pub line_at : List ℕ → List ℕ × Option ℕ × List ℕ
line_at [] = ([], None, [])
line_at (c ∷ cs) = cond (ends_line c) ([], Some c, cs) (c ∷ (line_at cs).0, (line_at cs).1, (line_at cs).2)

-- the text of a block comment, and the remaining characters
unfoldable pub block_at : List ℕ → List ℕ × List ℕ
block_at [] = ([], [])
block_at (c ∷ cs) =
    cond ((c == star) && begins (λ d. d == slash) cs) ([], drop 1 cs) (c ∷ (block_at cs).0, (block_at cs).1)

-- the comment after a slash, and the remaining characters
abbrev pub comment_at : List ℕ → Atom × List ℕ
comment_at [] = (blank slash, [])
comment_at (c ∷ cs) =
    cond (c == slash) (remark (line_comment (line_at cs).0 (line_at cs).1), (line_at cs).2)
    (remark (block_comment (block_at cs).0), (block_at cs).1)

abbrev pub escaped_at : Option (Escape × List ℕ) → Part × List ℕ
escaped_at None = (plain backslash, [])
escaped_at (Some x) = (escaped x.0, x.1)

-- a character or an escape, and the remaining characters
abbrev pub part_at : ℕ → List ℕ → Part × List ℕ
part_at c cs = cond (c == backslash) (escaped_at (escape_at cs)) (plain c, cs)

-- the parts of a quoted piece after its first quote, and the remaining characters
unfoldable pub quoted_at : ℕ → List ℕ → List Part × List ℕ
quoted_at zero cs = ([], [])
quoted_at (suc n) [] = ([], [])
quoted_at (suc n) (c ∷ cs) =
    cond (c == quote) ([], cs) ((part_at c cs).0 ∷ (quoted_at n (part_at c cs).1).0, (quoted_at n (part_at c cs).1).1)

-- the atom that begins with a character, and the remaining characters
unfoldable pub atom_at : ℕ → List ℕ → Atom × List ℕ
atom_at c cs =
    cond (is_white c) (blank c, cs)
    (cond (is_punctuation c) (punct c, cs)
    (cond (c == quote) (cited (quoted_at (length cs) cs).0, (quoted_at (length cs) cs).1)
    (cond (begins_comment (c ∷ cs)) (comment_at cs) (single (part_at c cs).0, (part_at c cs).1))))

-- the atoms of at most this many characters
unfoldable pub atoms_at : ℕ → List ℕ → List Atom
atoms_at zero cs = []
atoms_at (suc n) [] = []
atoms_at (suc n) (c ∷ cs) = (atom_at c cs).0 ∷ atoms_at n (atom_at c cs).1

-- the buffered tokens, then those of the unread characters
unfoldable pub left : Reader → List Token
left r =
    r.builder.tokens.items
    ++ atoms_tokens r.text.now r.first r.builder.pending r.builder.is_open
    (atoms_at (length (chars r.rest.now)) (chars r.rest.now))
