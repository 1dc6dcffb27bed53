-- For proofs only: defines a second reading, which follows the code. It reads an unquoted piece part by part.
use Rattle.std.specs.Prelude.{◌≡◌, ℕ, ◌+◌, Bool, true, false, cond, List, [], ◌∷◌, ◌++◌, Option, Some, None, IsTrue}
use Rattle.rb_lexer.specs.Lexeme.{is_white, is_punctuation, quote, Comment, comment_chars, IsComment, Part, part_chars}
use Rattle.rb_lexer.specs.Lexeme.{part_units, parts_chars, parts_units}
use Rattle.rb_lexer.specs.Lexeme.{AreParts, IsQuotedPart, IsUnquotedPart, Stays}
use Rattle.rb_lexer.specs.Faults.{Broken, broken_chars, IsBroken, broken_kind, from_fault}
use Rattle.rb_lexer.specs.Tokens.{width, punctuation_mark}
use Rattle.rb_lexer.specs.Merging.{flushed, grown, piece, punctuation_token}
use Rattle.rb_lexer.specs.declared.token.Token.{Token}
use Rattle.rb_lexer.specs.declared.pending.PendingText.{PendingText}
use Rattle.rb_lexer.specs.declared.scan.Scanned.{Scanned}
use Rattle.rb_lexer.specs.declared.scan.Scanned.TheVariants.{White, Comment as CommentItem, Punctuation, Quoted, Run}
use Rattle.rb_lexer.specs.declared.fault.SourceKind.TheVariants.{Memory}
use Rattle.rb_lexer.specs.declared.fault.LexError.{LexError}

pub data Atom : Type 0 where
  blank : ℕ → Atom
  remark : Comment → Atom
  punct : ℕ → Atom
  cited : List Part → Atom
  single : Part → Atom

abbrev pub atom_chars : Atom → List ℕ → List ℕ
atom_chars (blank c) rest = c ∷ rest
atom_chars (remark c) rest = comment_chars c rest
atom_chars (punct c) rest = c ∷ rest
atom_chars (cited ps) rest = quote ∷ parts_chars ps (quote ∷ rest)
atom_chars (single p) rest = part_chars p rest

-- a part that is a character or an escape
abbrev pub IsSingle : Part → List ℕ → Type 0
IsSingle p rest = Stays p × IsUnquotedPart p rest

abbrev pub IsAtom : Atom → List ℕ → Type 0
IsAtom (blank c) rest = IsTrue (is_white c)
IsAtom (remark c) rest = IsComment c rest
IsAtom (punct c) rest = IsTrue (is_punctuation c)
IsAtom (cited ps) rest = AreParts IsQuotedPart ps (quote ∷ rest)
IsAtom (single p) rest = IsSingle p rest

abbrev pub atoms_chars : List Atom → List ℕ → List ℕ
atoms_chars [] rest = rest
atoms_chars (a ∷ xs) rest = atom_chars a (atoms_chars xs rest)

abbrev pub AreAtoms : List Atom → List ℕ → Type 0
AreAtoms [] rest = Unit {0}
AreAtoms (a ∷ xs) rest = IsAtom a (atoms_chars xs rest) × AreAtoms xs rest

abbrev pub singles : List Part → List Atom
singles [] = []
singles (p ∷ ps) = single p ∷ singles ps

abbrev pub blanks : List ℕ → List Atom
blanks [] = []
blanks (c ∷ cs) = blank c ∷ blanks cs

-- The characters after a quote spell a quoted piece of these units and its closing quote, and then the rest.
abbrev pub IsPastQuote : List ℕ → List ℕ → List ℕ → Type 0
IsPastQuote text units rest = (ps : List Part) × (text ≡ parts_chars ps (quote ∷ rest))
    × AreParts IsQuotedPart ps (quote ∷ rest) × (units ≡ parts_units ps)

-- The characters continue a run of an unquoted piece by some parts, then comes the rest. The first units are those
-- before the parts, the others those after them.
abbrev pub IsPastRun : List ℕ → List ℕ → List ℕ → List ℕ → Type 0
IsPastRun before text units rest = (ps : List Part) × (text ≡ parts_chars ps rest) × AreParts IsSingle ps rest
    × (units ≡ before ++ parts_units ps)

-- Relates an item of the code to its atoms.
abbrev pub Shows : Scanned → List ℕ → List Atom → Type 0
Shows White us xs = (c : ℕ) × ((cs : List ℕ) × (xs ≡ blanks (c ∷ cs)))
Shows CommentItem us xs = (c : Comment) × (xs ≡ remark c ∷ [])
Shows (Punctuation m) us xs = (c : ℕ) × (xs ≡ punct c ∷ []) × (m ≡ punctuation_mark c)
Shows Quoted us xs = (ps : List Part) × (xs ≡ cited ps ∷ []) × (us ≡ parts_units ps)
Shows Run us xs = (p : Part) × ((ps : List Part) × (xs ≡ singles (p ∷ ps)) × (us ≡ parts_units (p ∷ ps)))

-- The characters begin with this item, of these units if it is a piece, and the rest follows.
abbrev pub Begins : List ℕ → Scanned → List ℕ → List ℕ → Type 0
Begins text item us rest = (xs : List Atom) × (text ≡ atoms_chars xs rest) × AreAtoms xs rest × Shows item us xs

-- The characters have this lexical error, unless memory ran out.
abbrev pub Stops : LexError → List ℕ → Type 0
Stops stop cs = (stop.kind ≡ Memory → ⊥) → (b : Broken) × (cs ≡ broken_chars b) × IsBroken b
    × (stop.kind ≡ broken_kind b) × (stop.left ≡ width (from_fault b))

-- a piece, extended by another
abbrev pub longer : Option PendingText → PendingText → PendingText
longer None b = b
longer (Some a) b = record {
  units = a.units
      ++ b.units;
  is_quoted = a.is_quoted;
  first = a.first;
  past = b.past;
  line = a.line;
}

-- a pending text, extended by units, if there is one
abbrev pub extended : Option PendingText → List ℕ → ℕ → Option PendingText
extended None us past = None
extended (Some a) us past = Some
    (record { units = a.units ++ us; is_quoted = a.is_quoted; first = a.first; past = past; line = a.line })

-- a pending text, extended by one unquoted character
abbrev pub with_character : Bool → Option PendingText → PendingText → PendingText
with_character is_open pending b = cond is_open (longer pending b) (grown pending b)

abbrev pub past_atom : ℕ → Atom → ℕ
past_atom at a = at + width (atom_chars a [])

-- The tokens of atoms that begin at a byte, after a pending text; the flag says whether its unquoted piece is open.
abbrev pub atoms_tokens : List ℕ → ℕ → Option PendingText → Bool → List Atom → List Token
atoms_tokens bytes at pending is_open [] = flushed pending []
atoms_tokens bytes at pending is_open (blank c ∷ xs) = atoms_tokens bytes (past_atom at (blank c)) pending false xs
atoms_tokens bytes at pending is_open (remark c ∷ xs) = atoms_tokens bytes (past_atom at (remark c)) pending is_open xs
atoms_tokens bytes at pending is_open (punct c ∷ xs) =
    flushed pending (punctuation_token bytes c at (past_atom at (punct c))
    ∷ atoms_tokens bytes (past_atom at (punct c)) None false xs)
atoms_tokens bytes at pending is_open (cited ps ∷ xs) =
    atoms_tokens bytes (past_atom at (cited ps))
    (Some (grown pending (piece bytes (parts_units ps) true at (past_atom at (cited ps))))) false xs
atoms_tokens bytes at pending is_open (single p ∷ xs) =
    atoms_tokens bytes (past_atom at (single p))
    (Some (with_character is_open pending (piece bytes (part_units p) false at (past_atom at (single p))))) true xs
