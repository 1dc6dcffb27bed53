-- For private contracts: defines whether a text has an error, by the second reading.
use Rattle.std.specs.Prelude.{◌≡◌, ℕ, List, []}
use Rattle.rb_lexer.specs.declared.fault.SourceKind.TheVariants.{Memory}
use Rattle.rb_lexer.specs.declared.fault.LexError.{LexError}
use Rattle.rb_lexer.specs.Faults.{Broken, broken_chars, IsBroken, broken_kind, from_fault}
use Rattle.rb_lexer.specs.Tokens.{width}
use Rattle.rb_lexer.specs.Atom.{Atom, atoms_chars, AreAtoms}

-- The characters have no error.
abbrev pub IsUnbroken : List ℕ → Type 0
IsUnbroken cs = (xs : List Atom) × (cs ≡ atoms_chars xs []) × AreAtoms xs []

-- The characters have this error, unless memory ran out.
abbrev pub BreaksSo : LexError → List ℕ → Type 0
BreaksSo stop cs =
    (stop.kind ≡ Memory → ⊥) → (xs : List Atom) × ((b : Broken) ×
    ((cs ≡ atoms_chars xs (broken_chars b)) × AreAtoms xs (broken_chars b) × IsBroken b × (stop.kind ≡ broken_kind b)
    × (stop.left ≡ width (from_fault b))))
