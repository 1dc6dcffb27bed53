-- Defines the entries that were read of a table. Only private contracts and proofs use this page.
use Rattle.std.specs.Prelude.{◌≡◌, ◌≢◌, ◌≤◌, ◌<◌, ◌-◌, ◌⊎◌, ℕ, suc, Bool, if◌then◌else◌, List, [], ◌∷◌, ◌++◌, length, get_or, Result, Ok, Err, All}
use Rattle.rb_lexer.specs.declared.token.Token.{Token}
use Rattle.rb_lexer.specs.declared.fault.SourceKind.TheVariants.{DuplicateKey, Memory}
use Rattle.rb_lexer.specs.declared.fault.SourceFault.{SourceFault}
use Rattle.rb_tree.specs.Keys.{IsKey}
use Rattle.rb_tree.specs.Table.{keys_in, NoRepeat, IsFirstRepeat}
use Rattle.rb_tree.specs.declared.tree.Tree.{Tree}
use Rattle.rb_grammar.specs.Reading.{body, entries}
use Rattle.rb_grammar.specs.Tests.{the_tests}
use Rattle.rb_parser.specs.inner.Reads.{located, Reads, AreEntries}
use Rattle.rb_parser.specs.declared.table.Rows.{Rows}

abbrev pub Pair : Type 0
Pair = List ℕ × Tree

-- the keys, the last first
abbrev pub keys_after : List Pair → List (List ℕ) → List (List ℕ)
keys_after [] ks = ks
keys_after (p ∷ ps) ks = keys_after ps (p.0 ∷ ks)

-- the lines, extended by that of one more key; the first key has none
abbrev pub lines_after : List Pair → List ℕ → ℕ → List ℕ
lines_after [] lines line = lines
lines_after (p ∷ ps) lines line = lines ++ line ∷ []

-- the error at a repeated key
abbrev pub twice_at : ℕ → SourceFault
twice_at line = record { kind = DuplicateKey; line = line }

abbrev pub repeat_at : List ℕ → ℕ → SourceFault
repeat_at lines i = twice_at (get_or lines (i - 1) 0)

-- the error at a key whose value has one, whether the key is a repeat or not
abbrev pub later_fault : Bool → ℕ → SourceFault → SourceFault
later_fault again line e = if again then twice_at line else e

-- the keys are valid, and each except the first has its line
pub record AreCounted (rows : Rows) : Type 0 where
  pub keys : All IsKey (keys_in rows.pairs.items)
  pub count : length rows.pairs.items ≤ suc (length rows.lines.items)

-- the error at the first repeated key
abbrev pub IsRepeat : Rows → SourceFault → Type 0
IsRepeat rows e = (i : ℕ) × IsFirstRepeat (keys_in rows.pairs.items) i × (e ≡ repeat_at rows.lines.items i)

-- the first of two errors: the one that ended the entries, and that at a repeated key
abbrev pub IsFirstFault : Rows → SourceFault → SourceFault → Type 0
IsFirstFault rows e first = (NoRepeat (keys_in rows.pairs.items) × (first ≡ e)) ⊎ IsRepeat rows first

-- reading succeeded, or failed for another reason than out of memory
abbrev pub IsKnown : {A : Type 0} → Result A SourceFault → Type 0
IsKnown (Ok x) = Unit {0}
IsKnown (Err e) = e.kind ≢ Memory

-- These entries were read from `start` on. If no key repeats, reading the entries ends with this result; if one does,
-- it stops there.
pub record AreRead (depth end : ℕ) (start : List Token) (rows : Rows) (result : Result (Unit {0}) SourceFault) (rest : List Token) : Type 0 where
  pub counted : AreCounted rows
  pub read : (n : ℕ) → length start < n → NoRepeat (keys_in rows.pairs.items)
      → Reads (λ _ es. AreEntries rows.pairs.items es) end result rest (entries the_tests (body the_tests depth) n [] start)
  pub twice : (n i : ℕ) → length start < n → IsFirstRepeat (keys_in rows.pairs.items) i
      → located end (entries the_tests (body the_tests depth) n [] start) ≡ Err (repeat_at rows.lines.items i)
