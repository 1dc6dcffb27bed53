-- For private contracts: defines when a function of the parser returns what the grammar's reading function gives.
use Rattle.std.specs.Prelude.{◌≡◌, ◌≢◌, ℕ, ℤ, suc, Bool, List, [], ◌∷◌, length, Result, Ok, Err, nat_lt}
use Rattle.rb_lexer.specs.declared.token.Token.{Token}
use Rattle.rb_lexer.specs.declared.fault.SourceKind.TheVariants.{Unexpected, BadInt, BadHex, Memory}
use Rattle.rb_lexer.specs.declared.fault.SourceFault.{SourceFault}
use Rattle.rb_tree.specs.View.{view_of}
use Rattle.rb_tree.specs.declared.tree.Tree.{Tree}
use Rattle.rb_grammar.specs.Faults.{line_at}
use Rattle.rb_grammar.specs.Form.{Leaf, string, alias, binary, int, ints, Body, table, array, Entries, no_entries}
use Rattle.rb_grammar.specs.Form.{entry, Elements, Head, has_no_fallback}
use Rattle.rb_grammar.specs.Good.{AreElementTexts, LeafSpells, Spells}
use Rattle.rb_grammar.specs.Reading.{Stop, stop, Read, ◌>>=◌, Inner, Word, string_type, alias_type, binary_type}
use Rattle.rb_grammar.specs.Reading.{int_type, ints_type, table_type, array_type}
use Rattle.rb_grammar.specs.Reading.{maybe_at, anything, checked_at, numbers, body}
use Rattle.rb_grammar.specs.Tests.{the_tests}

-- the error with its line where reading stops: the line of the first remaining token, or of the end
abbrev pub located : {A : Type 0} → ℕ → Result A Stop → Result A SourceFault
located end (Ok x) = Ok x
located end (Err s) = Err (record { kind = s.kind; line = line_at end s.rest })

-- The returned value is what the grammar reads, and the same tokens remain; or the error is the one at which reading
-- stops, unless memory ran out.
abbrev pub Reads : {X Y : Type 0} → (X → Y → Type 0) → ℕ → Result X SourceFault → List Token → Read Y → Type 0
Reads {X} {Y} SeenAs end (Ok x) rest read = (y : Y) × (read ≡ Ok (y, rest)) × SeenAs x y
Reads {X} {Y} SeenAs end (Err e) rest read = e.kind ≢ Memory → located end read ≡ Err e

-- the reader of the values inside a body, which contain others to at most this depth
abbrev pub inner_at : ℕ → Inner
inner_at depth = record { room = nat_lt 0 depth; reads = body the_tests depth }

-- a read value, converted
abbrev pub made : {A B : Type 0} → (A → B) → Read A → Read B
made make read = read >>= λ x. Ok (make x.0, x.1)

-- the content of a body of a type without children
abbrev pub leaf_at : Word → List Token → Read Leaf
leaf_at string_type ts = made string (maybe_at BadHex anything ts)
leaf_at alias_type ts = made alias (maybe_at BadHex anything ts)
leaf_at (binary_type long) ts = made (binary long) (maybe_at BadHex the_tests.is_hex ts)
leaf_at (int_type long) ts = made (int long) (checked_at BadInt the_tests.is_int ts)
leaf_at ints_type ts = made ints (numbers the_tests.is_element (suc (length ts)) ts)
leaf_at table_type ts = Err (stop Unexpected ts)
leaf_at array_type ts = Err (stop Unexpected ts)

-- ---- how contracts see trees and lists

abbrev pub IsLeafTree : Tree → Leaf → Type 0
IsLeafTree t l = LeafSpells l (view_of t)

abbrev pub IsBodyTree : Tree → Body → Type 0
IsBodyTree t b = Spells b (view_of t)

abbrev pub IsTableTree : Tree → Entries → Type 0
IsTableTree t es = Spells (table es) (view_of t)

abbrev pub IsArrayTree : Tree → Elements → Type 0
IsArrayTree t xs = Spells (array xs) (view_of t)

abbrev pub AreNumbers : List ℤ → List (List ℕ × Bool) → Type 0
AreNumbers zs ns = AreElementTexts ns zs

-- each entry's key and tree, in the order of the text
abbrev pub AreEntries : List (List ℕ × Tree) → Entries → Type 0
AreEntries [] no_entries = Unit {0}
AreEntries [] (entry k b c es) = ⊥
AreEntries (p ∷ ps) no_entries = ⊥
AreEntries (p ∷ ps) (entry k b c es) = (p.0 ≡ k) × IsBodyTree p.1 b × AreEntries ps es

-- whether the head of a bundle turns fallback off
abbrev pub IsFlag : Bool → Head → Type 0
IsFlag flag head = flag ≡ has_no_fallback head
