-- For private contracts: defines when a function returns the bundle that the grammar's reading function gives.
use Rattle.std.specs.Prelude.{◌≡◌, ◌≢◌, ℕ, List, Result, Ok, Err}
use Rattle.rb_lexer.specs.declared.fault.SourceKind.TheVariants.{Memory}
use Rattle.rb_lexer.specs.declared.fault.SourceFault.{SourceFault}
use Rattle.rb_grammar.specs.Form.{Entries, Head}
use Rattle.rb_grammar.specs.Reading.{Stop}
use Rattle.rb_parser.specs.inner.Reads.{located, IsTableTree, IsFlag}
use Rattle.rb_parser.specs.declared.source.Source.{Source}

abbrev pub ReadsBundle : ℕ → Result Source SourceFault → Result (List ℕ × Head × Entries) Stop → Type 0
ReadsBundle end (Ok s) read = (head : Head) × (form : Entries) × (read ≡ Ok (s.name, head, form))
    × IsTableTree s.tree form × IsFlag s.no_fallback head
ReadsBundle end (Err e) read = e.kind ≢ Memory → located end read ≡ Err e
