-- Defines when two texts have the same tokens or spell the same bundle, and the errors of formatting.
use Rattle.std.specs.Prelude.{◌≡◌, ℕ, List}
use Rattle.rb_lexer.specs.declared.token.Token.{Token}
use Rattle.rb_lexer.specs.declared.fault.SourceFault.{SourceFault}
use Rattle.rb_lexer.specs.declared.fault.SourceKind.{SourceKind}
use Rattle.rb_lexer.specs.declared.fault.SourceKind.TheVariants as kinds
use Rattle.rb_lexer.specs.Tokens.{LexesTo}
use Rattle.rb_grammar.specs.Form.{marks}
use Rattle.rb_tree.specs.SourceTree.{SourceTree}
use Rattle.rb_parser.specs.Source.{IsGoodSource, IsRefusal}
use Rattle.rb_layout.specs.declared.fault.FormatFault.{FormatFault}
use Rattle.rb_layout.specs.declared.fault.FormatFault.TheVariants.{Refused, Memory}

-- Both texts have tokens, and these are equal apart from the bytes and the lines in which they are.
pub record SpellSame (old new : List ℕ) : Type 0 where
  pub old_tokens : List Token
  pub new_tokens : List Token
  pub old_lexes : LexesTo old old_tokens
  pub new_lexes : LexesTo new new_tokens
  pub same : marks old_tokens ≡ marks new_tokens

-- Both texts spell the same name, tree and flag.
pub record SpellOne (old new : List ℕ) : Type 0 where
  pub name : List ℕ
  pub source : SourceTree
  pub old_good : IsGoodSource old name source
  pub new_good : IsGoodSource new name source

-- the error of formatting for an error of a text
abbrev pub fault_by_kind : SourceKind → SourceFault → FormatFault
fault_by_kind kinds.Memory fault = Memory
fault_by_kind other fault = Refused fault

abbrev pub fault_of : SourceFault → FormatFault
fault_of fault = fault_by_kind fault.kind fault

-- an error that says nothing of the text itself
abbrev pub IsOwnFault : FormatFault → Type 0
IsOwnFault (Refused fault) = ⊥
IsOwnFault other = Unit {0}

-- The text is refused only for an error that its parser reports.
abbrev pub IsFaultOf : List ℕ → FormatFault → Type 0
IsFaultOf text (Refused fault) = IsRefusal text fault
IsFaultOf text other = Unit {0}
