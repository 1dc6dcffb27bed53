-- Defines good bundle texts, after the bundle syntax of ICU's genrb, and the errors of all others. A text is good if it
-- is short, its characters form tokens, and these spell a bundle within the limits of height and weight.
use Rattle.std.specs.Prelude.{◌≡◌, ◌≤◌, ◌==◌, ◌⊎◌, ℕ, suc, List, length, count_by}
use Rattle.rb_lexer.specs.declared.token.Token.{Token}
use Rattle.rb_lexer.specs.declared.fault.SourceKind.{SourceKind}
use Rattle.rb_lexer.specs.declared.fault.SourceKind.TheVariants.{Memory}
use Rattle.rb_lexer.specs.declared.fault.SourceFault.{SourceFault}
use Rattle.rb_lexer.specs.Tokens.{HasTokens}
use Rattle.rb_lexer.specs.Faults.{IsSourceFault}
use Rattle.rb_tree.specs.SourceTree.{SourceTree}
use Rattle.rb_tree.specs.View.{view_of}
use Rattle.rb_grammar.specs.Form.{marks}
use Rattle.rb_grammar.specs.Good.{IsGoodWithin}
use Rattle.rb_grammar.specs.Faults as grammar
use Rattle.rb_parser.specs.declared.source.Source.{Source}
use Rattle.rb_lexer.specs.Limits.{source_limit}
use Rattle.rb_tree.specs.Limits.{height_limit}

-- the bundle of a source: its tree and its flag
abbrev pub source_tree : Source → SourceTree
source_tree s = record { tree = view_of s.tree; no_fallback = s.no_fallback }

-- The source is UTF-8 and the text of a bundle of this name, tree and flag, its table has at most this many levels, and
-- its weight is within the limit of a bundle.
pub record IsGoodSourceWithin (levels : ℕ) (bytes : List ℕ) (name : List ℕ) (source : SourceTree) : Type 0 where
  pub short : length bytes ≤ source_limit
  pub tokens : List Token
  pub cut : HasTokens bytes tokens
  pub good : IsGoodWithin levels (marks tokens) name source

-- a good source: within 64 levels
abbrev pub IsGoodSource : List ℕ → List ℕ → SourceTree → Type 0
IsGoodSource bytes name source = IsGoodSourceWithin height_limit bytes name source

-- the line in which the source ends: 1 and all its line feeds
abbrev pub last_line : List ℕ → ℕ
last_line bytes = suc (count_by (λ b. b == 0x0A) bytes)

-- The source has tokens, and these have an error in this line.
pub record HasTokenFault (bytes : List ℕ) (kind : SourceKind) (line : ℕ) : Type 0 where
  pub short : length bytes ≤ source_limit
  pub tokens : List Token
  pub cut : HasTokens bytes tokens
  pub fault : grammar.IsFault tokens (last_line bytes) kind line

-- The source is no text or has a lexical error, and this is the one that the lexer's definition selects; or its tokens
-- have the error.
abbrev pub IsFault : List ℕ → SourceKind → ℕ → Type 0
IsFault bytes kind line = IsSourceFault bytes kind line ⊎ HasTokenFault bytes kind line

-- The reason why a source is rejected: out of memory, with line 0, or an error in it.
abbrev pub IsRefusal : List ℕ → SourceFault → Type 0
IsRefusal bytes e = ((e.kind ≡ Memory) × (e.line ≡ 0)) ⊎ IsFault bytes e.kind e.line
