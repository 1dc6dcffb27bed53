-- Defines the findings of a text in C, a rule of this project.
use Rattle.std.specs.Prelude.{◌≡◌, ℕ, List, All}
use Rattle.rb_lint.specs.Warnings.{AreInOrder, AreWithin, IsCompiled, line_count}
use Rattle.rb_lint.specs.declared.finding.Finding.{Finding as Found}
use Rattle.rb_lint.specs.declared.finding.Severity.TheVariants.{Warning}
use Rattle.resb.specs.Origins.{IsNameIn}
use Rattle.resb.specs.declared.lint.Finding.{Finding}

-- a field has a text with a zero byte after it
abbrev pub HasText : List ℕ → Type 0
HasText field = (text : List ℕ) × IsNameIn field text

abbrev pub HasTexts : Finding → Type 0
HasTexts f = HasText f.rule × HasText f.message

-- a finding of `resb lint` in C
pub record Shows (found : Found) (f : Finding) : Type 0 where
  pub line : f.line ≡ found.line
  pub column : f.column ≡ found.column
  pub error : f.error ≡ 0 → found.severity ≡ Warning
  pub texts : HasTexts f

-- findings at lines of a text, in its order; and if none of them is an error, the text is compiled
pub record AreFindings (text : List ℕ) (fs : List Finding) : Type 0 where
  pub order : AreInOrder (λ f. f.line) fs
  pub within : AreWithin (line_count text) (λ f. f.line) fs
  pub texts : All HasTexts fs
  pub error : All (λ f. f.error ≡ 0) fs → IsCompiled text
