-- Defines the lines of the findings of a text, and what it means that none is an error (rules of this project).
use Rattle.std.specs.Prelude.{ℕ, suc, ◌≡◌, ◌==◌, ◌≤◌, List, [], ◌∷◌, All, count_by}
use Rattle.rb_tree.specs.SourceTree.{SourceTree}
use Rattle.rb_parser.specs.Source.{IsGoodSource}
use Rattle.rb_lint.specs.declared.finding.Finding.{Finding}
use Rattle.rb_lint.specs.declared.finding.Severity.TheVariants.{Warning}

-- 1 and the line feeds: the line after the last line feed counts
abbrev pub line_count : List ℕ → ℕ
line_count bytes = suc (count_by (λ b. b == 0x0A) bytes)

-- The lines of the findings ascend; the first argument returns a finding's line.
abbrev pub AreInOrder : {A : Type 0} → (A → ℕ) → List A → Type 0
AreInOrder line [] = Unit {0}
AreInOrder line (w ∷ ws) = All (λ v. line w ≤ line v) ws × AreInOrder line ws

-- Each finding is at one of the first lines, this many.
abbrev pub AreWithin : {A : Type 0} → ℕ → (A → ℕ) → List A → Type 0
AreWithin lines line ws = All (λ w. (1 ≤ line w) × (line w ≤ lines)) ws

abbrev pub HasNoError : List Finding → Type 0
HasNoError fs = All (λ f. f.severity ≡ Warning) fs

-- The text is that of some bundle.
abbrev pub IsCompiled : List ℕ → Type 0
IsCompiled bytes = (name : List ℕ) × ((source : SourceTree) × IsGoodSource bytes name source)
