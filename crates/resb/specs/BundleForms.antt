-- Defines the forms of a prepared bundle in C, a rule of this project: its file, its text (rb_printer), and JSON (rb_json).
use Rattle.std.specs.Prelude.{◌≡◌, ◌⊎◌, ℕ, true, false, List, Option, MatchOption}
use Rattle.serde_json.specs.Written.{compact_text}
use Rattle.rb_tree.specs.Resource.{Resource}
use Rattle.rb_tree.specs.SourceTree.{SourceTree}
use Rattle.rb_format.specs.File.{Denotes}
use Rattle.rb_json.specs.Printed.{is_within}
use Rattle.rb_json.specs.Value.{value_of}
use Rattle.rb_json_reader.specs.Text.{IsJsonOf}
use Rattle.rb_printer.specs.Whole.{IsBundleText}
use Rattle.resb.specs.Copied.{CopiesBytes}

-- a copy of a text of the bundle under a name; or the number of a text that would be too long, where how long it is is left open
abbrev pub CopiesTextOf : Option (List ℕ) → SourceTree → ℕ → ℕ → ℕ → List ℕ → Type 0
CopiesTextOf name source n count room copy = MatchOption name (n ≡ 13) (λ own. (n ≡ 44)
    ⊎ ((text : List ℕ) × IsBundleText text own source × CopiesBytes text n count room copy))

-- a copy of a tree as JSON; or the number of a tree that weighs too much
abbrev pub CopiesJson : Resource → ℕ → ℕ → ℕ → List ℕ → Type 0
CopiesJson tree n count room copy = ((n ≡ 20) × (is_within tree ≡ false))
    ⊎ ((is_within tree ≡ true) × CopiesBytes (compact_text (value_of tree)) n count room copy)

-- a file of the tree of which the bytes are the JSON
abbrev pub IsFileOfJson : List ℕ → List ℕ → Type 0
IsFileOfJson json file = (t : Resource) × IsJsonOf json t × Denotes file (record { tree = t; no_fallback = false })
