-- The bundles of a list by their names.
use Rattle.std.specs.Prelude.{ℕ, List, Option}
use Rattle.std.specs.List.{find}
use Rattle.std.specs.Str.{bytes_eq}
use Rattle.rb_console.specs.declared.given.Given.{Given}

-- the first bundle with this name
abbrev pub bundle_named : List ℕ → List Given → Option Given
bundle_named n bundles = find (λ b. bytes_eq b.name n) bundles
