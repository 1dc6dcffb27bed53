-- Defines the explicit parents with which serving and a lookup start, this project's own rule.
use Rattle.std.specs.Prelude.{◌≡◌, ℕ, List, Option, Some, None}
use Rattle.rb_tree.specs.SourceTree.{SourceTree}
use Rattle.rb_parser.specs.Source.{IsGoodSource}
use Rattle.rb_parents.specs.Trail.{ParentsOf}
use Rattle.rb_parents.specs.Explicit.{GivesParents}
use Rattle.rb_console.specs.declared.cldr.TheConstants.{CLDR_PARENTS}
use Rattle.rb_asked.specs.declared.shared.ParentsSource.{ParentsSource}
use Rattle.rb_asked.specs.declared.shared.ParentsSource.TheVariants.{File, Cldr}

-- the explicit parents of a bundle text
pub record AreParentsIn (text : List ℕ) (parents : ParentsOf) : Type 0 where
  pub name : List ℕ
  pub source : SourceTree
  pub good : IsGoodSource text name source
  pub gives : GivesParents source.tree parents

-- without a place there are none; CLDR's are those of the text that the program has with it, and those of a file are
-- those of some text: the bytes that were read
abbrev pub AreParentsFor : Option ParentsSource → ParentsOf → Type 0
AreParentsFor None parents = (name : List ℕ) → parents name ≡ None
AreParentsFor (Some (File file)) parents = (text : List ℕ) × AreParentsIn text parents
AreParentsFor (Some Cldr) parents = AreParentsIn CLDR_PARENTS.now parents

-- an engine's explicit parents are these
abbrev pub HasParentsFor : Option ParentsSource → ParentsOf → Type 0
HasParentsFor place parents = (read : ParentsOf) × AreParentsFor place read × ((name : List ℕ) → parents name ≡ read name)
