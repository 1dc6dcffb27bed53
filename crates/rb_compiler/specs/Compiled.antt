-- Defines the file that a bundle text compiles to, after ICU's `genrb`.
use Rattle.std.specs.Prelude.{ℕ, List}
use Rattle.rb_tree.specs.SourceTree.{SourceTree}
use Rattle.rb_parser.specs.Source.{IsGoodSource}
use Rattle.rb_format.specs.File.{Denotes}
use Rattle.rb_writer.specs.Written.{IsWriterFile}

-- The text is a good source, of any name, the file is the one that the writer makes of its bundle, and it denotes that
-- bundle.
pub record IsCompiled (text file : List ℕ) : Type 0 where
  pub name : List ℕ
  pub source : SourceTree
  pub good : IsGoodSource text name source
  pub denotes : Denotes file source
  pub bytes : IsWriterFile source.tree source.no_fallback file
