-- Proves that a text compiles to at most one file.
use Rattle.std.proofs.Common.{◌≡◌, ℕ, List, sym, subst}
use Rattle.rb_tree.specs.SourceTree.{SourceTree}
use Rattle.rb_parser.proofs.Wholes.{good_one}
use Rattle.rb_writer.specs.Written.{IsWriterFile}
use Rattle.rb_writer.proofs.Sole.{one_file}
use Rattle.rb_compiler.specs.Compiled.{IsCompiled}

pub one_compiled : (text file other : List ℕ) → IsCompiled text file → IsCompiled text other → file ≡ other
one_compiled text file other f g =
    let same : f.source ≡ g.source = (good_one text f.name g.name f.source g.source f.good g.good).1 in
    let there : IsWriterFile f.source.tree f.source.no_fallback other =
    subst (λ (s : SourceTree). IsWriterFile s.tree s.no_fallback other) (sym same) g.bytes in
    one_file f.source.tree f.source.no_fallback file other f.bytes there
