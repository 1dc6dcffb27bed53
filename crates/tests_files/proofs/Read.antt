-- The printed text is a good source.
use Rattle.std.proofs.Common.{List, ℕ}
use Rattle.rb_tree.specs.SourceTree.{SourceTree}
use Rattle.rb_parser.specs.Source.{IsGoodSource}
use Rattle.rb_printer.specs.Whole.{IsBundleText}

pub good : (bytes name : List ℕ) (source : SourceTree) → IsBundleText bytes name source → IsGoodSource bytes name source
good bytes name source t = record { short = t.lexed.0; tokens = t.tokens; cut = t.lexed.1; good = t.good }
