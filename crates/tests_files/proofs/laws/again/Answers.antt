use Rattle.std.proofs.Common.{◌≡◌, List, ℕ, subst, sym}
use Rattle.rb_format.specs.File.{Denotes, source_tree_of}
use Rattle.rb_parser.specs.Source.{IsGoodSource, source_tree}
use Rattle.rb_tree.specs.SourceTree.{SourceTree}
use Rattle.rb_writer.specs.Written.{IsWriterFile}
use Rattle.rb_writer.proofs.Sole.{one_file}
use Rattle.tests_files.proofs.Read.{good}
use Rattle.tests_files.proofs.laws.again.Goals as goal

pub returns-in-Ok : goal.returns-in-Ok
returns-in-Ok c =
    let name = c.args.name.now in
    let bundle = source_tree_of c.args.bundle.now in
    let same : source_tree c.in-Ok.source ≡ bundle =
    (c.in-Ok.ensures.only name bundle (subst (λ (bytes : List ℕ). IsGoodSource bytes name bundle) (sym c.deref.ensures.value)
    (good c.in_ok-text.text.items name bundle c.in_ok-text.ensures.text))).1 in
    record {
      denotes = subst (Denotes c.in_ok-write-in-Ok.field-0.items) same c.in_ok-write-in-Ok.ensures.denotes;
      same = λ given.
          let written : IsWriterFile bundle.tree bundle.no_fallback c.in_ok-write-in-Ok.field-0.items =
          subst (λ (s : SourceTree). IsWriterFile s.tree s.no_fallback c.in_ok-write-in-Ok.field-0.items) same c.in_ok-write-in-Ok.ensures.bytes in
          one_file bundle.tree bundle.no_fallback c.in_ok-write-in-Ok.field-0.items c.args.bundle.now written given;
    }
