use Rattle.std.proofs.Common.{List, ℕ, subst, sym}
use Rattle.rb_format.specs.File.{source_tree_of}
use Rattle.rb_parser.specs.Source.{IsGoodSource}
use Rattle.tests_files.proofs.Read.{good}
use Rattle.tests_files.proofs.laws.round_trip.Goals as goal

pub returns : goal.returns
returns c =
    let name = c.args.name.now in
    let source = source_tree_of c.args.bundle.now in
    c.parse.ensures.only name source (subst (λ (bytes : List ℕ). IsGoodSource bytes name source) (sym c.deref.ensures.value)
    (good c.in_ok-text.text.items name source c.in_ok-text.ensures.text))
