use Rattle.std.proofs.Common.{◌∙◌}
use Rattle.std.specs.Str.Parse.{ExplainsUnsignedError, HasUnsignedDigitsIfOk, ParsesUnsigned}
use Rattle.clap.specs.Words.{found_of, rows_of}
use Rattle.clap.proofs.WalkLemmas.{one_text-rows}
use Rattle.rb_arguments.proofs.RowLemmas.{number_reads}
use Rattle.rb_arguments.proofs.asking.number_of.Goals as goal

pub returns : goal.returns
returns c =
    let found = found_of c.args.given.now in
    let same = one_text-rows found c.args.id.now in
    let get = c.get_one.ensures in
    number_reads (λ bs r. ParsesUnsigned 64 10 bs r × ExplainsUnsignedError 10 bs r × HasUnsignedDigitsIfOk bs r)
    (rows_of found) c.args.id.now c.get_one.result (λ t r gives. gives.0) (λ e. get.none (same ∙ e))
    (λ t e. get.value t (same ∙ e))
