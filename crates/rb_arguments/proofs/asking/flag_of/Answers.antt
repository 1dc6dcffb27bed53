use Rattle.std.proofs.Common.{◌∙◌}
use Rattle.clap.specs.Words.{found_of, rows_of}
use Rattle.clap.proofs.WalkLemmas.{one_text-rows}
use Rattle.rb_arguments.proofs.RowLemmas.{flag_reads}
use Rattle.rb_arguments.proofs.asking.flag_of.Goals as goal

pub returns : goal.returns
returns c =
    let found = found_of c.args.given.now in
    let same = one_text-rows found c.args.id.now in
    let get = c.get_flag.ensures in
    flag_reads (rows_of found) c.args.id.now c.get_flag.result (λ e. get.none (same ∙ e)) (λ e. get.value (same ∙ e))
    (λ e. get.other (same ∙ e))
