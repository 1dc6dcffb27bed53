use Rattle.std.proofs.Common.{◌∙◌, ap, refl, [], unwrap_or}
use Rattle.std.proofs.lemmas.Result.{IfOk-weaker}
use Rattle.clap.specs.Words.{found_of}
use Rattle.clap.specs.Walk.{texts}
use Rattle.clap.proofs.WalkLemmas.{raw_values-rows}
use Rattle.rb_arguments.proofs.RowLemmas.{words_read}
use Rattle.rb_arguments.proofs.asking.words_of.Goals as goal

pub returns : goal.returns
returns c =
    let same = c.get_strs.ensures ∙ raw_values-rows (found_of c.args.given.now) c.args.id.now in
    let read = ap (λ words. texts words.now) c.unwrap_or.ensures ∙ words_read c.get_strs.result _ refl in
    let whole = read ∙ ap (λ all. unwrap_or all []) same in
    IfOk-weaker c.to_vec.result _ _ (λ words are. ap texts (are (λ x y e. e)) ∙ whole)
    c.to_vec.ensures.items_if_clones_equal
