use Rattle.std.proofs.Common.{◌∙◌, ap, ap₂, refl, [], ◌++◌, codes, unwrap_or}
use Rattle.std.proofs.lemmas.List.{map-append}
use Rattle.clap.specs.Words.{first_of, found_of, rows_of}
use Rattle.clap.specs.Walk.{texts}
use Rattle.clap.proofs.WalkLemmas.{raw_values-rows}
use Rattle.rb_arguments.specs.Rows.{alone}
use Rattle.rb_arguments.proofs.RowLemmas.{words_read}
use Rattle.rb_arguments.proofs.asking.files_of.Goals as goal

pub returns : goal.returns
returns c =
    let rows = rows_of (found_of c.args.given.now) in
    let same = c.get_strs.ensures ∙ raw_values-rows (found_of c.args.given.now) (codes "BUNDLE") in
    let words = ap (λ words. texts words.now) c.unwrap_or.ensures ∙ words_read c.get_strs.result _ refl
    ∙ ap (λ all. unwrap_or all []) same in
    let first = c.in_ok-push_given.ensures
    ∙ ap (λ xs. texts xs ++ alone (first_of (codes "FILE") rows)) c.new-files.ensures.items in
    let second = c.in_ok-push_given-2.ensures ∙ ap (λ xs. xs ++ alone (first_of (codes "PATH") rows)) first in
    let last = c.in_ok-extend_from_slice.ensures.items in
    ap texts last ∙ map-append (λ s. s.now) c.push_given-2.new.gathered.items c.unwrap_or.result.now
    ∙ ap₂ (λ xs ys. xs ++ ys) second words
