use Rattle.std.proofs.Common.{w32, ℕ, ℤ, ◌+◌, Bool, [], ap, subst, ◌∙◌, length}
use Rattle.std.proofs.lemmas.Int.{to_z-of_z}
use Rattle.std.specs.Prelude.{nat_lt}
use Rattle.std.specs.Fmt.{signed_decimal}
use mir.Val.{SFits}
use Rattle.rb_tree.specs.Parts.{numbers_of}
use Rattle.rb_printer.specs.Sign.{signs_chars}
use Rattle.rb_printer.specs.Page.{comma_if, pause, remaining_after, number_fits as fits_in}
use Rattle.rb_printer.specs.inner.Growth.{Adds}
use Rattle.rb_printer.proofs.Loops.{numbers_put, numbers_len}
use Rattle.rb_printer.proofs.Puts.{number_fits, number_read}
use Rattle.rb_printer.proofs.leaf.put_numbers_of.Goals as goal

pub loop-i-preserved : goal.loop-i-preserved
loop-i-preserved g c =
    let tree = g.N.Node.tree c.args.node in
    let w = c.args.wrapped in
    let level = c.args.level in
    let remaining = c.loop-i.remaining in
    let z = c.number.result in
    let fits : SFits w32 z = record { sfits = c.number.type_inv } in
    let more = subst (λ (n : ℕ). Adds c.put_wide.new.out.items c.put_comma.new.out.items (signs_chars (comma_if (nat_lt (c.loop-i.i + 1) n) [])))
    (c.len.ensures ∙ numbers_len tree c.requires.ints) c.in_ok-put_comma.ensures in
    let width = c.in_ok-width.ensures.width ∙ ap (λ (x : ℤ). length (signed_decimal x)) (to_z-of_z w32 z fits) in
    let left = c.remaining_after-remaining.ensures ∙ ap (λ (b : Bool). remaining_after b level remaining c.in_ok-width.width) c.number_fits-fits.ensures
    ∙ ap (λ (n : ℕ). remaining_after (fits_in w remaining) level remaining n) width in
    let front = subst (λ (b : Bool). Adds c.loop-i.out.items c.put_pause.new.out.items (signs_chars (pause b level []))) c.number_fits-fits.ensures
    c.in_ok-put_pause.ensures in
    numbers_put _ _ _ _ _ (numbers_of tree) w level remaining c.remaining_after-remaining.result c.loop-i.i z c.loop-i.invariant c.number.ensures
    (number_fits z fits) left front (number_read z fits c.in_ok-width.ensures.adds) more
