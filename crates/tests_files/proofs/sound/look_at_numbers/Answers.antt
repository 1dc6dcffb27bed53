use Rattle.std.proofs.Common.{◌≤◌, arith, length}
use Rattle.rb_tree.specs.Parts.{numbers_of}
use Rattle.rb_tree.specs.View.{view_of}
use Rattle.rb_printer.specs.Sound.{IsNumber}
use Rattle.rb_printer.proofs.Puts.{number_fits}
use Rattle.rb_json.proofs.OfKinds.{as_many_numbers}
use Rattle.tests_files.proofs.Looks.{all_start, all_more, list_all}
use Rattle.tests_files.proofs.sound.look_at_numbers.Goals as goal

pub loop-i-init : goal.loop-i-init
loop-i-init c = all_start IsNumber (numbers_of (view_of c.args.tree.now))

pub loop-i-preserved : goal.loop-i-preserved
loop-i-preserved c =
    all_more IsNumber (numbers_of (view_of c.args.tree.now)) c.loop-i.i c.number.result c.loop-i.invariant c.number.ensures
    (number_fits c.number.result (record { sfits = c.number.type_inv }))

pub returns : goal.returns
returns c =
    let tree = view_of c.args.tree.now in
    let past : length (numbers_of tree) ≤ c.loop-i.i = omega (arith, as_many_numbers tree c.requires, c.len-i-end.ensures, c.loop-i-test.false) in
    list_all IsNumber (numbers_of tree) c.loop-i.i past c.loop-i.invariant
