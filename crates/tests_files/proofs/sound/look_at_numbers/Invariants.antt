use Rattle.rb_tree.specs.Parts.{numbers_of}
use Rattle.rb_tree.specs.View.{view_of}
use Rattle.rb_printer.specs.Sound.{IsNumber}
use Rattle.tests_files.proofs.Looks.{AllUpTo}
use Rattle.tests_files.proofs.sound.look_at_numbers.Given as goal

abbrev pub invariant-loop-i : goal.invariant-loop-i
invariant-loop-i l = AllUpTo IsNumber (numbers_of (view_of l.tree)) l.i
