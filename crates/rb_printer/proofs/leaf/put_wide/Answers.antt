use Rattle.rb_printer.proofs.Puts.{number_wide, number_read}
use Rattle.rb_printer.proofs.leaf.put_wide.Goals as goal

pub returns-clause-width : goal.returns-clause-width
returns-clause-width c =
    number_wide _ _ _ _ c.args.number c.ranges.number (number_read c.args.number c.ranges.number c.in_ok-put_number.ensures) c.as_slice-start.ensures.value
    c.as_slice.ensures.value
