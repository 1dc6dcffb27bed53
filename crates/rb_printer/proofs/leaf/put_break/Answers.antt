use Rattle.rb_printer.proofs.Loops.{break_put}
use Rattle.rb_printer.proofs.leaf.put_break.Goals as goal

pub returns-clause-adds : goal.returns-clause-adds
returns-clause-adds c =
    break_put _ _ _ _ c.args.remaining c.args.level c.if-remaining-gt0.false c.in_ok-put_str.ensures c.in_ok-put_indent.ensures c.in_ok-put.ensures
