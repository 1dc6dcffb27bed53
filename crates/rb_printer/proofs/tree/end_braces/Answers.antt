use Rattle.std.proofs.Common.{[], ◌∷◌, sym}
use Rattle.std.proofs.lemmas.Result.{on_ok_weaker}
use Rattle.rb_printer.specs.Sign.{right}
use Rattle.rb_printer.proofs.Growths.{adds_more}
use Rattle.rb_printer.proofs.Puts.{adds_as}
use Rattle.rb_printer.proofs.Splits.{indent_splits}
use Rattle.rb_printer.proofs.tree.end_braces.Goals as goal

pub returns : goal.returns
returns c =
    on_ok_weaker c.put_str.result (λ a. adds_as (adds_more c.in_ok-put_indent.ensures a) (sym ((indent_splits c.args.level).are (right ∷ [])))) c.put_str.ensures
