use Rattle.std.proofs.lemmas.Result.{on_ok_weaker}
use Rattle.rb_printer.proofs.Puts.{bare_put, cited_put}
use Rattle.rb_printer.proofs.text.put_name.Goals as goal

pub returns-then-is_name : goal.returns-then-is_name
returns-then-is_name c = on_ok_weaker c.put_units.result (λ a. bare_put c.args.units.now _ _ c.is_name.result c.is_name.ensures c.if-is_name.true a) c.put_units.ensures

pub returns : goal.returns
returns c =
    on_ok_weaker c.put-2.result (λ a. cited_put c.args.units.now _ _ _ _ c.is_name.result c.is_name.ensures c.if-is_name.false c.in_ok-put.ensures c.in_ok-put_units.ensures a)
    c.put-2.ensures
