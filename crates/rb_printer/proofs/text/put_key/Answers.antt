use Rattle.std.proofs.lemmas.Result.{on_ok_weaker}
use Rattle.rb_printer.proofs.Puts.{name_put, cited_put}
use Rattle.rb_printer.proofs.text.put_key.Goals as goal

pub returns-then-is_name_key : goal.returns-then-is_name_key
returns-then-is_name_key c = name_put c.extend_from_slice.result c.args.key.now _ _ c.is_name_key.result c.is_name_key.ensures c.if-is_name_key.true c.extend_from_slice.ensures.items

pub returns : goal.returns
returns c =
    on_ok_weaker c.put-2.result (λ a. cited_put c.args.key.now _ _ _ _ c.is_name_key.result c.is_name_key.ensures c.if-is_name_key.false c.in_ok-put.ensures c.in_ok-put_key_units.ensures a)
    c.put-2.ensures
