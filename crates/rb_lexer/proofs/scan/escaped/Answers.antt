use Rattle.std.proofs.Common.{◌+◌, refl, ap}
use Rattle.std.specs.Str.{chars}
use Rattle.rb_lexer.proofs.Items.{escape_item, escape_stop}
use Rattle.rb_lexer.proofs.scan.escaped.Goals as goal

pub returns-in_default-clause-taken : goal.returns-in_default-clause-taken
returns-in_default-clause-taken g c = escape_stop _ c.in_default.ensures.taken _ refl (ap (λ n. n + 1) c.width.ensures.characters)

pub returns-clause-taken : goal.returns-clause-taken
returns-clause-taken g c =
    let w = c.in-Some.ensures.taken in
    let r = c.in_ok-rest.ensures.taken in
    (r.0, r.1, escape_item (chars c.args.after.now) c.in-Some.code _ _ _ w.1.0 w.1.1 w.1.2 r.2)
