use Rattle.std.proofs.Common.{◌≤◌, length, take, sym, ap, ◌∙◌, arith}
use Rattle.std.proofs.lemmas.List.{length-take-le}
use Rattle.rb_locales.specs.declared.limits.TheConstants.{NAME_LIMIT}
use Rattle.rb_locales.specs.Locale.{shorter}
use Rattle.rb_locales.proofs.Fields.{shorter_fields, shorter_is}
use Rattle.rb_locales.proofs.Canonical.{shorter_none, none_from}
use Rattle.rb_locales.proofs.name.Name.shorter.Goals as goal

pub invariant_of-result : goal.invariant_of-result
invariant_of-result c =
    let n = take c.self.inside.len c.self.inside.bytes in
    let fits = c.self.invariant.short.fits in
    let l : length n ≤ NAME_LIMIT = omega (arith, length-take-le c.self.inside.len c.self.inside.bytes (omega arith)) in
    shorter_fields n c.put_front.new.field c.in-Some.end c.in-Some.ensures l c.self.invariant.canonical c.put_front.ensures

pub returns-in-None : goal.returns-in-None
returns-in-None c = sym (ap shorter (sym c.self.view_is) ∙ shorter_none (take c.self.inside.len c.self.inside.bytes) (none_from _ c.in-None.ensures))

pub returns : goal.returns
returns c =
    shorter_is (take c.self.inside.len c.self.inside.bytes) c.put_front.new.field c.in-Some.end c.in-Some.ensures c.put_front.ensures
    ∙ ap shorter c.self.view_is
