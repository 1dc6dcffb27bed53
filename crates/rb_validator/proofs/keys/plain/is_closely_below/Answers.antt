use Rattle.std.proofs.Common.{ap}
use Rattle.std.specs.Ordering.{is_lt}
use Rattle.std.proofs.lemmas.List.{take_rest}
use Rattle.rb_validator.proofs.Comparing.{common, drop_common}
use Rattle.rb_validator.proofs.keys.plain.is_closely_below.Goals as goal

pub returns-clause-below : goal.returns-clause-below
returns-clause-below c =
    let a = c.args.a.now in let b = c.args.b.now in
    let same = ap is_lt (drop_common a b) in
    rw (c.is_lt.ensures, c.cmp.ensures, c.count_common-common.ensures.common, take_rest a (common a b), take_rest b (common a b)) same
