use Rattle.std.proofs.Common.{arith, lit<, rules}
use Rattle.std.proofs.lemmas.Grind.{common_steps}
use Rattle.std.proofs.lemmas.Str.Pattern.{split_once_first}
use Rattle.resb.proofs.alias_targets.at_slash.Goals as goal

pub returns-in-Some : goal.returns-in-Some
returns-in-Some c = let h = split_once_first 47 c.args.text.now c.split_once.result c.split_once.ensures.cases (lit< tt) in search rules

pub returns-in-None : goal.returns-in-None
returns-in-None c =
    let h = split_once_first 47 c.args.text.now c.split_once.result c.split_once.ensures.cases (lit< tt) in grind (arith, common_steps, h)
