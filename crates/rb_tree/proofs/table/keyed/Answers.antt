use Rattle.std.proofs.Common.{sym, ◌∙◌, rules}
use Rattle.std.proofs.lemmas.Iterator.Adapters.{YieldsList-from_vec}
use Rattle.std.proofs.lemmas.Iterator.Consumers.{YieldsList-end}
use Rattle.std.proofs.lemmas.List.{map-id}
use Rattle.rb_tree.proofs.table.keyed.Goals as goal

pub returns : goal.returns
returns c =
    let gives = c.into_iter-key-iterator.ensures.into_iter_gives in
    let road = YieldsList-from_vec {s = c.into_iter-key-iterator.result} c.args.pairs.items gives.0 (gives.1 ∙ c.args.pairs.ok.0) in
    let all = YieldsList-end road c.loop-key.yielded c.loop-key.key-iterator c.loop-key.yielded_by c.next.result c.next.new.self (search rules)
    c.next.ensures.steps in
    c.loop-key.invariant.2 ∙ sym (map-id c.loop-key.yielded) ∙ all.0
