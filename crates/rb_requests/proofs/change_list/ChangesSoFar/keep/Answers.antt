use Rattle.std.proofs.Common.{◌<◌, ◌≤◌, List, [], ◌∷◌, ◌++◌, length, subst, sym, ap, ◌∙◌, arith}
use Rattle.rb_requests.specs.declared.change_list.LineChange.{LineChange}
use Rattle.rb_requests.proofs.ChangesFound.{take_push, take_full}
use Rattle.rb_requests.proofs.change_list.ChangesSoFar.keep.Goals as goal

pub returns-in_ok-push-clause-kept : goal.returns-in_ok-push-clause-kept
returns-in_ok-push-clause-kept c all kept =
    let few : length c.args.self.now.changes.items < 4097 = omega arith in
    let fits = subst (λ (xs : List LineChange). length xs < 4097) kept few in
    c.in_ok-push.ensures.items ∙ ap (λ xs. xs ++ c.args.change ∷ []) kept ∙ sym (take_push 4097 all c.args.change fits)

pub returns-else-len-lt-KEPT-clause-kept : goal.returns-else-len-lt-KEPT-clause-kept
returns-else-len-lt-KEPT-clause-kept c all kept =
    let many : 4097 ≤ length c.args.self.now.changes.items = omega arith in
    let full = subst (λ (xs : List LineChange). 4097 ≤ length xs) kept many in
    kept ∙ sym (take_full 4097 all (c.args.change ∷ []) full)
