use Rattle.std.proofs.Common.{[], ◌∷◌, ◌++◌, Option, Bool, subst, sym}
use Rattle.std.proofs.lemmas.Result.{on_ok_weaker}
use Rattle.serde_json.specs.Data.{item}
use Rattle.rb_requests.specs.declared.change_list.LineChange.{LineChange}
use Rattle.rb_requests.specs.inner.ChangesRead.{AreSeen, IsChange}
use Rattle.rb_requests.proofs.ChangesFound.{seen_more, seen_none}
use Rattle.rb_requests.proofs.change_list.ChangesSoFar.add.Goals as goal

pub returns-in-Some : goal.returns-in-Some
returns-in-Some c before d is (all, kept, seen) =
    let change = c.in-Some.change in
    let flag = c.args.self.now.are_changes in
    let one = subst (λ (o : Option LineChange). IsChange o d) c.in-Some.is is in
    let more = seen_more flag all before change d one seen in
    let now = subst (λ (b : Bool). AreSeen b (all ++ change ∷ []) (λ ds. before (item d ds))) (sym c.keep.ensures.same) more in
    on_ok_weaker c.keep.result (λ k. (all ++ change ∷ [], k, now)) (c.keep.ensures.kept all kept)

pub returns-in-None : goal.returns-in-None
returns-in-None c before d is (all, kept, seen) =
    let none = subst (λ (o : Option LineChange). IsChange o d) c.in-None.is is in
    (all, kept, seen_none c.args.self.now.are_changes all before d none seen)
