use Rattle.std.proofs.Common.{Bool, Some, subst, ap, append-nil, ◌∙◌}
use Rattle.serde_json.specs.Data.{no_items}
use Rattle.rb_requests.specs.inner.ChangesRead.{AreSeen, changes_seen}
use Rattle.rb_requests.proofs.ChangesFound.{take_seen}
use Rattle.rb_requests.proofs.change_list.ChangesSoFar.into_changes.Goals as goal

pub returns-then-self : goal.returns-then-self
returns-then-self c before (all, kept, seen) =
    let s = subst (λ (b : Bool). AreSeen b all before) c.if-self.true seen in
    (s.0, s.2 no_items ∙ ap Some (append-nil s.0), ap changes_seen kept ∙ take_seen 4097 all s.0 s.1)
