use Rattle.std.proofs.Common.{None, refl, sym}
use Rattle.rb_packages.proofs.Drafts.{removal_drafted}
use Rattle.rb_requests.proofs.release.draft_removal.Goals as goal

pub returns-in-Ok-remove-clause-edits : goal.returns-in-Ok-remove-clause-edits
returns-in-Ok-remove-clause-edits c limits app =
    let name = c.in-Ok.name in
    let removed = c.in-Ok-remove.ensures in (
      (name, None),
      (name, sym c.in-Ok.ensures.name, removed.judged, refl),
      record {
        edits = removed.added;
        counts = λ files is. removal_drafted files c.args.draft.now c.remove.new.self name is removed.added removed.size;
      },
    )
