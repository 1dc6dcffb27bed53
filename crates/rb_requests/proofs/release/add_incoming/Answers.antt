use Rattle.std.proofs.Common.{◌∙◌, sym}
use Rattle.rb_packages.proofs.Drafts.{put_drafted}
use Rattle.rb_requests.proofs.release.add_incoming.Goals as goal

pub returns-in-Ok-2-clause-added : goal.returns-in-Ok-2-clause-added
returns-in-Ok-2-clause-added c =
    let over = rw c.len.ensures at c.is_over-is_long.ensures in
    let old = c.args.draft.now in
    let new = c.add_to.new.draft in
    let added = c.in-Ok-2.ensures in (
      sym over ∙ c.if-is_long.false,
      added.judged,
      record {
        edits = added.added;
        counts = λ files is. put_drafted files old new c.args.incoming.0.name c.args.incoming.1 is added.added added.size;
      },
    )
