use Rattle.std.proofs.Common.{◌≡◌, Ok, set, refl, ap, sym, ◌∙◌}
use Rattle.rb_format.specs.File.{source_tree_of}
use Rattle.rb_engine.specs.Place.{place_of}
use Rattle.rb_engine.specs.declared.request.Reply.TheVariants as reply
use Rattle.rb_engine.specs.inner.LastChanges.{group_of}
use Rattle.rb_engine.proofs.StepLemmas.{removes, not_removed}
use Rattle.rb_engine.proofs.handle.remove.Goals as goal
use Rattle.rb_engine.proofs.handle.remove.Goals.{in-Ok-remove, in-Err-remove}

pub returns-clause-step : goal.returns-clause-step
returns-clause-step c =
    let app = c.args.app.now in
    let locale = c.args.locale.now in
    let p = c.in-Ok.place in
    let old = c.args.packages.now in
    let h : place_of app locale ≡ Ok p = cc in
    elim c.match-remove.branch [
      | in-Ok-remove w ↦ rw w.result-is
          (removes app locale p (source_tree_of w.in-Ok-remove.field-0) old c.remove.new.self h
          w.in-Ok-remove.ensures.old w.in-Ok-remove.ensures.removed w.in-Ok-remove.ensures.others)
      | in-Err-remove w ↦ rw (w.result-is, w.in-Err-remove.ensures.unchanged) (not_removed app locale p old h w.in-Err-remove.ensures.absent)
    ]

pub returns-clause-removed : goal.returns-clause-removed
returns-clause-removed c =
    let p = c.in-Ok.place in
    let old = c.args.packages.now in
    let h : place_of c.args.app.now c.args.locale.now ≡ Ok p = cc in
    rw h (elim c.match-remove.branch [
      | in-Ok-remove w ↦ record { own = λ done. w.in-Ok-remove.ensures.files; others = w.in-Ok-remove.ensures.others }
      | in-Err-remove w ↦ rw w.in-Err-remove.ensures.unchanged (record {
        own = λ done. let no : reply.Absent ≡ reply.Done = sym w.result-is ∙ done in cc;
        others = record { icudata = refl; icudata_bytes = refl; others = λ o n. refl; files = λ o n. refl };
      })
    ])

pub returns-clause-change : goal.returns-clause-change
returns-clause-change c done =
    elim c.match-remove.branch [
      | in-Ok-remove w ↦ rw w.versions-is (record {
        app = c.in-Ok.place.app;
        others = w.in-Ok-remove.ensures.others;
        latest = w.rise.ensures.latest;
        groups = w.rise.ensures.groups ∙ ap (λ a. set c.args.versions.now.groups (group_of a) w.rise.new.self.latest) w.as_bytes.ensures;
      })
      | in-Err-remove w ↦ let no : reply.Absent ≡ reply.Done = sym w.result-is ∙ done in absurd cc
    ]
