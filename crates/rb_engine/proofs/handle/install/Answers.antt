use Rattle.std.proofs.Common.{◌≢◌, set, ap, sym, ◌∙◌}
use Rattle.rb_packages.specs.Packages.{install_fault, list_of}
use Rattle.rb_packages.specs.declared.fault.PackFault.{PackFault}
use Rattle.rb_packages.specs.declared.fault.PackFault.TheVariants as pack
use Rattle.rb_engine.specs.Source.{not_installed_reply}
use Rattle.rb_engine.specs.inner.LastChanges.{group_of}
use Rattle.rb_engine.specs.declared.request.Reply.TheVariants.{Done}
use Rattle.rb_engine.proofs.StepLemmas.{done, not_installed, judged_err}
use Rattle.rb_engine.proofs.handle.install.Goals as goal
use Rattle.rb_engine.proofs.handle.install.Goals.{in-Ok, in-Err}

pub returns-clause-step : goal.returns-clause-step
returns-clause-step c app locale payload (h, k) =
    let p = c.args.place.now in
    let old = c.args.packages.now in
    elim c.match-install.branch [
      | in-Ok w ↦ rw w.result-is
          (done app locale payload p c.args.bundle old c.install.new.self h k w.in-Ok.ensures.judged w.in-Ok.ensures.installed w.in-Ok.ensures.others)
      | in-Err w ↦ rw (w.result-is, w.from.ensures, w.in-Err.ensures.unchanged)
          (not_installed app locale payload p c.args.bundle old w.in-Err.fault h k
          (judged_err (install_fault p.name (list_of p.app old)) (w.in-Err.fault, w.in-Err.field-0-1) c.install.result w.in-Err.is c.install.ensures.judged))
    ]

refuses : (e : PackFault) → not_installed_reply e ≢ Done
refuses pack.Twice h = absurd cc
refuses pack.Exists h = absurd cc
refuses pack.Full h = absurd cc
refuses pack.Memory h = absurd cc

pub returns-clause-files : goal.returns-clause-files
returns-clause-files c done =
    elim c.match-install.branch [
      | in-Ok w ↦ w.in-Ok.ensures.files
      | in-Err w ↦ absurd (refuses w.in-Err.fault (sym (w.result-is ∙ w.from.ensures) ∙ done))
    ]

pub returns-clause-unchanged : goal.returns-clause-unchanged
returns-clause-unchanged c other =
    elim c.match-install.branch [
      | in-Ok w ↦ absurd (other w.result-is)
      | in-Err w ↦ (w.in-Err.ensures.unchanged, w.versions-is)
    ]

pub returns-clause-apps : goal.returns-clause-apps
returns-clause-apps c done =
    elim c.match-install.branch [
      | in-Ok w ↦ w.in-Ok.ensures.apps
      | in-Err w ↦ absurd (refuses w.in-Err.fault (sym (w.result-is ∙ w.from.ensures) ∙ done))
    ]

pub returns-clause-change : goal.returns-clause-change
returns-clause-change c done =
    elim c.match-install.branch [
      | in-Ok w ↦ rw w.versions-is (record {
        app = c.args.place.now.app;
        others = c.install.ensures.others;
        latest = w.rise.ensures.latest;
        groups = w.rise.ensures.groups ∙ ap (λ a. set c.args.versions.now.groups (group_of a) w.rise.new.self.latest) w.as_bytes.ensures;
      })
      | in-Err w ↦ absurd (refuses w.in-Err.fault (sym (w.result-is ∙ w.from.ensures) ∙ done))
    ]
