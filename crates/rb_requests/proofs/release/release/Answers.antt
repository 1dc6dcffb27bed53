use Rattle.std.proofs.Common.{◌≡◌, ◌∙◌, ℕ, List, Ok, sym, subst}
use Rattle.std.proofs.lemmas.Result.{err_from_is_err_and}
use Rattle.rb_packages.specs.App.{app_of}
use Rattle.rb_packages.specs.Packages.{files_of}
use Rattle.rb_packages.specs.Release.{IsDraftOf}
use Rattle.rb_requests.proofs.Releasing.{draft_begun, releases, unreleased_first, unreleased_sum}
use Rattle.rb_requests.proofs.release.release.Goals as goal

pub returns-in_err-draft_all-clause-refused : goal.returns-in_err-draft_all-clause-refused
returns-in_err-draft_all-clause-refused c =
    let p = err_from_is_err_and c.from_residual.result c.from_residual.ensures.1 in
    let failed = c.in_err-draft_all in
    let begun = c.in-Ok-draft.ensures in
    let files = files_of c.in-Ok.name c.args.engine.now.packages in
    rw (p.1, p.2) (λ cs e. unreleased_first c.args.limits.now c.args.engine.now c.args.app.now c.in-Ok.name (app_of c.args.app.now) cs
    failed.field-0.0 (sym c.in-Ok.ensures)
    (failed.ensures.edits files cs e begun.none (draft_begun files c.in-Ok-draft.draft begun.none begun.sizes)))

pub returns-in_err-judge_sum-clause-refused : goal.returns-in_err-judge_sum-clause-refused
returns-in_err-judge_sum-clause-refused c =
    let residual = c.from_residual-in_err-judge_sum in
    let p = err_from_is_err_and residual.result residual.ensures.1 in
    let draft = c.draft_all.new.draft in
    let begun = c.in-Ok-draft.ensures in
    let named = c.draft_all.ensures.app ∙ begun.app in
    let own : app_of c.args.app.now ≡ Ok draft.app = subst (λ (a : List ℕ). app_of c.args.app.now ≡ Ok a) (sym named) (sym c.in-Ok.ensures) in
    let files = files_of draft.app c.args.engine.now.packages in
    let start : IsDraftOf files c.in-Ok-draft.draft =
    subst (λ (a : List ℕ). IsDraftOf (files_of a c.args.engine.now.packages) c.in-Ok-draft.draft) (sym named)
    (draft_begun (files_of c.in-Ok.name c.args.engine.now.packages) c.in-Ok-draft.draft begun.none begun.sizes) in
    let failed = c.in_err-judge_sum in
    rw (p.1, p.2) (λ cs e.
    let all = c.in_ok-draft_all.ensures.edits files cs e begun.none start in
    unreleased_sum c.args.limits.now c.args.engine.now c.args.app.now draft.app (app_of c.args.app.now) cs
    failed.field-0.0 draft.edits own all.0 (failed.ensures.refused all.1))

pub returns-in-Ok-release-clause-released : goal.returns-in-Ok-release-clause-released
returns-in-Ok-release-clause-released c cs e =
    let draft = c.draft_all.new.draft in
    let begun = c.in-Ok-draft.ensures in
    let named = c.draft_all.ensures.app ∙ begun.app in
    let own : app_of c.args.app.now ≡ Ok draft.app = subst (λ (a : List ℕ). app_of c.args.app.now ≡ Ok a) (sym named) (sym c.in-Ok.ensures) in
    let files = files_of draft.app c.args.engine.now.packages in
    let start : IsDraftOf files c.in-Ok-draft.draft =
    subst (λ (a : List ℕ). IsDraftOf (files_of a c.args.engine.now.packages) c.in-Ok-draft.draft) (sym named)
    (draft_begun (files_of c.in-Ok.name c.args.engine.now.packages) c.in-Ok-draft.draft begun.none begun.sizes) in
    let all = c.in_ok-draft_all.ensures.edits files cs e begun.none start in
    let made = c.in-Ok-release.ensures in
    releases c.args.limits.now c.args.engine.now c.release.new.self c.args.app.now cs draft own all.0 all.2 (c.in_ok-judge_sum.ensures.free all.1)
    made.files made.others made.parents made.version
