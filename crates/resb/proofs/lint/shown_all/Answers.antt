use Rattle.std.proofs.Common.{◌≡◌, ◌∙◌, ◌<◌, List, ap, get_or, length, subst}
use Rattle.rb_lint.specs.declared.finding.Finding.{Finding as Found}
use Rattle.resb.proofs.Findings.{shows_more}
use Rattle.resb.proofs.lint.shown_all.Goals as goal

pub loop-finding-preserved : goal.loop-finding-preserved
loop-finding-preserved c =
    let all = c.args.report.now.findings.items in
    let same = c.deref-finding-items.ensures.value in
    let i = c.loop-finding.finding-index in
    let one = c.finding-item.result in
    let inside : i < length all = subst (λ (fs : List Found). i < length fs) same c.loop-finding-test.true in
    let is : one ≡ get_or all i one = c.finding-item.is ∙ ap (λ (fs : List Found). get_or fs i one) same in
    shows_more all c.loop-finding.all.items c.push.new.self.items i one c.in_ok-shown.field-0 inside is c.in_ok-push.ensures.items
    c.loop-finding.invariant c.in_ok-shown.ensures
