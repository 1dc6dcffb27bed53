use Rattle.std.proofs.Common.{arith}
use Rattle.std.proofs.lemmas.Slice.Zip.{AllZip-long}
use Rattle.resb.specs.Lint.{Shows}
use Rattle.resb.proofs.Findings.{are_findings}
use Rattle.resb.proofs.lint.findings_of.Goals as goal

pub returns-clause-findings : goal.returns-clause-findings
returns-clause-findings c =
    are_findings c.args.text.now c.in_ok-report.report.findings.items c.in_ok-findings.findings.items c.in_ok-findings.ensures
    c.in_ok-report.ensures.order c.in_ok-report.ensures.within c.in_ok-report.ensures.error

pub returns-clause-few : goal.returns-clause-few
returns-clause-few c =
    let long = AllZip-long Shows c.in_ok-report.report.findings.items c.in_ok-findings.findings.items c.in_ok-findings.ensures in
    omega (arith, long, c.in_ok-report.ensures.few)
