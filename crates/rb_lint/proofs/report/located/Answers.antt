use Rattle.std.proofs.Common.{◌≡◌, ◌++◌, ◌∷◌, [], ◌∙◌, ap, sym, length, arith, rules, IsSome}
use Rattle.std.proofs.lemmas.List.{append_assoc, length_push}
use Rattle.rb_lint.specs.declared.finding.Severity.TheVariants as Severities
use Rattle.rb_lint.proofs.Ordered.{one_more, all_more}
use Rattle.rb_lint.proofs.report.located.Goals as goal

pub loop-one-preserved : goal.loop-one-preserved
loop-one-preserved c =
    let i = c.loop-one.invariant in
    let b = c.line_after-line.ensures in
    let k = one_more (λ f. f.line) c.line_count-lines.result c.loop-one.last c.line_after-line.result c.loop-one.findings.items c.push.new.self.items
    c.finding_at.result c.in_ok-push.ensures.items (sym c.finding_at.ensures.line) i.order i.within i.before i.first b.0 b.1 in
    let steps = c.in-Some.ensures.steps in
    let more = ap length c.in_ok-push.ensures.items in
    let findings = length_push c.loop-one.findings.items c.finding_at.result in
    let yielded = length_push c.loop-one.yielded c.in-Some.one in
    let count = i.count in
    record {
      next = search rules;
      finite = search rules;
      order = k.0;
      within = k.1;
      before = k.2;
      first = search rules;
      inside = b.1;
      split = i.split ∙ ap (λ r. c.loop-one.yielded ++ r) steps.0
          ∙ sym (append_assoc c.loop-one.yielded (c.in-Some.one ∷ []) c.next.new.self.rest.items);
      count = omega arith;
      error = all_more (λ f. f.severity ≡ Severities.Warning) (λ f. IsSome f.rule) c.loop-one.findings.items c.push.new.self.items c.finding_at.result
          c.loop-one.yielded c.in-Some.one c.in_ok-push.ensures.items i.error c.finding_at.ensures.error;
    }
