use Rattle.std.proofs.Common.{◌∙◌, ap, refl}
use Rattle.rb_requests.specs.Within.{error_line}
use Rattle.rb_requests.proofs.Changing.{refused_line}
use Rattle.rb_requests.proofs.answer.tell_limited.Goals as goal

pub returns-in-Refused-clause-line : goal.returns-in-Refused-clause-line
returns-in-Refused-clause-line c =
    rw c.in-Refused.is (refl, c.in_ok-tell_word-in-Refused.ensures ∙ (ap error_line c.word.ensures ∙ refused_line c.args.limits.now c.args.replaced c.in-Refused.refusal))
