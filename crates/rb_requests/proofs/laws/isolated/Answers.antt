use Rattle.rb_requests.proofs.LimitedLines.{limited_lines}
use Rattle.rb_requests.proofs.LineIsolation.{lines_isolated}
use Rattle.rb_requests.proofs.laws.isolated.Goals as goal

pub returns-clause-lines : goal.returns-clause-lines
returns-clause-lines c = lines_isolated c.isolated.ensures.one

pub returns-clause-within : goal.returns-clause-within
returns-clause-within c = limited_lines c.isolated.ensures.one
