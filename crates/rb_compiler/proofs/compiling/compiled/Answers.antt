use Rattle.std.proofs.lemmas.Bool.{false≢true}
use Rattle.rb_parser.proofs.Wholes.{fits_of_good}
use Rattle.rb_validator.specs.Visits.{HasVisits}
use Rattle.rb_compiler.proofs.Visiting.{file_visits}
use Rattle.rb_compiler.proofs.compiling.compiled.Goals as goal

pub returns-in-Ok-None-clause-only : goal.returns-in-Ok-None-clause-only
returns-in-Ok-None-clause-only c = λ name source g.
    let same = c.in-Ok.ensures.only name source g in
    let some = c.in-Ok-None.ensures.fits.1 (fits_of_good c.args.text.now c.in-Ok.source name source c.in-Ok.ensures.table same g) in
    absurd (false≢true (rw c.in-Ok-None.field-0-is at some))

pub returns-in-Ok-Some-clause-visits : goal.returns-in-Ok-Some-clause-visits
returns-in-Ok-Some-clause-visits c =
    let file = rw c.in-Ok-Some.field-0-is at c.in-Ok-Some.ensures.file in
    let count = rw c.in-Ok-Some.field-0-is at c.in-Ok-Some.ensures.containers in
    let visits : HasVisits c.in-Ok-Some.written.file.items c.in-Ok-Some.written.containers = rw count (file_visits _ _ _ file) in
    rw c.shrink_to_fit.ensures.items visits
