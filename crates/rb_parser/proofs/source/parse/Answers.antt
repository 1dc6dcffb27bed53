use Rattle.std.proofs.Common.{inr, sym, ◌∙◌}
use Rattle.std.proofs.lemmas.Bool.{false≢true}
use Rattle.rb_parser.proofs.Wholes.{heavy_if_unfit, fits_of_good}
use Rattle.rb_parser.proofs.source.parse.Goals as goal

pub returns-then-not-fits-clause-only : goal.returns-then-not-fits-clause-only
returns-then-not-fits-clause-only c = λ name source g.
    absurd (false≢true (sym c.if-not-fits.true ∙ c.fits.ensures.1
    (fits_of_good c.args.bytes.now c.in-Ok.source name source c.in-Ok.ensures.table (c.in-Ok.ensures.only name source g) g)))

pub returns-clause-found : goal.returns-clause-found
returns-clause-found c = c.in-Ok.ensures.found (c.fits.ensures.0 c.if-not-fits.false)

pub returns-then-not-fits-clause-fault : goal.returns-then-not-fits-clause-fault
returns-then-not-fits-clause-fault c =
    inr (c.in-Ok.ensures.heavy (heavy_if_unfit c.in-Ok.source c.in-Ok.ensures.table c.in-Ok.ensures.low
    (λ h. false≢true (sym c.if-not-fits.true ∙ c.fits.ensures.1 h))))
