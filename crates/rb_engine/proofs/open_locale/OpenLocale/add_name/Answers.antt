use Rattle.std.proofs.Common.{sym, ◌∙◌}
use Rattle.rb_packages.specs.Lent.{files_in}
use Rattle.rb_engine.proofs.Opening.{stop_has, stop_more, stop_not}
use Rattle.rb_engine.proofs.open_locale.OpenLocale.add_name.Goals as goal

pub returns-in-Some-clause-stops : goal.returns-in-Some-clause-stops
returns-in-Some-clause-stops c = λ ns is h.
    stop_more c.args.self.now c.add_stop.new.self (files_in c.args.own) ns c.args.name.now c.in-Some.index (sym is ∙ c.if-not-counts.false)
    c.in-Some.ensures.found c.add_stop.ensures.stops h

pub returns-in_default-clause-stops : goal.returns-in_default-clause-stops
returns-in_default-clause-stops c = λ ns is h.
    stop_not c.args.self.now (files_in c.args.own) ns c.args.name.now (stop_has (files_in c.args.own) c.args.name.now c.in_default.ensures.none) h
