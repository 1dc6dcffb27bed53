use Rattle.std.proofs.Common.{refl, sym, ◌∙◌}
use Rattle.rb_packages.proofs.owned.remove.Goals as goal

pub returns-in-Some-clause-count : goal.returns-in-Some-clause-count
returns-in-Some-clause-count c =
    rw c.remove_if_empty.ensures.own (sym c.remove_bundle.ensures.count ∙ c.remove_if_empty.ensures.count (c.in-Some.ensures.there refl))
