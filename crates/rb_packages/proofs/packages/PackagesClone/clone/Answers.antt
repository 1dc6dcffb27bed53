use Rattle.std.proofs.Common.{sym, subst, ap₂, ◌∙◌}
use Rattle.std.proofs.lemmas.Map.Entries.{entries_from_clone}
use Rattle.rb_packages.specs.Packages.{Stored}
use Rattle.rb_packages.specs.Usage.{AllHaveBundles}
use Rattle.rb_packages.proofs.Clones.{cloned_rows}
use Rattle.rb_packages.proofs.packages.PackagesClone.clone.Goals as goal

pub invariant_of-result : goal.invariant_of-result
invariant_of-result c =
    let owned = cloned_rows c.self.inside.owned.entries c.in_ok-clone-2.field-0.entries c.in_ok-clone-2.ensures.cases in
    subst AllHaveBundles (sym owned) c.self.invariant

pub returns : goal.returns
returns c =
    let icudata = entries_from_clone _ _ (λ x y e. e) (λ x y e. e) c.self.inside.icudata.entries c.in_ok-clone.field-0.entries c.in_ok-clone.ensures.cases in
    let owned = cloned_rows c.self.inside.owned.entries c.in_ok-clone-2.field-0.entries c.in_ok-clone-2.ensures.cases in
    record { cases = ap₂ {C = Stored} (λ i o. record { icudata = i; owned = o }) icudata owned ∙ c.self.view_is }
