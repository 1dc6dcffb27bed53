use Rattle.std.proofs.Common.{◌∙◌, ap, min}
use Rattle.std.specs.List.{sum_by}
use Rattle.rb_packages.specs.Release.{Drafted}
use Rattle.rb_packages.proofs.Drafts.{lens_to}
use Rattle.rb_packages.proofs.draft.Draft.usage.Goals as goal

pub returns-clause-bytes : goal.returns-clause-bytes
returns-clause-bytes c =
    c.sum.ensures
    ∙ lens_to 18446744073709551615 c.self.inside.lens.entries
    ∙ ap (λ (draft : Drafted). min (sum_by (λ e. e.1) draft.sizes) 18446744073709551615) c.self.view_is
