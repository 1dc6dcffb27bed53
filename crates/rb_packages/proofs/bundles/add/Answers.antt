use Rattle.std.proofs.Common.{◌∙◌, ◌++◌, ◌∷◌, [], ap}
use Rattle.indexmap.proofs.CallerLemmas.{insert_entry-new}
use Rattle.std.specs.Str.{bytes_eq}
use Rattle.rb_packages.proofs.bundles.add.Goals as goal

pub returns-in-Ok-clause-added : goal.returns-in-Ok-clause-added
returns-in-Ok-clause-added c = c.in-Ok.ensures.entries ∙ insert_entry-new bytes_eq c.args.bundles.now c.args.name c.of.result c.requires
    ∙ ap (λ b. c.args.bundles.now.entries ++ (c.args.name, b) ∷ []) c.of.ensures
