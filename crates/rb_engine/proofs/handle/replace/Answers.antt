use Rattle.std.proofs.Common.{◌≡◌, ℕ, List, [], ◌∷◌, Some, set, refl, ap, ◌∙◌, arith}
use Rattle.std.specs.Map.{lookup}
use Rattle.std.specs.Str.{bytes_eq}
use Rattle.rb_format.specs.File.{source_tree_of}
use Rattle.rb_packages.specs.Packages.{Files, files_of}
use Rattle.rb_packages.specs.Usage.{more_apps}
use Rattle.rb_engine.specs.inner.LastChanges.{group_of}
use Rattle.rb_engine.proofs.StepLemmas.{replaces, not_replaced}
use Rattle.rb_engine.proofs.handle.replace.Goals as goal

pub returns-in-Ok-clause-step : goal.returns-in-Ok-clause-step
returns-in-Ok-clause-step c app locale payload (h, k) =
    replaces app locale payload c.args.place.now c.args.bundle (source_tree_of c.in-Ok.field-0) c.args.packages.now c.replace.new.self h k
    c.in-Ok.ensures.old c.in-Ok.ensures.replaced c.in-Ok.ensures.others

pub returns-clause-step : goal.returns-clause-step
returns-clause-step c app locale payload (h, k) =
    rw c.in-Err.ensures.unchanged (not_replaced app locale payload c.args.place.now c.args.bundle c.args.packages.now h k c.in-Err.ensures.absent)

-- if a file is there, the application has bundles
no_more : (name file : List ℕ) (files : Files) → lookup (bytes_eq name) files ≡ Some file → more_apps files ≡ 0
no_more name file [] there = absurd cc
no_more name file (f ∷ fs) there = refl

pub returns-in-Ok-clause-apps : goal.returns-in-Ok-clause-apps
returns-in-Ok-clause-apps c done =
    let place = c.args.place.now in
    let none = no_more place.name c.in-Ok.field-0 (files_of place.app c.args.packages.now) c.in-Ok.ensures.file in
    omega (arith, none, c.replace.ensures.apps)

pub returns-in-Ok-clause-change : goal.returns-in-Ok-clause-change
returns-in-Ok-clause-change c done = record {
  app = c.args.place.now.app;
  others = c.replace.ensures.others;
  latest = c.rise.ensures.latest;
  groups = c.rise.ensures.groups ∙ ap (λ a. set c.args.versions.now.groups (group_of a) c.rise.new.self.latest) c.as_bytes.ensures;
}
