-- Defines the maximum number of bundles of an application, a rule of this project.
use Rattle.std.specs.Prelude.{ℕ}

abbrev pub bundle_limit : ℕ
bundle_limit = 4096
