-- Defines the error code of a text that isn't a locale name.
use Rattle.std.specs.Prelude.{ℕ, List, codes}

abbrev pub bad_locale : List ℕ
bad_locale = codes "BadLocale"
