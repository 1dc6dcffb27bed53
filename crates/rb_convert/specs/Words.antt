-- The words of the errors: each is its variant's name.
use Rattle.std.specs.Prelude.{ℕ, List, codes}
use Rattle.rb_convert.specs.declared.value.ValueError.{ValueError}
use Rattle.rb_convert.specs.declared.value.ValueError.TheVariants as value

abbrev pub value_word : ValueError → List ℕ
value_word value.BadPath = codes "BadPath"
value_word value.PathTooLong = codes "PathTooLong"
value_word value.Missing = codes "Missing"
value_word value.TooLarge = codes "TooLarge"
