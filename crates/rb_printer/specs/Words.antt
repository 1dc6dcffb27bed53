-- Defines the error codes of `PrintError`: the names of its variants.
use Rattle.std.specs.Prelude.{ℕ, List, codes}
use Rattle.rb_printer.specs.declared.error.PrintError.{PrintError}
use Rattle.rb_printer.specs.declared.error.PrintError.TheVariants.{TooLarge, Memory}

abbrev pub print_word : PrintError → List ℕ
print_word TooLarge = codes "TooLarge"
print_word Memory = codes "Memory"
