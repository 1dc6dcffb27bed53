-- Defines the error codes of lookups and aliases: the names of the variants.
use Rattle.std.specs.Prelude.{ℕ, List, codes}
use Rattle.rb_fallback.specs.declared.fault.AliasFault.{AliasFault}
use Rattle.rb_fallback.specs.declared.fault.AliasFault.TheVariants as alias
use Rattle.rb_fallback.specs.declared.fault.LookError.{LookError}
use Rattle.rb_fallback.specs.declared.fault.LookError.TheVariants as look

abbrev pub alias_word : AliasFault → List ℕ
alias_word alias.AliasText = codes "AliasText"
alias_word alias.AliasPackage = codes "AliasPackage"

abbrev pub look_word : LookError → List ℕ
look_word look.BadPath = codes "BadPath"
look_word look.PathTooLong = codes "PathTooLong"
look_word look.Chain = codes "Chain"
look_word look.BadParent = codes "BadParent"
look_word look.NoBundle = codes "NoBundle"
look_word look.Missing = codes "Missing"
look_word look.AliasText = codes "AliasText"
look_word look.AliasPackage = codes "AliasPackage"
look_word look.TooManyAliases = codes "TooManyAliases"
