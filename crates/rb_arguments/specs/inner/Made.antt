-- Defines which argument of clap each way to give an argument makes: its names, whether it is required, and what a use
-- of it does.
use Rattle.std.specs.Prelude.{◌≡◌, ℕ, List, true, false, Some, option_map}
use Rattle.clap.specs.declared.builder.action.ArgAction.TheVariants.{Append, SetTrue}
use Rattle.clap.specs.declared.builder.arg.Arg.{Arg}
use Rattle.rb_arguments.specs.declared.argument.Kind.{Kind}
use Rattle.rb_arguments.specs.declared.argument.Kind.TheVariants.{Word, OptionalWord, WordUnless, Words, AnyWords}
use Rattle.rb_arguments.specs.declared.argument.Kind.TheVariants.{WordsUnless, WordsWith, Option as ToOption, OptionWith, Options}
use Rattle.rb_arguments.specs.declared.argument.Kind.TheVariants.{Limit, Flag, FlagWith, FlagWithout, FlagIf, ShortFlag}

-- an option with this long name, which may be missing
abbrev pub IsOption : List ℕ → Arg → Type 0
IsOption name arg = (option_map (λ s. s.now) arg.long ≡ Some name) × (arg.required ≡ false)

abbrev pub IsMade : List ℕ → Kind → Arg → Type 0
IsMade name Word arg = arg.required ≡ true
IsMade name OptionalWord arg = arg.required ≡ false
IsMade name (WordUnless option) arg = arg.required ≡ false
IsMade name (Words shown) arg = arg.required ≡ true
IsMade name (WordsUnless shown option) arg = arg.required ≡ false
IsMade name (AnyWords shown) arg = arg.required ≡ false
IsMade name (WordsWith option) arg = arg.required ≡ false
IsMade name (ToOption shown) arg = IsOption name arg
IsMade name (OptionWith shown option) arg = IsOption name arg
IsMade name (Options shown) arg = IsOption name arg × (arg.action ≡ Some Append)
IsMade name Limit arg = IsOption name arg
IsMade name Flag arg = IsOption name arg × (arg.action ≡ Some SetTrue)
IsMade name (FlagWith option) arg = IsOption name arg × (arg.action ≡ Some SetTrue)
IsMade name (FlagWithout option) arg = IsOption name arg × (arg.action ≡ Some SetTrue)
IsMade name (FlagIf option other) arg = IsOption name arg × (arg.action ≡ Some SetTrue)
IsMade name (ShortFlag letter) arg = IsOption name arg × (arg.action ≡ Some SetTrue) × (arg.short ≡ Some letter)
