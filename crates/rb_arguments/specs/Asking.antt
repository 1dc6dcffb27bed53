-- Defines the command that a command line asks for, by the rows of values that clap returned for it.
use Rattle.std.specs.Prelude.{◌≡◌, ◌++◌, ◌||◌, ◌∷◌, [], Bool, true, false, List, Option, Some, None, codes}
use Rattle.std.specs.Prelude.{MatchOption, option_map, unwrap_or}
use Rattle.std.specs.List.{list_any}
use Rattle.std.specs.Option.{option_or}
use Rattle.std.specs.Str.{bytes_eq}
use Rattle.clap.specs.Words.{Row, Text, first_of}
use Rattle.clap.specs.Walk.{texts}
use Rattle.rb_arguments.specs.Rows.{IsFlagIn, IsTextIn, alone, word_in, words_in}
use Rattle.rb_arguments.specs.Limits.{AreGiven}
use Rattle.rb_asked.specs.declared.files.Compiling.{Compiling}
use Rattle.rb_asked.specs.declared.shared.Configured.{Configured}
use Rattle.rb_asked.specs.declared.shared.ParentsSource.{ParentsSource}
use Rattle.rb_asked.specs.declared.shared.ParentsSource.TheVariants.{File, Cldr}
use Rattle.rb_arguments.specs.declared.asking.Asked.{Asked}
use Rattle.rb_arguments.specs.declared.asking.Asked.TheVariants.{Compile, CompileAll}
use Rattle.rb_arguments.specs.declared.asking.Asked.TheVariants.{Check, Get, Json, Text as ToText}
use Rattle.rb_arguments.specs.declared.asking.Asked.TheVariants.{Inherited, Diff, Lint, Format, Coverage, Init, Explain}
use Rattle.rb_arguments.specs.declared.asking.Asked.TheVariants.{Lines, Look, Serve}

-- the names of the commands for single files
abbrev pub file_names : List Text
file_names = codes "compile" ∷ codes "check" ∷ codes "get" ∷ codes "json" ∷ codes "text" ∷ codes "diff" ∷ []

-- the names of the other commands
abbrev pub other_names : List Text
other_names = codes "lint" ∷ codes "fmt" ∷ codes "coverage" ∷ codes "init" ∷ codes "explain" ∷ codes "lines"
    ∷ codes "look" ∷ codes "serve" ∷ []

abbrev pub is_command : Text → Bool
is_command name = list_any (bytes_eq name) file_names || list_any (bytes_eq name) other_names

-- the words of three arguments, in this order: the first two have at most one
abbrev pub gathered : List Row → (first second others : Text) → List Text
gathered rows first second others = alone (first_of first rows) ++ alone (first_of second rows) ++ words_in rows others

-- the options of `compile`
pub record IsCompilingIn (rows : List Row) (how : Compiling) : Type 0 where
  pub is_json : IsFlagIn rows (codes "json") how.is_json
  pub no_fallback : IsFlagIn rows (codes "no-fallback") how.no_fallback
  pub is_forced : IsFlagIn rows (codes "force") how.is_forced
  pub is_quiet : IsFlagIn rows (codes "quiet") how.is_quiet

-- the place of explicit parents: CLDR's if they are asked for, otherwise a file's, if one is given
abbrev pub AreParentsIn : List Row → Option ParentsSource → Type 0
AreParentsIn rows (Some Cldr) = IsFlagIn rows (codes "cldr-parents") true
AreParentsIn rows (Some (File file)) =
    IsFlagIn rows (codes "cldr-parents") false × (first_of (codes "parents") rows ≡ Some file.now)
AreParentsIn rows None = IsFlagIn rows (codes "cldr-parents") false × (first_of (codes "parents") rows ≡ None)

-- the choice of a settings file
abbrev pub IsConfigIn : List Row → Configured → Type 0
IsConfigIn rows config =
    IsTextIn rows (codes "config") config.file × IsFlagIn rows (codes "no-config") config.is_none

-- the command of this name, with these rows, asks for this
abbrev pub AsksFor : Text → List Row → Asked → Type 0
AsksFor name rows (Compile asked) = (name ≡ codes "compile") × (first_of (codes "to") rows ≡ None)
    × IsCompilingIn rows asked.how × (asked.input.now ≡ word_in rows (codes "IN"))
    × (asked.output.now ≡ word_in rows (codes "OUT"))
AsksFor name rows (CompileAll asked) = (name ≡ codes "compile")
    × (first_of (codes "to") rows ≡ Some asked.folder.now) × IsCompilingIn rows asked.how
    × IsTextIn rows (codes "from") asked.from
    × (texts asked.texts.items ≡ gathered rows (codes "IN") (codes "OUT") (codes "TEXT"))
AsksFor name rows (Check asked) = (name ≡ codes "check") × (texts asked.files.items ≡ words_in rows (codes "FILE"))
    × IsFlagIn rows (codes "json") asked.is_json × IsFlagIn rows (codes "quiet") asked.is_quiet
AsksFor name rows (Get asked) = (name ≡ codes "get") × (asked.file.now ≡ word_in rows (codes "FILE"))
    × (asked.path.now ≡ word_in rows (codes "PATH")) × IsFlagIn rows (codes "raw") asked.is_raw
AsksFor name rows (Json asked) = (name ≡ codes "json") × (first_of (codes "inherit") rows ≡ None)
    × (asked.file.now ≡ word_in rows (codes "FILE")) × (asked.path.now ≡ word_in rows (codes "PATH"))
    × IsFlagIn rows (codes "pretty") asked.is_pretty
AsksFor name rows (Inherited asked) = (name ≡ codes "json") × (first_of (codes "inherit") rows ≡ Some asked.locale.now)
    × AreParentsIn rows asked.parents × (asked.path.now ≡ word_in rows (codes "path"))
    × IsFlagIn rows (codes "pretty") asked.is_pretty
    × (texts asked.files.items ≡ gathered rows (codes "FILE") (codes "PATH") (codes "BUNDLE"))
AsksFor name rows (ToText asked) = (name ≡ codes "text") × (asked.file.now ≡ word_in rows (codes "FILE"))
    × IsTextIn rows (codes "name") asked.name
AsksFor name rows (Diff asked) = (name ≡ codes "diff") × (asked.old.now ≡ word_in rows (codes "OLD"))
    × (asked.new.now ≡ word_in rows (codes "NEW")) × IsFlagIn rows (codes "json") asked.is_json
    × IsFlagIn rows (codes "stat") asked.is_stat × IsConfigIn rows asked.config
AsksFor name rows (Lint asked) = (name ≡ codes "lint")
    × (option_map (λ s. s.now) asked.root ≡ option_or (first_of (codes "against") rows) (first_of (codes "root") rows))
    × IsTextIn rows (codes "name") asked.name × (texts asked.allow.items ≡ words_in rows (codes "allow"))
    × (texts asked.deny.items ≡ words_in rows (codes "deny")) × IsTextIn rows (codes "format") asked.format
    × IsTextIn rows (codes "color") asked.color × IsFlagIn rows (codes "strict") asked.is_strict
    × IsFlagIn rows (codes "all") asked.is_all × IsConfigIn rows asked.config
    × IsFlagIn rows (codes "list") asked.is_list × (texts asked.texts.items ≡ words_in rows (codes "TEXT"))
AsksFor name rows (Format asked) =
    (name ≡ codes "fmt") × IsFlagIn rows (codes "check") asked.is_check × IsFlagIn rows (codes "diff") asked.is_diff
    × IsFlagIn rows (codes "quiet") asked.is_quiet × IsConfigIn rows asked.config
    × (texts asked.texts.items ≡ words_in rows (codes "TEXT"))
AsksFor name rows (Coverage asked) = (name ≡ codes "coverage") × AreParentsIn rows asked.parents
    × IsTextIn rows (codes "format") asked.format × IsConfigIn rows asked.config
    × (texts asked.texts.items ≡ words_in rows (codes "TEXT"))
AsksFor name rows (Init folder) = (name ≡ codes "init") × IsTextIn rows (codes "FOLDER") folder
AsksFor name rows (Explain word) = (name ≡ codes "explain") × IsTextIn rows (codes "WORD") word
AsksFor name rows (Lines asked) = (name ≡ codes "lines") × IsTextIn rows (codes "op") asked.op
    × IsFlagIn rows (codes "json") asked.is_json × (asked.app.now ≡ word_in rows (codes "APP"))
    × (texts asked.files.items ≡ words_in rows (codes "FILE"))
AsksFor name rows (Look asked) = (name ≡ codes "look") × AreParentsIn rows asked.parents
    × (asked.locale.now ≡ word_in rows (codes "LOCALE")) × (asked.path.now ≡ word_in rows (codes "PATH"))
    × IsFlagIn rows (codes "trace") asked.is_traced × (texts asked.files.items ≡ words_in rows (codes "FILE"))
AsksFor name rows (Serve asked) = (name ≡ codes "serve") × AreParentsIn rows asked.parents
    × (texts asked.bundles.items ≡ words_in rows (codes "bundles")) × AreGiven rows asked.limits
    × IsFlagIn rows (codes "extended") asked.is_extended

-- ---- by the name and the rows of the command that a command line enters, if it enters one

abbrev pub enters_command : Option (Text × List Row) → Bool
enters_command entered = unwrap_or (option_map (λ e. is_command e.0) entered) false

abbrev pub EntersFor : Option (Text × List Row) → Asked → Type 0
EntersFor entered asked = MatchOption entered ⊥ (λ e. AsksFor e.0 e.1 asked)
