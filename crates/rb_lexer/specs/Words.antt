-- Defines the error codes of `SourceKind`: the names of its variants.
use Rattle.std.specs.Prelude.{ℕ, List, codes}
use Rattle.rb_lexer.specs.declared.fault.SourceKind.{SourceKind}
use Rattle.rb_lexer.specs.declared.fault.SourceKind.TheVariants.{TooLong, NotUtf8, BadEscape, OpenQuote, OpenComment}
use Rattle.rb_lexer.specs.declared.fault.SourceKind.TheVariants.{Unexpected, UnknownType, BadKey}
use Rattle.rb_lexer.specs.declared.fault.SourceKind.TheVariants.{DuplicateKey, BadInt, BadHex, TooDeep, TrailingText}
use Rattle.rb_lexer.specs.declared.fault.SourceKind.TheVariants.{TooLarge, Memory}

abbrev pub kind_word : SourceKind → List ℕ
kind_word TooLong = codes "TooLong"
kind_word NotUtf8 = codes "NotUtf8"
kind_word BadEscape = codes "BadEscape"
kind_word OpenQuote = codes "OpenQuote"
kind_word OpenComment = codes "OpenComment"
kind_word Unexpected = codes "Unexpected"
kind_word UnknownType = codes "UnknownType"
kind_word BadKey = codes "BadKey"
kind_word DuplicateKey = codes "DuplicateKey"
kind_word BadInt = codes "BadInt"
kind_word BadHex = codes "BadHex"
kind_word TooDeep = codes "TooDeep"
kind_word TrailingText = codes "TrailingText"
kind_word TooLarge = codes "TooLarge"
kind_word Memory = codes "Memory"
