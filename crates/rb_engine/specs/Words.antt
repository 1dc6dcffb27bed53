-- Defines the codes of replies and of errors: the variant's name.
use Rattle.std.specs.Prelude.{ℕ, List, codes}
use Rattle.rb_engine.specs.declared.request.Reply.{Reply}
use Rattle.rb_engine.specs.declared.request.Reply.TheVariants as reply
use Rattle.rb_engine.specs.declared.start.StartFault.{StartFault}
use Rattle.rb_engine.specs.declared.start.StartFault.TheVariants as start
use Rattle.rb_engine.specs.declared.request.LookFault.{LookFault}
use Rattle.rb_engine.specs.declared.request.LookFault.TheVariants as look

abbrev pub reply_word : Reply → List ℕ
reply_word reply.Done = codes "Done"
reply_word (reply.Names names) = codes "Names"
reply_word reply.BadApp = codes "BadApp"
reply_word reply.Reserved = codes "Reserved"
reply_word reply.BadLocale = codes "BadLocale"
reply_word reply.BadText = codes "BadText"
reply_word reply.BadFile = codes "BadFile"
reply_word reply.Exists = codes "Exists"
reply_word reply.Absent = codes "Absent"
reply_word reply.Full = codes "Full"
reply_word reply.Memory = codes "Memory"

abbrev pub look_word : LookFault → List ℕ
look_word look.BadApp = codes "BadApp"
look_word look.Reserved = codes "Reserved"
look_word look.BadLocale = codes "BadLocale"
look_word look.BadPath = codes "BadPath"
look_word look.PathTooLong = codes "PathTooLong"
look_word look.Chain = codes "Chain"
look_word look.BadParent = codes "BadParent"
look_word look.NoBundle = codes "NoBundle"
look_word look.Missing = codes "Missing"
look_word look.AliasText = codes "AliasText"
look_word look.AliasPackage = codes "AliasPackage"
look_word look.TooManyAliases = codes "TooManyAliases"

abbrev pub start_word : StartFault → List ℕ
start_word (start.BadText i) = codes "BadText"
start_word (start.BadFile i) = codes "BadFile"
start_word (start.Twice i) = codes "Twice"
start_word start.Memory = codes "Memory"
