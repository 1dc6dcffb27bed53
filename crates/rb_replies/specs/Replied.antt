-- Defines the line that answers a line, a form of this project: a compact object with its members in ascending order, as
-- serde_json writes it, and a line feed.
use Rattle.std.specs.Prelude.{ℕ, true, List, [], ◌∷◌, ◌++◌, Option, Some, None, codes}
use Rattle.serde_json.specs.Data.{Data, boolean, number, string, unsigned, object, no_members, member}
use Rattle.serde_json.specs.Written.{compact_text}
use Rattle.rb_engine.specs.Answer.{Response, Replies, Finds, Refuses}
use Rattle.rb_json.specs.Item.{texts_data, found_data}
use Rattle.rb_engine.specs.Words.{reply_word, look_word}
use Rattle.rb_engine.specs.declared.request.Reply.{Reply}
use Rattle.rb_engine.specs.declared.request.Reply.TheVariants.{Done, Names, BadApp, Reserved, BadLocale, BadText}
use Rattle.rb_engine.specs.declared.request.Reply.TheVariants.{BadFile, Exists, Absent, Full, Memory}

abbrev pub error : List ℕ → Data
error word = object (member (codes "error") (string word) no_members)

abbrev pub reply_data : Reply → Data
reply_data Done = object (member (codes "ok") (boolean true) no_members)
reply_data (Names names) = object (member (codes "names") (texts_data names) no_members)
reply_data BadApp = error (reply_word BadApp)
reply_data Reserved = error (reply_word Reserved)
reply_data BadLocale = error (reply_word BadLocale)
reply_data BadText = error (reply_word BadText)
reply_data BadFile = error (reply_word BadFile)
reply_data Exists = error (reply_word Exists)
reply_data Absent = error (reply_word Absent)
reply_data Full = error (reply_word Full)
reply_data Memory = error (reply_word Memory)

-- the number of an application's bundles, and of their bytes
abbrev pub usage_data : (bytes bundles : ℕ) → Data
usage_data bytes bundles =
    object (member (codes "app_bytes") (number (unsigned bytes))
    (member (codes "bundles") (number (unsigned bundles)) no_members))

abbrev pub response_data : Response → Data
response_data (Replies reply) = reply_data reply
response_data (Finds hit valid) = found_data hit.actual valid hit.tree
response_data (Refuses e) = error (look_word e)

-- a line that is no request is answered `BadLine`
abbrev pub line_data : Option Response → Data
line_data (Some response) = response_data response
line_data None = error (codes "BadLine")

abbrev pub reply_line : Option Response → List ℕ
reply_line response = compact_text (line_data response) ++ 10 ∷ []
