-- For what is private. A line that was read, as what it calls, and its texts beside the value that it is.
use Rattle.std.specs.Prelude.{◌≡◌, ℕ, List, Option, Some, None, option_map, option_and_then, codes}
use Rattle.serde_json.specs.Data.{Data}
use Rattle.hex.specs.Hex.{decode_of}
use Rattle.rb_engine.specs.Ask.{Call, Requests, LooksUp}
use Rattle.rb_engine.specs.declared.request.Payload.{Payload}
use Rattle.rb_engine.specs.declared.request.Payload.TheVariants.{Text}
use Rattle.rb_requests.specs.declared.member.Member.{Member}
use Rattle.rb_requests.specs.declared.member.Member.TheVariants as members
use Rattle.rb_requests.specs.declared.texts.Texts.{Texts}
use Rattle.rb_requests.specs.Asked.{text_at, decoded, payload_in}
use Rattle.rb_requests.specs.Requested.{request_of}
use Rattle.rb_requests.specs.declared.ask.Line.{Line}
use Rattle.rb_requests.specs.declared.ask.Line.TheVariants as lines

abbrev pub line_view : Line → Call
line_view (lines.Request request) = Requests (request_of request)
line_view (lines.Look app locale path) = LooksUp app.now locale.now path.now

-- the text at a name
abbrev pub text_in : Member → Option (List ℕ)
text_in (members.Text s) = Some s.now
text_in (members.Flag b) = None
text_in members.Other = None

abbrev pub lent : Option Member → Option (List ℕ)
lent held = option_and_then text_in held

-- a text or a file, and nothing if both are there
abbrev pub payload_by : Option Member → Option Member → Option Payload
payload_by None file = option_and_then (λ digits. decoded (decode_of digits)) (lent file)
payload_by (Some text) None = option_map Text (text_in text)
payload_by (Some text) (Some file) = None

-- all of a value on which it depends what it asks
pub record AreTextsOf (texts : Texts) (d : Data) : Type 0 where
  pub op : text_at (codes "op") d ≡ lent texts.op
  pub app : text_at (codes "app") d ≡ lent texts.app
  pub locale : text_at (codes "locale") d ≡ lent texts.locale
  pub path : text_at (codes "path") d ≡ lent texts.path
  pub payload : payload_in d ≡ payload_by texts.text texts.file
