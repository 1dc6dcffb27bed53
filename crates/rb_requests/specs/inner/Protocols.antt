-- For what is private. Defines the reply to a line that is read, by the requests that lines may have.
use Rattle.std.specs.Prelude.{ℕ, List}
use Rattle.rb_engine.specs.Kept.{Kept}
use Rattle.rb_requests.specs.ExtendedReply.{ExtendedRead}
use Rattle.rb_requests.specs.Within.{ReadReply, UpTo}
use Rattle.rb_requests.specs.declared.limits.Limits.{Limits}
use Rattle.rb_requests.specs.declared.protocol.Protocol.{Protocol}
use Rattle.rb_requests.specs.declared.protocol.Protocol.TheVariants.{Plain, Extended}

abbrev pub ReadBy : Protocol → Limits → Kept → List ℕ → List ℕ → Kept → Type 0
ReadBy Plain limits = ReadReply limits
ReadBy Extended limits = ExtendedRead limits

-- the reply to a line of which up to this many bytes are stored
abbrev pub LineReplyBy : Protocol → ℕ → Limits → Kept → List ℕ → List ℕ → Kept → Type 0
LineReplyBy protocol most limits = UpTo (ReadBy protocol limits) most limits
