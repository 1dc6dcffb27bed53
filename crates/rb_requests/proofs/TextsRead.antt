-- The value that is read from a line, if the line is text and if it is not.
use Rattle.std.proofs.Common.{◌≡◌, ℕ, List, Option, None, false, refl}
use Rattle.std.specs.Str.{is_utf8, IsUtf8}
use Rattle.std.proofs.lemmas.Str.{is_utf8-from_IsUtf8, IsUtf8-from_is_utf8}
use Rattle.std.proofs.lemmas.Bool.{false_from_ne_true}
use Rattle.serde_json.specs.Data.{Data}
use Rattle.serde_json.specs.Read.{read}
use Rattle.rb_requests.specs.Asked.{data_of}

not_utf8 : (line : List ℕ) → ¬ (IsUtf8 line) → is_utf8 line ≡ false
not_utf8 line h = false_from_ne_true (is_utf8 line) (λ e. h (IsUtf8-from_is_utf8 line e))

pub data_of-text : (line text : List ℕ) (o : Option Data) → text ≡ line → IsUtf8 line → read text ≡ o → data_of line ≡ o
data_of-text line text o same h e = rw (is_utf8-from_IsUtf8 line h, ← same) e

pub data_of-no_text : (line : List ℕ) → ¬ (IsUtf8 line) → data_of line ≡ None
data_of-no_text line h = rw (not_utf8 line h) refl
