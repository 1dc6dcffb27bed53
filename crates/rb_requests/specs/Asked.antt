-- Defines the requests of lines, in a form of this project. A line is read as a `Value` of serde_json; an object of one
-- of the forms below is a request, and its other members are ignored.
use Rattle.std.specs.Prelude.{ℕ, Bool, List, is_some, if◌then◌else◌, Option, Some, None, codes, option_and_then}
use Rattle.std.specs.Prelude.{option_map, Result, Ok, Err}
use Rattle.std.specs.Str.{bytes_eq, is_utf8}
use Rattle.serde_json.specs.Data.{Data}
use Rattle.serde_json.specs.Read.{read}
use Rattle.serde_json.specs.Find.{get, as_str}
use Rattle.hex.specs.Hex.{decode_of}
use Rattle.hex.specs.declared.error.FromHexError.{FromHexError}
use Rattle.rb_engine.specs.Ask.{Call, Requests, LooksUp}
use Rattle.rb_engine.specs.declared.request.Payload.{Payload}
use Rattle.rb_engine.specs.declared.request.Payload.TheVariants.{Text, File}
use Rattle.rb_engine.specs.declared.request.Request.{Request}
use Rattle.rb_engine.specs.declared.request.Request.TheVariants.{Install, Replace, Remove, List as Lists}

-- a member that is a string
abbrev pub text_at : List ℕ → Data → Option (List ℕ)
text_at key d = option_and_then as_str (get key d)

abbrev pub has : List ℕ → Data → Bool
has key d = is_some (get key d)

abbrev pub with_text : List ℕ → Data → (List ℕ → Option Call) → Option Call
with_text key d f = option_and_then f (text_at key d)

-- a file's bytes in hexadecimal, with letters of either case
abbrev pub decoded : Result (List ℕ) FromHexError → Option Payload
decoded (Ok bytes) = Some (File bytes)
decoded (Err e) = None

-- a text or a file; if both are there, whatever they hold, there is no payload
abbrev pub payload_in : Data → Option Payload
payload_in d =
    if has (codes "text") d then (if has (codes "file") d then None else option_map Text (text_at (codes "text") d))
    else option_and_then (λ h. decoded (decode_of h)) (text_at (codes "file") d)

-- an install or a replacement, as `make` has it
abbrev pub change_in : (List ℕ → List ℕ → Payload → Request) → Data → Option Call
change_in make d = with_text (codes "app") d
    (λ a. with_text (codes "locale") d (λ l. option_map (λ p. Requests (make a l p)) (payload_in d)))

abbrev pub remove_in : Data → Option Call
remove_in d = with_text (codes "app") d (λ a. with_text (codes "locale") d (λ l. Some (Requests (Remove a l))))

abbrev pub list_in : Data → Option Call
list_in d = with_text (codes "app") d (λ a. Some (Requests (Lists a)))

abbrev pub look_in : Data → Option Call
look_in d = with_text (codes "app") d
    (λ a. with_text (codes "locale") d (λ l. with_text (codes "path") d (λ p. Some (LooksUp a l p))))

abbrev pub call_by : List ℕ → Data → Option Call
call_by op d =
    if bytes_eq op (codes "install") then change_in Install d
    else if bytes_eq op (codes "replace") then change_in Replace d
    else if bytes_eq op (codes "remove") then remove_in d
    else if bytes_eq op (codes "list") then list_in d
    else if bytes_eq op (codes "look") then look_in d
    else None

abbrev pub call_in : Data → Option Call
call_in d = with_text (codes "op") d (λ op. call_by op d)

-- the value that is read from a line: a text that is JSON
abbrev pub data_of : List ℕ → Option Data
data_of line = if is_utf8 line then read line else None

-- the call of a line; none if the line is no request
abbrev pub call_of : List ℕ → Option Call
call_of line = option_and_then call_in (data_of line)
