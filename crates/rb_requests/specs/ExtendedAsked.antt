-- Defines what lines ask of a server with extended requests, in a form of this project. A line is read as a `Value` of
-- serde_json; members that a request doesn't have are ignored, and one of another type makes the line no request.
use Rattle.std.specs.Prelude.{ℕ, ◌+◌, Bool, true, false, ◌||◌, if◌then◌else◌, List, [], ◌∷◌, take, codes}
use Rattle.std.specs.Prelude.{Option, Some, None, option_map, option_and_then}
use Rattle.std.specs.Str.{bytes_eq}
use Rattle.serde_json.specs.Data.{Data, Items, no_items, item}
use Rattle.serde_json.specs.Find.{get, as_bool, as_str, as_array}
use Rattle.rb_packages.specs.Limits.{bundle_limit}
use Rattle.rb_engine.specs.Ask.{Call}
use Rattle.rb_engine.specs.declared.request.Payload.{Payload}
use Rattle.rb_requests.specs.Asked.{text_at, has, payload_in, list_in, call_by, data_of}

-- a change of a release: another bundle under a name, or none
pub data ReleaseChange : Type 0 where
  PutsAt : (locale : List ℕ) → Payload → ReleaseChange
  RemovesAt : (locale : List ℕ) → ReleaseChange

-- what a line asks: a call as without extended requests, or one of these requests
pub data ExtendedAsk : Type 0 where
  Calls : Call → ExtendedAsk
  Puts : (app locale : List ℕ) → Payload → ExtendedAsk
  Releases : (app : List ℕ) → List ReleaseChange → ExtendedAsk
  Exports : (app locale : List ℕ) → (is_text : Bool) → ExtendedAsk
  AsksTree : (app locale path : List ℕ) → ExtendedAsk
  AsksSizes : (app : List ℕ) → ExtendedAsk
  AsksUsage : (app : List ℕ) → ExtendedAsk

-- ---- members

-- true or false, and false if there is no member
abbrev pub flag_in : Option Data → Option Bool
flag_in None = Some false
flag_in (Some d) = as_bool d

-- a path, and the root's if there is no member
abbrev pub path_in : Option Data → Option (List ℕ)
path_in None = Some []
path_in (Some d) = as_str d

-- whether an export is to be a text: the word "text", or no member if it is to be a file
abbrev pub form_in : Option Data → Option Bool
form_in None = Some false
form_in (Some d) = option_and_then (λ word. if bytes_eq word (codes "text") then Some true else None) (as_str d)

-- ---- the changes of a release

-- a removal has neither a text nor a file; any other change has one of them
abbrev pub change_at : List ℕ → Data → Bool → Option ReleaseChange
change_at locale d true = if has (codes "text") d || has (codes "file") d then None else Some (RemovesAt locale)
change_at locale d false = option_map (PutsAt locale) (payload_in d)

abbrev pub release_change_in : Data → Option ReleaseChange
release_change_in d =
    option_and_then (λ l. option_and_then (change_at l d) (flag_in (get (codes "remove") d))) (text_at (codes "locale") d)

abbrev pub all_changes : Items → Option (List ReleaseChange)
all_changes no_items = Some []
all_changes (item d ds) = option_and_then (λ c. option_map (λ cs. c ∷ cs) (all_changes ds)) (release_change_in d)

-- ---- requests

-- a request with the names of an application and of a locale
abbrev pub named : Data → (List ℕ → List ℕ → Option ExtendedAsk) → Option ExtendedAsk
named d f = option_and_then (λ a. option_and_then (λ l. f a l) (text_at (codes "locale") d)) (text_at (codes "app") d)

-- an array of changes, up to the first one that is too many
abbrev pub release_in : Data → Option ExtendedAsk
release_in d = option_and_then (λ a. option_map (λ cs. Releases a (take (bundle_limit + 1) cs)) (option_and_then
    (λ c. option_and_then all_changes (as_array c)) (get (codes "changes") d))) (text_at (codes "app") d)

-- the names of the application's bundles, with `sizes` also the lengths of their files
abbrev pub names_in : Data → Bool → Option ExtendedAsk
names_in d true = option_map AsksSizes (text_at (codes "app") d)
names_in d false = option_map Calls (list_in d)

abbrev pub extended_by : List ℕ → Data → Option ExtendedAsk
extended_by op d =
    if bytes_eq op (codes "put") then named d (λ a l. option_map (Puts a l) (payload_in d))
    else if bytes_eq op (codes "list") then option_and_then (names_in d) (flag_in (get (codes "sizes") d))
    else if bytes_eq op (codes "usage") then option_map AsksUsage (text_at (codes "app") d)
    else if bytes_eq op (codes "export") then named d (λ a l. option_map (Exports a l) (form_in (get (codes "as") d)))
    else if bytes_eq op (codes "tree") then named d (λ a l. option_map (AsksTree a l) (path_in (get (codes "path") d)))
    else if bytes_eq op (codes "release") then release_in d
    else option_map Calls (call_by op d)

-- what a line asks; nothing if it is no request
abbrev pub extended_of : List ℕ → Option ExtendedAsk
extended_of line = option_and_then (λ d. option_and_then (λ o. extended_by o d) (text_at (codes "op") d)) (data_of line)
