-- For what is private. Defines what an extended request that was read asks, and its members beside the value that the
-- line is.
use Rattle.std.specs.Prelude.{◌≡◌, ℕ, Bool, true, false, List, [], codes, if◌then◌else◌}
use Rattle.std.specs.Prelude.{Option, Some, None, option_map, option_and_then}
use Rattle.std.specs.Str.{bytes_eq}
use Rattle.serde_json.specs.Data.{Data}
use Rattle.serde_json.specs.Find.{get}
use Rattle.rb_engine.specs.Source.{payload_of}
use Rattle.rb_requests.specs.ExtendedAsked.{ReleaseChange, ExtendedAsk, Calls, Puts, Releases, Exports, AsksTree, AsksSizes, AsksUsage}
use Rattle.rb_requests.specs.ExtendedAsked.{flag_in, path_in, form_in}
use Rattle.rb_requests.specs.declared.change_list.Changes.{Changes}
use Rattle.rb_requests.specs.declared.extended_ask.ExtendedLine.{ExtendedLine}
use Rattle.rb_requests.specs.declared.extended_ask.ExtendedLine.TheVariants as lines
use Rattle.rb_requests.specs.declared.extended_texts.ExtendedTexts.{ExtendedTexts}
use Rattle.rb_requests.specs.declared.member.Member.{Member}
use Rattle.rb_requests.specs.declared.member.Member.TheVariants as members
use Rattle.rb_requests.specs.inner.ChangesRead.{AreOf, changes_seen, flag_by}
use Rattle.rb_requests.specs.inner.ExtendedForms.{changes_in}
use Rattle.rb_requests.specs.inner.Line.{AreTextsOf, line_view, text_in}

-- ---- requests that were read

abbrev pub line_asks : ExtendedLine → Option ExtendedAsk
line_asks (lines.Plain line) = Some (Calls (line_view line))
line_asks (lines.Put app locale source) = Some (Puts app.now locale.now (payload_of source))
line_asks (lines.Sizes app) = Some (AsksSizes app.now)
line_asks (lines.Usage app) = Some (AsksUsage app.now)
line_asks (lines.Export app locale is_text) = Some (Exports app.now locale.now is_text)
line_asks (lines.Tree app locale path) = Some (AsksTree app.now locale.now path.now)
line_asks (lines.Release app changes) = option_map (Releases app.now) (changes_seen changes.now)

-- a line that was read asks this, or it is no request
abbrev pub Asks : Option ExtendedLine → Option ExtendedAsk → Type 0
Asks line ask = option_map line_asks line ≡ option_map Some ask

-- ---- members

-- a path that may be missing
abbrev pub path_by : Option Member → Option (List ℕ)
path_by None = Some []
path_by (Some member) = text_in member

-- the word "text", or no member
abbrev pub form_by : Option Member → Option Bool
form_by None = Some false
form_by (Some (members.Text word)) = if bytes_eq word.now (codes "text") then Some true else None
form_by (Some (members.Flag flag)) = None
form_by (Some members.Other) = None

-- the changes that are there, if they are changes
abbrev pub AreHeld : Option Changes → Option (List ReleaseChange) → Type 0
AreHeld None all = all ≡ None
AreHeld (Some changes) all = AreOf changes all

-- all of a value on which it depends what it asks
pub record AreAllOf (asked : ExtendedTexts) (d : Data) : Type 0 where
  pub texts : AreTextsOf asked.texts d
  pub path : path_in (get (codes "path") d) ≡ path_by asked.texts.path
  pub form : form_in (get (codes "as") d) ≡ form_by asked.form
  pub sizes : flag_in (get (codes "sizes") d) ≡ flag_by asked.sizes
  pub changes : AreHeld asked.changes (option_and_then changes_in (get (codes "changes") d))
