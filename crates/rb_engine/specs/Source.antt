-- Defines a payload's bundle, or the reason why it has none, and what a request with a payload asks.
use Rattle.std.specs.Prelude.{◌≡◌, ◌⊎◌, ℕ, true, false, List, [], ◌∷◌, ◌++◌, None, Result, Ok, Err}
use Rattle.rb_tree.specs.SourceTree.{SourceTree}
use Rattle.rb_lexer.specs.declared.fault.SourceFault.{SourceFault}
use Rattle.rb_lexer.specs.declared.fault.SourceKind.TheVariants as text
use Rattle.rb_format.specs.File.{source_tree_of}
use Rattle.rb_parents.specs.Trail.{ParentsOf}
use Rattle.rb_packages.specs.Packages.{Stored}
use Rattle.rb_packages.specs.Shelf.{Shelf, holds}
use Rattle.rb_engine.specs.Ask.{Requests, IsContent, spelled, denoted}
use Rattle.rb_engine.specs.Start.{HasBundle}
use Rattle.rb_engine.specs.Place.{place_of}
use Rattle.rb_engine.specs.Answer.{Replies, refusal}
use Rattle.rb_engine.specs.History.{Step}
use Rattle.rb_engine.specs.Kept.{state_over}
use Rattle.rb_engine.specs.declared.handle.Change.{Change}
use Rattle.rb_engine.specs.declared.handle.Change.TheVariants as changes
use Rattle.rb_engine.specs.declared.place.Place.{Place}
use Rattle.rb_engine.specs.declared.place.PlaceFault.{PlaceFault}
use Rattle.rb_engine.specs.declared.request.BundleSource.{BundleSource}
use Rattle.rb_engine.specs.declared.request.BundleSource.TheVariants as sources
use Rattle.rb_engine.specs.declared.request.Payload.{Payload}
use Rattle.rb_engine.specs.declared.request.Payload.TheVariants.{Text, File}
use Rattle.rb_engine.specs.declared.payload.ReadFault.{ReadFault}
use Rattle.rb_engine.specs.declared.payload.ReadFault.TheVariants as fault
use Rattle.rb_packages.specs.declared.fault.PackFault.{PackFault}
use Rattle.rb_packages.specs.declared.fault.PackFault.TheVariants as pack
use Rattle.rb_engine.specs.declared.request.Request.{Request}
use Rattle.rb_engine.specs.declared.request.Request.TheVariants as request
use Rattle.rb_engine.specs.declared.request.Reply.{Reply}
use Rattle.rb_engine.specs.declared.request.Reply.TheVariants as reply
use Rattle.rb_engine.specs.declared.start.StartFault.{StartFault}
use Rattle.rb_engine.specs.declared.start.StartFault.TheVariants as start

-- the payload, whose text is borrowed
abbrev pub payload_of : BundleSource → Payload
payload_of (sources.Text text) = Text text.now
payload_of (sources.File file) = File file

-- a payload without a bundle, or memory ran out
abbrev pub HasNone : Payload → ReadFault → Type 0
HasNone payload (fault.Refused r) = r ≡ reply.Memory
HasNone (Text bytes) (fault.BadText e) = IsContent (Text bytes) (spelled None)
HasNone (File bytes) (fault.BadFile e) = IsContent (File bytes) (denoted None)
HasNone payload fault = ⊥

-- the file of a payload's bundle, or the reason why there is none
abbrev pub BundleOrFault : Payload → Result (List ℕ) ReadFault → Type 0
BundleOrFault payload (Ok file) = HasBundle payload (source_tree_of file)
BundleOrFault payload (Err fault) = HasNone payload fault

-- the error of a text as one of a payload; out of memory stays out of memory
abbrev pub IsTextFault : SourceFault → ReadFault → Type 0
IsTextFault e f = ((e.kind ≡ text.Memory) × (f ≡ fault.Refused reply.Memory))
    ⊎ ((e.kind ≡ text.Memory → ⊥) × (f ≡ fault.BadText e))

-- the entry at an index is added at the end of a shelf, or rejected
abbrev pub Adds : ℕ → List ℕ → Payload → Shelf → Result (Unit {0}) StartFault → Shelf → Type 0
Adds index name payload old (Ok done) new = (source : SourceTree) × HasBundle payload source × (holds name old ≡ false)
    × (new ≡ old ++ (name, source) ∷ [])
Adds index name (Text text) old (Err (start.BadText i)) new = (i ≡ index) × IsContent (Text text) (spelled None)
Adds index name (File file) old (Err (start.BadText i)) new = ⊥
Adds index name (Text text) old (Err (start.BadFile i)) new = ⊥
Adds index name (File file) old (Err (start.BadFile i)) new = (i ≡ index) × IsContent (File file) (denoted None)
Adds index name payload old (Err (start.Twice i)) new = (i ≡ index) × (source : SourceTree) × HasBundle payload source
    × (holds name old ≡ true)
Adds index name payload old (Err start.Memory) new = Unit {0}

-- the reply to a payload without a bundle
abbrev pub unread_reply : ReadFault → Reply
unread_reply (fault.Refused r) = r
unread_reply (fault.BadText e) = reply.BadText
unread_reply (fault.BadFile e) = reply.BadFile

-- a request's names with the file of its payload's bundle; or the reply if they are invalid, or if the payload has no
-- bundle
abbrev pub Reads : List ℕ → List ℕ → Payload → Result (Place × List ℕ) Reply → Type 0
Reads app locale payload (Ok r) = (place_of app locale ≡ Ok r.0) × HasBundle payload (source_tree_of r.1)
Reads app locale payload (Err reply) =
    ((e : PlaceFault) × (place_of app locale ≡ Err e) × (reply ≡ refusal e))
    ⊎ ((p : Place) × (e : ReadFault) × (place_of app locale ≡ Ok p) × HasNone payload e × (reply ≡ unread_reply e))

-- a request with a payload
abbrev pub change_request : Change → List ℕ → List ℕ → Payload → Request
change_request changes.Install = request.Install
change_request changes.Replace = request.Replace

-- a request gets this reply from these packages, and changes them so, whatever the explicit parents are
abbrev pub Handles : Request → Reply → Stored → Stored → Type 0
Handles r reply old new = (parents : ParentsOf)
    → Step (state_over parents old) (Requests r) (Replies reply) (state_over parents new)

-- the reply if a bundle isn't installed
abbrev pub not_installed_reply : PackFault → Reply
not_installed_reply pack.Twice = reply.Exists
not_installed_reply pack.Exists = reply.Exists
not_installed_reply pack.Full = reply.Full
not_installed_reply pack.Memory = reply.Memory
