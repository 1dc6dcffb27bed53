-- Defines what a call asks, where a payload counts as the bundle that it denotes. The requests are a rule of this
-- project.
use Rattle.std.specs.Prelude.{◌≡◌, ℕ, List, Option, Some, None, Result, Ok, Err}
use Rattle.rb_tree.specs.SourceTree.{SourceTree}
use Rattle.rb_parser.specs.Source.{IsGoodSource}
use Rattle.rb_format.specs.File.{Denotes}
use Rattle.rb_engine.specs.Place.{place_of}
use Rattle.rb_engine.specs.declared.place.Place.{Place}
use Rattle.rb_engine.specs.declared.place.PlaceFault.{PlaceFault}
use Rattle.rb_engine.specs.declared.request.Payload.{Payload}
use Rattle.rb_engine.specs.declared.request.Payload.TheVariants.{Text, File}
use Rattle.rb_engine.specs.declared.request.Request.{Request}
use Rattle.rb_engine.specs.declared.request.Request.TheVariants as request

-- a call of the engine, before it is read
pub data Call : Type 0 where
  Requests : Request → Call
  LooksUp : (app locale path : List ℕ) → Call

abbrev pub requester : Request → List ℕ
requester (request.Install app locale payload) = app
requester (request.Replace app locale payload) = app
requester (request.Remove app locale) = app
requester (request.List app) = app

-- the application that calls
abbrev pub caller : Call → List ℕ
caller (Requests r) = requester r
caller (LooksUp app locale path) = app

-- the bundle that a text or a file denotes, nothing if it is invalid, or a payload that isn't read
pub data Content : Type 0 where
  spelled : Option SourceTree → Content
  denoted : Option SourceTree → Content
  unread : Content

abbrev pub IsContent : Payload → Content → Type 0
IsContent (Text bytes) (spelled (Some source)) = (name : List ℕ) × IsGoodSource bytes name source
IsContent (Text bytes) (spelled None) = (name : List ℕ) (source : SourceTree) → IsGoodSource bytes name source → ⊥
IsContent (File bytes) (denoted (Some source)) = Denotes bytes source
IsContent (File bytes) (denoted None) = (source : SourceTree) → Denotes bytes source → ⊥
IsContent payload other = ⊥

-- a payload is read only if the request's names are valid
abbrev pub IsRead : Result Place PlaceFault → Payload → Content → Type 0
IsRead (Err e) payload content = content ≡ unread
IsRead (Ok p) payload content = IsContent payload content

-- a question that a call asks
pub data Ask : Type 0 where
  Installs : (app locale : List ℕ) → Content → Ask
  Replaces : (app locale : List ℕ) → Content → Ask
  Removes : (app locale : List ℕ) → Ask
  Lists : (app : List ℕ) → Ask
  Looks : (app locale path : List ℕ) → Ask

abbrev pub RequestMeans : Request → Ask → Type 0
RequestMeans (request.Install app locale payload) ask = (content : Content)
    × IsRead (place_of app locale) payload content × (ask ≡ Installs app locale content)
RequestMeans (request.Replace app locale payload) ask = (content : Content)
    × IsRead (place_of app locale) payload content × (ask ≡ Replaces app locale content)
RequestMeans (request.Remove app locale) ask = ask ≡ Removes app locale
RequestMeans (request.List app) ask = ask ≡ Lists app

-- what a call asks
abbrev pub Means : Call → Ask → Type 0
Means (Requests r) ask = RequestMeans r ask
Means (LooksUp app locale path) ask = ask ≡ Looks app locale path
