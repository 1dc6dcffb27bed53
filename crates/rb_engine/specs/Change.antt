-- Defines how a request changes the stored files, a rule of this project.
use Rattle.std.specs.Prelude.{◌≡◌, ℕ, List, [], ◌∷◌, ◌++◌, Result, Ok, Err}
use Rattle.std.specs.Map.{set_value, remove_entry}
use Rattle.std.specs.Str.{bytes_eq}
use Rattle.rb_compiler.specs.Compiled.{IsCompiled}
use Rattle.rb_packages.specs.Packages.{Files, Stored, files_of, OthersStay}
use Rattle.rb_engine.specs.declared.handle.Change.{Change}
use Rattle.rb_engine.specs.declared.handle.Change.TheVariants as changes
use Rattle.rb_engine.specs.declared.place.Place.{Place}
use Rattle.rb_engine.specs.declared.place.PlaceFault.{PlaceFault}
use Rattle.rb_engine.specs.declared.request.Payload.{Payload}
use Rattle.rb_engine.specs.declared.request.Payload.TheVariants.{Text, File}
use Rattle.rb_engine.specs.declared.request.Reply.{Reply}
use Rattle.rb_engine.specs.declared.request.Reply.TheVariants.{Done}

-- the file of a payload's bundle: the file that the text compiles to, or the payload itself
abbrev pub IsFileOf : Payload → List ℕ → Type 0
IsFileOf (Text bytes) file = IsCompiled bytes file
IsFileOf (File bytes) file = file ≡ bytes

-- an application's files after a change: the new one at the end, or instead of the one with its name
abbrev pub files_after : Change → List ℕ → List ℕ → Files → Files
files_after changes.Install name file files = files ++ (name, file) ∷ []
files_after changes.Replace name file files = set_value (bytes_eq name) files file

-- a removal that succeeds removes the application's file with that name, and changes no other application's files
pub record RemovesAt (p : Place) (reply : Reply) (old new : Stored) : Type 0 where
  pub own : reply ≡ Done → files_of p.app new ≡ remove_entry (bytes_eq p.name) (files_of p.app old)
  pub others : OthersStay p.app old new

-- a removal with invalid names changes nothing
abbrev pub Removes : Result Place PlaceFault → Reply → Stored → Stored → Type 0
Removes (Ok p) reply old new = RemovesAt p reply old new
Removes (Err e) reply old new = new ≡ old
