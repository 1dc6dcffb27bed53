-- Defines the bundles of ICUDATA at the start of an engine, each a name and a payload, or the first entry that is
-- rejected, a rule of this project. The payload is checked before the name.
use Rattle.std.specs.Prelude.{◌≡◌, ◌<◌, ℕ, true, false, List, [], ◌∷◌, ◌++◌, length, Some, None}
use Rattle.rb_tree.specs.SourceTree.{SourceTree}
use Rattle.rb_packages.specs.Shelf.{Shelf, holds}
use Rattle.rb_engine.specs.Ask.{IsContent, spelled, denoted}
use Rattle.rb_engine.specs.declared.request.Payload.{Payload}
use Rattle.rb_engine.specs.declared.request.Payload.TheVariants.{Text, File}
use Rattle.rb_engine.specs.declared.start.StartFault.{StartFault}
use Rattle.rb_engine.specs.declared.start.StartFault.TheVariants.{BadText, BadFile, Twice, Memory}

-- names with payloads
abbrev pub Entries : Type 0
Entries = List (List ℕ × Payload)

-- the text spells the bundle, or the file denotes it
abbrev pub HasBundle : Payload → SourceTree → Type 0
HasBundle (Text bytes) source = IsContent (Text bytes) (spelled (Some source))
HasBundle (File bytes) source = IsContent (File bytes) (denoted (Some source))

-- the bundles after these entries, each of which has a bundle and a new name
abbrev pub Loads : Shelf → Entries → Shelf → Type 0
Loads old [] new = new ≡ old
Loads old (e ∷ es) new = (source : SourceTree) × HasBundle e.1 source × (holds e.0 old ≡ false)
    × Loads (old ++ (e.0, source) ∷ []) es new

-- the entry at an index, before which all entries are valid
pub record IsReached (entries : Entries) (at : ℕ) (name : List ℕ) (payload : Payload) (shelf : Shelf) : Type 0 where
  pub before : Entries
  pub after : Entries
  pub split : entries ≡ before ++ (name, payload) ∷ after
  pub count : length before ≡ at
  pub loaded : Loads [] before shelf

-- the first entry whose payload has no bundle, or else whose name isn't new
abbrev pub IsRefused : Entries → StartFault → Type 0
IsRefused entries (BadText i) = (name text : List ℕ) × (shelf : Shelf) × IsReached entries i name (Text text) shelf
    × IsContent (Text text) (spelled None)
IsRefused entries (BadFile i) = (name file : List ℕ) × (shelf : Shelf) × IsReached entries i name (File file) shelf
    × IsContent (File file) (denoted None)
IsRefused entries (Twice i) = (name : List ℕ) × (payload : Payload) × (source : SourceTree) × (shelf : Shelf)
    × IsReached entries i name payload shelf
    × HasBundle payload source × (holds name shelf ≡ true)
IsRefused entries Memory = Unit {0}

-- the index of a rejected entry is that of an entry
abbrev pub IsIndexed : ℕ → StartFault → Type 0
IsIndexed count (BadText i) = i < count
IsIndexed count (BadFile i) = i < count
IsIndexed count (Twice i) = i < count
IsIndexed count Memory = Unit {0}
