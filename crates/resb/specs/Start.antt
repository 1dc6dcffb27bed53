-- Defines the engine that a C program opens with bundles of ICUDATA and explicit parents, or the first error, a rule of
-- this project.
use Rattle.std.specs.Prelude.{◌≡◌, ◌⊎◌, ◌∷◌, ℕ, List, [], Option, Some, None, map, option_map, take, slice_get, codes}
use Rattle.rb_tree.specs.SourceTree.{SourceTree}
use Rattle.rb_parser.specs.Source.{IsGoodSource, IsRefusal}
use Rattle.rb_locales.specs.Locale.{name}
use Rattle.rb_parents.specs.Trail.{ParentsOf}
use Rattle.rb_parents.specs.Explicit.{GivesParents, RefusesParents}
use Rattle.rb_parents.specs.Words.{parents_word}
use Rattle.rb_parents.specs.declared.fault.ParentsFault.{ParentsFault}
use Rattle.rb_parents.specs.declared.fault.ParentsFault.TheVariants as parents
use Rattle.rb_engine.specs.Kept.{Kept, state_of}
use Rattle.rb_engine.specs.Start.{Entries, Loads}
use Rattle.rb_engine.specs.Start as engine
use Rattle.rb_engine.specs.declared.request.Payload.{Payload}
use Rattle.rb_engine.specs.declared.start.StartFault.TheVariants as entries
use Rattle.resb.specs.Changes.{payload_of}
use Rattle.resb.specs.Numbers.{code_number, text_number}
use Rattle.resb.specs.declared.entry.Entry.{Entry}
use Rattle.resb.specs.declared.start.StartError.{StartError}
use Rattle.resb.specs.declared.start.StartError.TheVariants.{Locale, Entries as Entry_fault, Text, Parents, Memory}

-- the name and the payload of an entry, whose locale must be a name
abbrev pub entry_of : Entry → Option (List ℕ × Payload)
entry_of e = option_map (λ n. (n, payload_of e.is_text e.bytes.now)) (name e.locale.now)

abbrev pub AreEntries : List Entry → Entries → Type 0
AreEntries given entries = map Some entries ≡ map entry_of given

-- the parents that a text gives; an empty one gives none
abbrev pub HasParents : List ℕ → ParentsOf → Type 0
HasParents text m = ((text ≡ []) × ((n : List ℕ) → m n ≡ None))
    ⊎ ((bundle : List ℕ) × (source : SourceTree) × IsGoodSource text bundle source × GivesParents source.tree m)

-- an engine with these bundles of ICUDATA, these parents, and no bundles of applications
abbrev pub IsStarted : List Entry → List ℕ → Kept → Type 0
IsStarted given text engine = (entries : Entries) × AreEntries given entries
    × Loads [] entries (state_of engine).start.icudata
    × ((m : ParentsOf) × HasParents text m × ((n : List ℕ) → (state_of engine).start.parents n ≡ m n))
    × ((app : List ℕ) → (state_of engine).lists app ≡ [])

-- the locales of all entries are names
abbrev pub AreNamed : List Entry → Type 0
AreNamed given = (entries : Entries) × AreEntries given entries

-- the first entry whose locale isn't a name
abbrev pub IsFirstUnnamed : List Entry → ℕ → Type 0
IsFirstUnnamed es i = (e : Entry) × (slice_get es i ≡ Some e) × (name e.locale.now ≡ None) × AreNamed (take i es)

abbrev pub IsEntryError : List Entry → StartError → Type 0
IsEntryError given (Locale i) = IsFirstUnnamed given i
IsEntryError given Memory = Unit {0}
IsEntryError given error = ⊥

-- the first error of the parents that a good text gives
abbrev pub IsParentsFault : List ℕ → ParentsFault → Type 0
IsParentsFault text fault = (fault ≡ parents.Memory)
    ⊎ ((bundle : List ℕ) × (source : SourceTree) × IsGoodSource text bundle source × RefusesParents source.tree fault)

abbrev pub IsParentsError : List ℕ → StartError → Type 0
IsParentsError text (Text fault) = IsRefusal text fault
IsParentsError text (Parents fault) = IsParentsFault text fault
IsParentsError text Memory = Unit {0}
IsParentsError text error = ⊥

-- an error of the entries' locales, of the parents, or of the entries' payloads: each only if the earlier ones have none
abbrev pub IsStartError : List Entry → List ℕ → StartError → Type 0
IsStartError given text (Locale i) = IsFirstUnnamed given i
IsStartError given text (Text fault) = AreNamed given × IsRefusal text fault
IsStartError given text (Parents fault) = AreNamed given × IsParentsFault text fault
IsStartError given text (Entry_fault fault) = ((m : ParentsOf) × HasParents text m)
    × ((entries : Entries) × AreEntries given entries × engine.IsRefused entries fault)
IsStartError given text Memory = Unit {0}

-- the number of an error, and the index of its entry or its line in the text
abbrev pub error_at : StartError → ℕ × ℕ
error_at (Locale i) = (13, i)
error_at (Entry_fault (entries.BadText i)) = (14, i)
error_at (Entry_fault (entries.BadFile i)) = (15, i)
error_at (Entry_fault (entries.Twice i)) = (19, i)
error_at (Text fault) = (text_number fault.kind, fault.line)
error_at (Parents fault) =
    (code_number 71 (codes "Shape" ∷ codes "BadLocale" ∷ codes "TwoParents" ∷ []) (parents_word fault), 0)
error_at error = (1, 0)

-- the number and the place of the error
abbrev pub IsRefused : List Entry → List ℕ → ℕ → ℕ → Type 0
IsRefused given text n place = (error : StartError) × IsStartError given text error × (n ≡ (error_at error).0)
    × (place ≡ (error_at error).1)
