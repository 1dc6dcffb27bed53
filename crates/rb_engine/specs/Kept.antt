-- Defines the model of an engine: its packages, the explicit parents and its version, where a bundle's file counts as
-- its source tree.
use Rattle.std.specs.Prelude.{◌≡◌, ℕ, List, ◌∷◌, ◌++◌}
use Rattle.rb_tree.specs.SourceTree.{SourceTree}
use Rattle.rb_parser.specs.Source.{IsGoodSource}
use Rattle.rb_format.specs.File.{Denotes, tree_of}
use Rattle.rb_parents.specs.Trail.{ParentsOf}
use Rattle.rb_parents.specs.Family.{parent_in}
use Rattle.rb_packages.specs.Shelf.{Shelf}
use Rattle.rb_packages.specs.Packages.{Files, Stored, shelf_of, icudata_of, list_of}
use Rattle.rb_engine.specs.Answer.{Start, lookup_from}
use Rattle.rb_engine.specs.History.{State}

pub record Kept : Type 0 where
  pub packages : Stored
  pub parents : List (List ℕ × List ℕ)
  pub version : ℕ

-- packages and parents, as each application sees them
abbrev pub state_over : ParentsOf → Stored → State
state_over parents packages = record { start = record { icudata = icudata_of packages; parents = parents }; lists = λ app. list_of app packages }

-- the engine's state, as each application sees it
abbrev pub state_of : Kept → State
state_of engine = state_over (parent_in engine.parents) engine.packages

-- a lookup over files, one of which denotes the bundle of a text, is the lookup over the text's own bundle
abbrev pub KeepsTexts : Type 0
KeepsTexts =
    (start : Start) (before after : Files) (locale text name file : List ℕ) (source : SourceTree)
    → IsGoodSource text name source
    → Denotes file source
    → (from path : List ℕ) → lookup_from start (shelf_of (before ++ (locale, file) ∷ after)) from path
    ≡ lookup_from start (shelf_of before ++ (locale, source) ∷ shelf_of after) from path

-- the lookup over a file of ICUDATA is that over the text, too
abbrev pub KeepsCommonTexts : Type 0
KeepsCommonTexts =
    (parents : ParentsOf) (own : Shelf) (before after : Files) (locale text name file : List ℕ) (source : SourceTree)
    → IsGoodSource text name source
    → Denotes file source
    → (from path : List ℕ)
    → lookup_from (record { icudata = shelf_of (before ++ (locale, file) ∷ after); parents = parents }) own from path
    ≡ lookup_from
    (record { icudata = shelf_of before ++ (locale, source) ∷ shelf_of after; parents = parents }) own from path

-- the root of the file is the tree of the text
abbrev pub KeepsTrees : Type 0
KeepsTrees = (text name file : List ℕ) (source : SourceTree) → IsGoodSource text name source → Denotes file source
    → tree_of file ≡ source.tree
