-- Defines the model of a shelf that packages return: the bundles of one package by name.
use Rattle.std.specs.Prelude.{◌≡◌, ℕ, Bool, List, [], Option, Some, None}
use Rattle.std.specs.Map.{lookup}
use Rattle.std.specs.Str.{bytes_eq}
use Rattle.std.specs.Borrow.{Bor}
use Rattle.indexmap.specs.IndexMap.{IndexMap}
use Rattle.rb_tree.specs.SourceTree.{SourceTree}
use Rattle.rb_views.specs.Trees.{data_of}
use Rattle.rb_format.specs.Place.{word_at}
use Rattle.rb_views.specs.Seen.{item_data, item_word}
use Rattle.rb_packages.specs.LentItem.{lent_item}
use Rattle.rb_packages.specs.declared.lent.LentItem.{LentItem}
use Rattle.rb_packages.specs.Shelf.{bundle_at}
use Rattle.rb_packages.specs.Packages.{Files, shelf_of}
use Rattle.rb_packages.specs.declared.shelf.AppShelf.{AppShelf}

-- no files if there is no package
abbrev pub files_lent : {S : Type 0} → Option (Bor (IndexMap (List ℕ) (List ℕ) S)) → Files
files_lent None = []
files_lent (Some bundles) = bundles.now.entries

abbrev pub files_in : AppShelf → Files
files_in shelf = files_lent shelf.bundles

abbrev pub bundles_lent : AppShelf → List ℕ → Option SourceTree
bundles_lent shelf = bundle_at (shelf_of (files_in shelf))

-- the item returned for a name is word 0 of the data of that name's file
abbrev pub LendsRoot : Files → List ℕ → Option (LentItem × Bool) → Type 0
LendsRoot files name None = Unit {0}
LendsRoot files name (Some lent) = (file : List ℕ) × (lookup (bytes_eq name) files ≡ Some file)
    × (item_data (lent_item lent.0) ≡ data_of file)
    × (item_word (lent_item lent.0) ≡ word_at (data_of file) 0)
