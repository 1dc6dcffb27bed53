-- Defines the invariants of the views, for proofs only.
use Rattle.std.specs.Prelude.{◌≡◌, ℕ, ◌+◌, ◌*◌, ◌≤◌, List, Bool, IsTrue, is_some, nat_le}
use Rattle.rb_tree.specs.Limits.{height_limit}
use Rattle.rb_tree.specs.Parts.{pairs_of}
use Rattle.rb_tree.specs.Resource.{Resource}
use Rattle.rb_tree.specs.declared.kind.Kind.{Kind}
use Rattle.rb_tree.specs.declared.kind.Kind.TheVariants as named
use Rattle.rb_format.specs.declared.geometry.TableParts.{TableParts}
use Rattle.rb_format.specs.declared.kind.ItemKind.{ItemKind}
use Rattle.rb_format.specs.declared.kind.ItemKind.TheVariants.{String, Binary, Table, Alias, LongTable, Int, Array}
use Rattle.rb_format.specs.declared.kind.ItemKind.TheVariants.{Ints}
use Rattle.rb_format.specs.Place.{word_at, values, layout_of}
use Rattle.rb_format.specs.Geometry.{key_offset, keys_end}
use Rattle.rb_format.specs.Denotation.{where_holds, trees_at, table_at, tree_at}
use Rattle.rb_views.specs.Trees.{entry_at}

-- an item denotes a tree
unfoldable pub stands_for : List ℕ → ℕ → Bool
stands_for body item = is_some (tree_at (layout_of body) body height_limit item)

abbrev pub StandsFor : List ℕ → ℕ → Type 0
StandsFor body item = IsTrue (stands_for body item)

-- each of the items from a word on denotes a tree, at one level less
unfoldable pub all_stand : List ℕ → ℕ → ℕ → Bool
all_stand body first count =
    is_some (where_holds (nat_le (first + count) (layout_of body).top)
    (trees_at (λ w. tree_at (layout_of body) body 63 w) (λ i. word_at body (first + i)) 0 count))

abbrev pub AllStand : List ℕ → ℕ → ℕ → Type 0
AllStand body first count = IsTrue (all_stand body first count)

-- the parts of a table have ascending keys, and items that denote trees
unfoldable pub table_stands : List ℕ → TableParts → Bool
table_stands body p = is_some
    (table_at (layout_of body) body (λ w. tree_at (layout_of body) body 63 w) (key_offset body p.keys) p.first p.count)

abbrev pub TableStands : List ℕ → TableParts → Type 0
TableStands body p = IsTrue (table_stands body p)

-- the kind of tree that an item of a kind denotes
abbrev pub kind_named : ItemKind → Kind
kind_named String = named.String
kind_named Binary = named.Binary
kind_named Table = named.Table
kind_named Alias = named.Alias
kind_named LongTable = named.Table
kind_named Int = named.Int
kind_named Array = named.Array
kind_named Ints = named.Ints

-- the parts are those of a table with a tree's entries
pub record HasEntriesAt (body : List ℕ) (p : TableParts) (t : Resource) : Type 0 where
  pub below : keys_end p.keys p.count ≤ 4 * (layout_of body).top
  pub stand : TableStands body p
  pub are : values (λ i. entry_at body p i) 0 p.count ≡ pairs_of t
