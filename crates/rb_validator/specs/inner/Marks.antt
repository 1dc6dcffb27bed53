-- Defines the marks of an acceptance and their invariants, for proofs only.
use Rattle.std.specs.Prelude.{◌≡◌, ◌≢◌, true, ℕ, zero, suc, ◌+◌, ◌*◌, ◌≤◌, ◌<◌, ◌==◌, if◌then◌else◌, nat_lt, List, []}
use Rattle.std.specs.Prelude.{length, slice_index, Some, Result}
use Rattle.std.specs.Prelude.{Ok, Err}
use Rattle.rb_tree.specs.Resource.{Resource, Resources, height, trees_height}
use Rattle.rb_format.specs.declared.layout.Layout.{Layout}
use Rattle.rb_format.specs.declared.kind.ItemKind.{ItemKind}
use Rattle.rb_format.specs.declared.kind.ItemKind.TheVariants.{Table, LongTable, Array}
use Rattle.rb_format.specs.declared.fault.FileFault.{FileFault}
use Rattle.rb_format.specs.declared.fault.FileFault.TheVariants.{Length, TooDeep}
use Rattle.rb_format.specs.Place.{word_at}
use Rattle.rb_format.specs.Item.{kind_of, offset_of}
use Rattle.rb_format.specs.inner.FirstFault.{◌>>=◌, read, contents, keys, trees}
use Rattle.rb_validator.specs.declared.items.children.Children.{Children}
use Rattle.rb_validator.specs.declared.items.memo.VisitState.{VisitState}
use Rattle.rb_validator.specs.declared.items.memo.VisitState.TheVariants.{New, Open, Done}
use Rattle.rb_format.specs.declared.geometry.TableParts.{TableParts}
use Rattle.rb_format.specs.Geometry.{key_offset, table_parts, long_table_parts, array_first, array_count, has_children}
use Rattle.rb_format.specs.Geometry.{child_count, first_child}
use Rattle.rb_validator.specs.Visits.{IsWay, IsPlace}

-- ---- the items of a table or an array

abbrev pub table_children : Layout → List ℕ → (ℕ → ℕ) → ℕ → ℕ → Result Children FileFault
table_children y body place from n = if nat_lt y.top (from + n) then Err Length else
    (keys y body place [] 0 n >>= λ ks. Ok (record { first = from; count = n }))

-- the children of the table with these parts
abbrev pub children_with : Layout → List ℕ → TableParts → Result Children FileFault
children_with y body p = table_children y body (key_offset body p.keys) p.first p.count

-- other kinds have no children and no fault
unfoldable pub children_at : Layout → List ℕ → ItemKind → ℕ → Result Children FileFault
children_at y body Table o = children_with y body (table_parts body o)
children_at y body LongTable o = children_with y body (long_table_parts body o)
children_at y body Array o = if nat_lt y.top (array_first o + array_count body o) then Err Length else Ok
    (record { first = array_first o; count = array_count body o })
children_at y body k o = Ok (record { first = o; count = 0 })

-- ---- marks

-- the number of the cell of a pair
abbrev pub slot : ItemKind → ℕ
slot Table = 0
slot LongTable = 1
slot k = 2

abbrev pub cell : ItemKind → ℕ → ℕ
cell k o = 3 * o + slot k

abbrev pub mark_of : ℕ → VisitState
mark_of x = if x == 0 then New else (if x == 65 then Open else Done x)

abbrev pub mark_at : List ℕ → ItemKind → ℕ → ℕ
mark_at cells k o = slice_index cells (cell k o)

-- how many of the first n cells are marked
abbrev pub marked : List ℕ → ℕ → ℕ
marked cells zero = 0
marked cells (suc n) = if slice_index cells n == 0 then marked cells n else suc (marked cells n)

-- a table or array with data is marked
abbrev pub IsKnown : List ℕ → ℕ → Type 0
IsKnown cells w = (k : ItemKind) → kind_of w ≡ Some k → has_children k ≡ true → 0 < offset_of w
    → mark_at cells k (offset_of w) ≢ 0

-- a finished pair: its tree has the height of the mark, and its children are known
pub record IsDone (y : Layout) (body cells : List ℕ) (k : ItemKind) (o h : ℕ) : Type 0 where
  pub tree : Resource
  pub level : ℕ
  pub is : contents y body (λ w. read y body level w) o k ≡ Ok tree
  pub high : height tree ≡ h
  pub known : (i : ℕ) → i < child_count body k o → IsKnown cells (word_at body (first_child body k o + i))

-- the invariant of the marks
pub record Keeps (y : Layout) (body cells : List ℕ) : Type 0 where
  pub long : length cells ≡ 3 * y.top
  pub done : (k : ItemKind) (o : ℕ) → has_children k ≡ true → mark_at cells k o ≢ 0 → mark_at cells k o ≢ 65
      → IsDone y body cells k o (mark_at cells k o)
  pub place : (k : ItemKind) (o : ℕ) → has_children k ≡ true → mark_at cells k o ≢ 0 → IsPlace body k o

-- marks that are set stay, and those opened in between are finished
pub record Follows (cells after : List ℕ) : Type 0 where
  pub stays : (n : ℕ) → slice_index cells n ≢ 0 → slice_index after n ≡ slice_index cells n
  pub closes : (n : ℕ) → slice_index cells n ≡ 0 → slice_index after n ≢ 65

-- each open pair is too deep at each level e if Q holds at some level d ≤ e: no other fault comes first
pub record Leads (y : Layout) (body cells : List ℕ) (Q : ℕ → Type 0) : Type 0 where
  pub at : (k : ItemKind) (o : ℕ) → has_children k ≡ true → mark_at cells k o ≡ 65 → (e : ℕ)
      → (d : ℕ) × (d ≤ e) × (Q d → contents y body (λ w. read y body e w) o k ≡ Err TooDeep)

-- before an item is checked, and after
pub record IsMet (body : List ℕ) (item : ℕ) : Type 0 where
  pub before : List ℕ
  pub way : IsWay body before item

pub record After (y : Layout) (body cells after : List ℕ) : Type 0 where
  pub keeps : Keeps y body after
  pub follows : Follows cells after

-- ---- spans of items

-- the trees of n consecutive items
abbrev pub run_of : Layout → List ℕ → ℕ → ℕ → ℕ → Result Resources FileFault
run_of y body e from n = trees (λ w. read y body e w) (word_at body) from n

abbrev pub IsRunKnown : List ℕ → List ℕ → ℕ → ℕ → Type 0
IsRunKnown body cells from n = (i : ℕ) → i < n → IsKnown cells (word_at body (from + i))

-- the items have trees, the highest of this height, and are known
pub record IsRun (y : Layout) (body cells : List ℕ) (from n h : ℕ) : Type 0 where
  pub items : Resources
  pub level : ℕ
  pub is : run_of y body level from n ≡ Ok items
  pub high : trees_height items ≡ h
  pub known : IsRunKnown body cells from n
