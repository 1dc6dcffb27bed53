-- Defines the number of visits of a file, a rule of this project: the number of its places. A place is an offset and a
-- kind of a table or an array with data to which some path of items leads from the root item.
use Rattle.std.specs.Prelude.{◌≡◌, true, ℕ, zero, suc, ◌+◌, ◌*◌, ◌/◌, ◌%◌, ◌<◌, ◌==◌, ◌⊎◌, if◌then◌else◌, List, [], ◌∷◌}
use Rattle.std.specs.Prelude.{drop, Some}
use Rattle.rb_format.specs.declared.kind.ItemKind.{ItemKind}
use Rattle.rb_format.specs.declared.kind.ItemKind.TheVariants.{Table, LongTable, Array}
use Rattle.rb_format.specs.Place.{word_at, half_at, layout_of}
use Rattle.rb_format.specs.Geometry.{has_children, child_count, first_child}
use Rattle.rb_format.specs.Item.{kind_of, offset_of}

-- the child is one of the items of an item with data
pub record IsChild (body : List ℕ) (item child : ℕ) : Type 0 where
  pub kind : ItemKind
  pub i : ℕ
  pub is_kind : kind_of item ≡ Some kind
  pub full : 0 < offset_of item
  pub counted : i < child_count body kind (offset_of item)
  pub is : child ≡ word_at body (first_child body kind (offset_of item) + i)

-- the items before it, the nearest first, lead from the root item, word 0, to an item: each next one is a child of the
-- one before
abbrev pub IsWay : List ℕ → List ℕ → ℕ → Type 0
IsWay body [] item = item ≡ word_at body 0
IsWay body (b ∷ before) item = IsChild body b item × IsWay body before b

-- an offset other than 0 and a kind with children, which the last item of some path has
pub record IsPlace (body : List ℕ) (k : ItemKind) (o : ℕ) : Type 0 where
  pub before : List ℕ
  pub item : ℕ
  pub way : IsWay body before item
  pub is_kind : kind_of item ≡ Some k
  pub is_offset : offset_of item ≡ o
  pub full : 0 < o
  pub inner : has_children k ≡ true

-- the numbering of all pairs of an offset and a kind with children: three kinds for each offset, with ascending offsets
abbrev pub kind_at : ℕ → ItemKind
kind_at n = if n % 3 == 0 then Table else (if n % 3 == 1 then LongTable else Array)

abbrev pub IsPlaceAt : List ℕ → ℕ → Type 0
IsPlaceAt body n = IsPlace body (kind_at n) (n / 3)

-- exactly c of the first n numbers have the property
abbrev pub IsCount : (ℕ → Type 0) → ℕ → ℕ → Type 0
IsCount P zero c = c ≡ 0
IsCount P (suc n) c = (P n × ((d : ℕ) × (c ≡ suc d) × IsCount P n d)) ⊎ ((P n → ⊥) × IsCount P n c)

-- a file has exactly n places; their offsets are below the top of the bundle (word 4 of the data)
abbrev pub HasVisits : List ℕ → ℕ → Type 0
HasVisits bytes n =
    let body = drop (half_at bytes 0) bytes in
    IsCount (IsPlaceAt body) (3 * (layout_of body).top) n
