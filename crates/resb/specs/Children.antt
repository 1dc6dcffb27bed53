-- Defines the items of a table or an array, as a C program sees them, a rule of this project.
use Rattle.std.specs.Prelude.{◌≡◌, ◌⊎◌, ◌<◌, ℕ, List, [], Option, Some, None, MatchOption, length, map, unwrap_or}
use Rattle.rb_tree.specs.Keys.{items, pairs}
use Rattle.rb_tree.specs.Parts.{kind_of, len_of}
use Rattle.rb_tree.specs.Resource.{Resource, array, table}
use Rattle.rb_views.specs.Parts.{uint_of}
use Rattle.rb_views.specs.Seen.{entries_seen, trees_seen}
use Rattle.rb_engine.specs.Answer.{Response}
use Rattle.resb.specs.Looks.{IfFound, kind_number}
use Rattle.resb.specs.declared.children.Child.{Child}
use Rattle.resb.specs.declared.children.Items.{Items}
use Rattle.resb.specs.declared.children.Items.TheVariants.{Table, Array}

-- the length of an item's key, 0 in an array; and its kind, count and number, as resb_look writes them
abbrev pub Shown : Type 0
Shown = ℕ × ℕ × ℕ × ℕ

abbrev pub shown : List ℕ → Resource → Shown
shown key t = (length key, kind_number (kind_of t), len_of t, unwrap_or (uint_of t) 0)

abbrev pub shown_entry : List ℕ × Resource → Shown
shown_entry e = shown e.0 e.1

abbrev pub shown_item : Resource → Shown
shown_item t = shown [] t

abbrev pub shown_child : Child → Shown
shown_child c = (c.key_len, c.item.kind, c.item.count, c.item.number)

-- the items of a table, in the order of their keys, or of an array
abbrev pub children_of : Resource → Option (List Shown)
children_of (table es) = Some (map shown_entry (pairs es))
children_of (array ts) = Some (map shown_item (items ts))
children_of t = None

abbrev pub listed : Items → List Shown
listed (Table t) = map shown_entry (entries_seen t)
listed (Array a) = map shown_item (trees_seen a)

abbrev pub size_of : Items → ℕ
size_of (Table t) = length (entries_seen t)
size_of (Array a) = length (trees_seen a)

-- the items of the table or array that is found, or their number if there isn't room for them
abbrev pub CopiesChildren : Response → ℕ → ℕ → ℕ → List Shown → Type 0
CopiesChildren response n count room copy = IfFound response n (λ hit valid. MatchOption (children_of hit.tree) (n ≡ 6)
    (λ all. ((n ≡ 0) × (copy ≡ all)) ⊎ ((n ≡ 5) × (count ≡ length all) × (room < count))))
