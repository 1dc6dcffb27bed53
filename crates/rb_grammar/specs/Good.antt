-- Defines the meaning of a bundle's written form, after ICU's genrb: the conditions on its keys, and the tree that it
-- spells.
use Rattle.std.specs.Prelude.{◌≡◌, ◌≤◌, ℕ, ℤ, Bool, List, [], ◌∷◌, Option, Some, None, nat_eq}
use Rattle.std.specs.Map.{lookup}
use Rattle.std.specs.Cmp.Lexicographic.{pointwise}
use Rattle.rb_lexer.specs.declared.token.Mark.{Mark}
use Rattle.rb_tree.specs.Resource.{Resource, Resources, no_trees, tree_and, Members, height, weight}
use Rattle.rb_tree.specs.Resource as resource
use Rattle.rb_tree.specs.Keys.{IsKey, IsTable, pairs}
use Rattle.rb_tree.specs.SourceTree.{SourceTree}
use Rattle.rb_grammar.specs.Numeral.{IsIntText, IsElementText, IsHexText}
use Rattle.rb_grammar.specs.Form.{Leaf, string, alias, binary, int, ints, Body, plain, group, listed, leaf, table}
use Rattle.rb_grammar.specs.Form.{array, Entries, no_entries, entry, Elements}
use Rattle.rb_grammar.specs.Form.{no_elements, one_text, one_body, Head, bundle_marks, has_no_fallback, AreForms}
use Rattle.rb_grammar.specs.Form.{IsKeyOf}
use Rattle.rb_tree.specs.Limits.{height_limit, weight_limit}

-- Each key is valid, and no table repeats one.
abbrev mutual
  pub HasKeys : Body → Type 0
  HasKeys (plain t) = Unit {0}
  HasKeys (group es) = HaveKeys es
  HasKeys (listed xs) = EachHasKeys xs
  HasKeys (leaf l) = Unit {0}
  HasKeys (table es) = HaveKeys es
  HasKeys (array xs) = EachHasKeys xs

  pub HaveKeys : Entries → Type 0
  HaveKeys no_entries = Unit {0}
  HaveKeys (entry k b c es) = IsKey k × (IsKeyOf es k → ⊥) × HasKeys b × HaveKeys es

  pub EachHasKeys : Elements → Type 0
  EachHasKeys no_elements = Unit {0}
  EachHasKeys (one_text t c xs) = EachHasKeys xs
  EachHasKeys (one_body b c xs) = HasKeys b × EachHasKeys xs

-- the text, or no units if it is missing
abbrev pub text_or_none : Option (List ℕ) → List ℕ
text_or_none None = []
text_or_none (Some t) = t

-- the texts spell the numbers, in order
abbrev pub AreElementTexts : List (List ℕ × Bool) → List ℤ → Type 0
AreElementTexts [] [] = Unit {0}
AreElementTexts [] (z ∷ zs) = ⊥
AreElementTexts (n ∷ ns) [] = ⊥
AreElementTexts (n ∷ ns) (z ∷ zs) = IsElementText n.0 z × AreElementTexts ns zs

abbrev pub LeafSpells : Leaf → Resource → Type 0
LeafSpells (string t) d = d ≡ resource.string (text_or_none t)
LeafSpells (alias t) d = d ≡ resource.alias (text_or_none t)
LeafSpells (binary long t) d = (bytes : List ℕ) × IsHexText (text_or_none t) bytes × (d ≡ resource.binary bytes)
LeafSpells (int long t) d = (n : ℕ) × IsIntText t n × (d ≡ resource.int n)
LeafSpells (ints ns) d = (zs : List ℤ) × AreElementTexts ns zs × (d ≡ resource.ints zs)

-- the item of a table at a key
abbrev pub item_at : List ℕ → Members → Option Resource
item_at k rows = lookup (pointwise nat_eq k) (pairs rows)

-- a table with the keys of the entries and no others
abbrev pub HasJust : Entries → Members → Type 0
HasJust es rows = (k : List ℕ) (d : Resource) → item_at k rows ≡ Some d → IsKeyOf es k

-- The tree is the written one: a table has the written item at each written key, and nothing else; an array has the
-- elements in their order.
abbrev mutual
  pub Spells : Body → Resource → Type 0
  Spells (plain t) d = d ≡ resource.string t
  Spells (group es) d = (rows : Members) × (d ≡ resource.table rows) × IsTable rows × HasJust es rows
      × EachAtItsKey es rows
  Spells (listed xs) d = (ts : Resources) × (d ≡ resource.array ts) × EachSpells xs ts
  Spells (leaf l) d = LeafSpells l d
  Spells (table es) d = (rows : Members) × (d ≡ resource.table rows) × IsTable rows × HasJust es rows
      × EachAtItsKey es rows
  Spells (array xs) d = (ts : Resources) × (d ≡ resource.array ts) × EachSpells xs ts

  pub EachAtItsKey : Entries → Members → Type 0
  EachAtItsKey no_entries rows = Unit {0}
  EachAtItsKey (entry k b c es) rows = ((d : Resource) × (item_at k rows ≡ Some d) × Spells b d) × EachAtItsKey es rows

  pub EachSpells : Elements → Resources → Type 0
  EachSpells no_elements ts = ts ≡ no_trees
  EachSpells (one_text t c xs) ts = (us : Resources) × (ts ≡ tree_and (resource.string t) us) × EachSpells xs us
  EachSpells (one_body b c xs) ts = (d : Resource) × (us : Resources) × (ts ≡ tree_and d us) × Spells b d
      × EachSpells xs us

-- The marks spell a bundle of this name, tree and flag.
pub record IsSpelled (marks : List Mark) (name : List ℕ) (source : SourceTree) : Type 0 where
  pub head : Head
  pub form : Entries
  pub spelled : marks ≡ bundle_marks name head form
  pub good : AreForms form
  pub keys : HaveKeys form
  pub means : Spells (table form) source.tree
  pub flag : source.no_fallback ≡ has_no_fallback head

-- The marks spell it, its table has at most this many levels, and its weight is within the limit of a bundle.
pub record IsGoodWithin (levels : ℕ) (marks : List Mark) (name : List ℕ) (source : SourceTree) : Type 0 where
  pub whole : IsSpelled marks name source
  pub low : height source.tree ≤ levels
  pub light : weight source.tree ≤ weight_limit

-- a good bundle: within 64 levels
abbrev pub IsGood : List Mark → List ℕ → SourceTree → Type 0
IsGood marks name source = IsGoodWithin height_limit marks name source
