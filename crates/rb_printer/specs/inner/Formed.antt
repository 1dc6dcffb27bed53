-- For proofs: defines the written form of a tree, in the grammar's terms.
use Rattle.std.specs.Prelude.{ℕ, ℤ, Bool, true, false, List, [], ◌∷◌, Some}
use Rattle.std.specs.Fmt.{decimal, signed_decimal}
use Rattle.rb_tree.specs.Resource.{Resource, string, int, ints, binary, alias, array, table, Resources, no_trees}
use Rattle.rb_tree.specs.Resource.{tree_and, Members, no_entries, entry_and}
use Rattle.rb_grammar.specs.Form as form
use Rattle.rb_grammar.specs.Form.{Body, Entries, Elements, Head}
use Rattle.rb_printer.specs.Page.{hex_units, are_more, has_items, has_entries}

abbrev pub numbers_form : List ℤ → List (List ℕ × Bool)
numbers_form [] = []
numbers_form (z ∷ zs) = (signed_decimal z, are_more zs) ∷ numbers_form zs

-- the body that genrb guesses for an array or a table that is not empty; else the type is written
abbrev pub array_form : Bool → Elements → Body
array_form true xs = form.listed xs
array_form false xs = form.array xs

abbrev pub table_form : Bool → Entries → Body
table_form true es = form.group es
table_form false es = form.table es

abbrev pub item_form : Resource → Body → Elements → Elements
item_form (string us) b xs = form.one_text us true xs
item_form t b xs = form.one_body b true xs

abbrev mutual
  pub body_form : Resource → Body
  body_form (string us) = form.plain us
  body_form (int n) = form.leaf (form.int false (decimal n))
  body_form (ints zs) = form.leaf (form.ints (numbers_form zs))
  body_form (binary bs) = form.leaf (form.binary false (Some (hex_units bs)))
  body_form (alias us) = form.leaf (form.alias (Some us))
  body_form (array ts) = array_form (has_items ts) (items_form ts)
  body_form (table es) = table_form (has_entries es) (entries_form es)

  pub items_form : Resources → Elements
  items_form no_trees = form.no_elements
  items_form (tree_and t ts) = item_form t (body_form t) (items_form ts)

  pub entries_form : Members → Entries
  entries_form no_entries = form.no_entries
  entries_form (entry_and k t es) = form.entry k (body_form t) false (entries_form es)

abbrev pub head_form : Bool → Head
head_form true = form.no_fallback_table
head_form false = form.untyped
