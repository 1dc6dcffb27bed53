-- Defines the number of levels of a written form.
use Rattle.std.proofs.Common.{ℕ, suc}
use Rattle.std.specs.Prelude.{max}
use Rattle.rb_grammar.specs.Form.{Body, plain, group, listed, leaf, table, array, Entries, no_entries, entry, Elements, no_elements, one_text, one_body}

abbrev mutual
  pub body_height : Body → ℕ
  body_height (plain s) = 1
  body_height (group es) = suc (entries_height es)
  body_height (listed xs) = suc (elements_height xs)
  body_height (leaf l) = 1
  body_height (table es) = suc (entries_height es)
  body_height (array xs) = suc (elements_height xs)

  pub entries_height : Entries → ℕ
  entries_height no_entries = 0
  entries_height (entry k b c es) = max (body_height b) (entries_height es)

  pub elements_height : Elements → ℕ
  elements_height no_elements = 0
  elements_height (one_text s c xs) = max 1 (elements_height xs)
  elements_height (one_body b c xs) = max (body_height b) (elements_height xs)
