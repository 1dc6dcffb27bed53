-- Proves that the characters of signs come before those of the remaining signs.
use Rattle.std.proofs.Common.{◌≡◌, ℕ, zero, suc, ◌+◌, ℤ, Bool, true, false, not, List, [], ◌∷◌, ◌++◌, length, refl, sym, ap, ◌∙◌, append_assoc}
use Rattle.std.specs.Fmt.{decimal, signed_decimal}
use Rattle.rb_tree.specs.Resource.{Resource, string, int, ints, binary, alias, array, table, Resources, no_trees, tree_and, Members, no_entries, entry_and}
use Rattle.rb_grammar.specs.Form.{alias_word, binary_word, int_word, ints_word, table_word, array_word, no_fallback_table_word}
use Rattle.rb_printer.specs.Sign.{Sign, feed, space, left, right, colon, comma, text, pieces, is_name, sign_chars, signs_chars}
use Rattle.rb_printer.specs.Page.{hex_first, hex_later, is_short, pause, remaining_after, wraps, number_fits, item_fits, remaining_after_item}
use Rattle.rb_printer.specs.Page.{indent, comma_if, are_more, has_items, has_entries, is_guessed, numbers_signs, type_unless, gap, item_signs}
use Rattle.rb_printer.specs.Page.{head_signs, body_signs, items_signs, entries_signs}

-- the characters are those in front of nothing, and then those of the rest
pub record Splits (f : List Sign → List Sign) : Type 0 where
  pub are : (rest : List Sign) → signs_chars (f rest) ≡ signs_chars (f []) ++ signs_chars rest

pub same : Splits (λ rest. rest)
same = record { are = λ rest. refl }

pub then : (f g : List Sign → List Sign) → Splits f → Splits g → Splits (λ rest. f (g rest))
then f g p q = record {
  are = λ rest.
      p.are (g rest) ∙ ap (λ (cs : List ℕ). signs_chars (f []) ++ cs) (q.are rest)
      ∙ sym (append_assoc (signs_chars (f [])) (signs_chars (g [])) (signs_chars rest))
      ∙ ap (λ (cs : List ℕ). cs ++ signs_chars rest) (sym (p.are (g [])));
}

-- a sign in front
pub front : {f : List Sign → List Sign} (s : Sign) → Splits f → Splits (λ rest. s ∷ f rest)
front {f} s p = record {
  are = λ rest.
      ap (λ (cs : List ℕ). sign_chars s ++ cs) (p.are rest) ∙ sym (append_assoc (sign_chars s) (signs_chars (f [])) (signs_chars rest));
}

pub indent_splits : (n : ℕ) → Splits (indent n)
indent_splits zero = same
indent_splits (suc n) = front space (front space (front space (front space (indent_splits n))))

pub pause_splits : {f : List Sign → List Sign} (b : Bool) (n : ℕ) → Splits f → Splits (λ rest. pause b n (f rest))
pause_splits true n p = front space p
pause_splits {f} false n p = front feed (then (indent n) f (indent_splits n) p)

pub comma_splits : {f : List Sign → List Sign} (b : Bool) → Splits f → Splits (λ rest. comma_if b (f rest))
comma_splits true p = front comma p
comma_splits false p = p

pub numbers_split : (zs : List ℤ) (w : Bool) (level remaining : ℕ) → Splits (numbers_signs zs w level remaining)
numbers_split [] w level remaining = same
numbers_split (z ∷ zs) w level remaining =
    let fits = number_fits w remaining in
    pause_splits fits level (front (text true (signed_decimal z)) (comma_splits (are_more zs)
    (numbers_split zs w level (remaining_after fits level remaining (length (signed_decimal z))))))

pub unless_splits : {f : List Sign → List Sign} (b : Bool) (word : List ℕ) → Splits f → Splits (λ rest. type_unless b word (f rest))
unless_splits true word p = p
unless_splits false word p = front colon (front (text true word) (front space p))

pub gap_splits : {f : List Sign → List Sign} (b : Bool) → Splits f → Splits (λ rest. gap b (f rest))
gap_splits true p = front space p
gap_splits false p = p

pub head_splits : {f : List Sign → List Sign} (b : Bool) → Splits f → Splits (λ rest. head_signs b (f rest))
head_splits true p = front colon (front (text true no_fallback_table_word) (front space p))
head_splits false p = front space p

pub item_splits : (t : Resource) (f g : List Sign → List Sign) → Splits f → Splits g → Splits (λ rest. item_signs t (f (g rest)) (g rest))
item_splits (string us) f g p q = front (text false us) q
item_splits (int n) f g p q = then f g p q
item_splits (ints zs) f g p q = then f g p q
item_splits (binary bs) f g p q = then f g p q
item_splits (alias us) f g p q = then f g p q
item_splits (array ts) f g p q = then f g p q
item_splits (table es) f g p q = then f g p q

pub end_splits : (level : ℕ) → Splits (λ rest. indent level (right ∷ rest))
end_splits level = then (indent level) (λ rest. right ∷ rest) (indent_splits level) (front right same)

mutual
  pub body_splits : (t : Resource) (level : ℕ) → Splits (body_signs level t)
  body_splits (string us) level = front left (front space (front (text false us) (front space (front right same))))
  body_splits (int n) level =
      front colon (front (text true (int_word false)) (front space (front left (front space (front (text true (decimal n)) (front space (front right same)))))))
  body_splits (ints zs) level =
      front colon (front (text true ints_word) (front space (front left
      (then (numbers_signs zs (wraps (level + 1) zs) (level + 1) 0) (λ rest. pause (not (wraps (level + 1) zs)) level (right ∷ rest))
      (numbers_split zs (wraps (level + 1) zs) (level + 1) 0) (pause_splits (not (wraps (level + 1) zs)) level (front right same))))))
  body_splits (binary bs) level =
      front colon (front (text true (binary_word false)) (front space (front left
      (pause_splits (is_short bs) (level + 1) (front (pieces (level + 1) (hex_first bs 32) (hex_later bs 32))
      (pause_splits (is_short bs) level (front right same)))))))
  body_splits (alias us) level =
      front colon (front (text true alias_word) (front space (front left (front space (front (text false us) (front space (front right same)))))))
  body_splits (array ts) level =
      unless_splits (has_items ts) array_word (front left
      (then (items_signs (level + 1) ts 0) (λ rest. feed ∷ indent level (right ∷ rest)) (items_split ts (level + 1) 0) (front feed (end_splits level))))
  body_splits (table es) level =
      unless_splits (has_entries es) table_word (front left (front feed
      (then (entries_signs (level + 1) es) (λ rest. indent level (right ∷ rest)) (entries_split es (level + 1)) (end_splits level))))

  pub items_split : (ts : Resources) (level remaining : ℕ) → Splits (items_signs level ts remaining)
  items_split no_trees level remaining = same
  items_split (tree_and t ts) level remaining =
      let next = remaining_after_item level remaining t in
      pause_splits (item_fits level remaining t) level
      (item_splits t (body_signs level t) (λ rest. comma ∷ items_signs level ts next rest) (body_splits t level) (front comma (items_split ts level next)))

  pub entries_split : (es : Members) (level : ℕ) → Splits (entries_signs level es)
  entries_split no_entries level = same
  entries_split (entry_and k t es) level =
      then (indent level)
      (λ rest. text (is_name k) k ∷ gap (is_guessed t) (body_signs level t (feed ∷ entries_signs level es rest))) (indent_splits level)
      (front (text (is_name k) k) (gap_splits (is_guessed t)
      (then (body_signs level t) (λ rest. feed ∷ entries_signs level es rest) (body_splits t level) (front feed (entries_split es level)))))
