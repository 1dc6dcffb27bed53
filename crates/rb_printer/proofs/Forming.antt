-- Proves that the marks of a page are those of the tree's written form, and that no two of its texts are adjacent.
use Rattle.std.proofs.Common.{◌≡◌, ℕ, zero, suc, ◌<◌, ◌^◌, ℤ, pos, negsuc, Bool, true, false, List, [], ◌∷◌, ◌++◌, refl, ap, ◌∙◌, arith, get_or}
use Rattle.std.specs.Prelude.{nat_lt, not, cond, length, ◌+◌, ◌/◌, ◌%◌, ◌≤◌}
use Rattle.std.specs.Map.{keys_of}
use Rattle.std.specs.List.{AllByRecursion, list_all}
use Rattle.std.specs.Char.{digit_char}
use Rattle.std.specs.Fmt.{decimal, signed_decimal}
use Rattle.std.proofs.lemmas.Bool.{ltb-true}
use Rattle.std.proofs.lemmas.Fmt.{IsAscii-decimal}
use Rattle.rb_lexer.specs.declared.token.Mark.{Mark}
use Rattle.rb_lexer.specs.declared.token.Mark.TheVariants.{Text, LeftBrace, RightBrace, Colon, Comma}
use Rattle.rb_tree.specs.Resource.{Resource, string, int, ints, binary, alias, array, table, Resources, no_trees, tree_and, Members, no_entries, entry_and}
use Rattle.rb_tree.specs.Keys.{IsKey, IsTable, pairs}
use Rattle.rb_grammar.specs.Form.{int_word, ints_word, binary_word, alias_word, array_word, table_word, no_fallback_table_word, body_marks, entries_marks}
use Rattle.rb_grammar.specs.Form.{Body, Entries, Elements, comma_marks, elements_marks, numbers_marks, bundle_marks}
use Rattle.rb_printer.specs.Sign.{Sign, feed, left, right, comma, text, pieces, joined, is_name, signs_marks}
use Rattle.rb_printer.specs.Page.{hex_first, hex_later, is_short, pause, remaining_after, wraps, number_fits, item_fits, remaining_after_item}
use Rattle.rb_printer.specs.Page.{hex_units, indent, comma_if, are_more, has_items, has_entries, is_guessed, numbers_signs, type_unless, gap, item_signs}
use Rattle.rb_printer.specs.Page.{head_signs, body_signs, items_signs, entries_signs, page}
use Rattle.rb_printer.specs.inner.Lexed.{EachUnits, Apart}
use Rattle.rb_printer.specs.inner.Formed.{numbers_form, array_form, table_form, item_form, body_form, items_form, entries_form, head_form}
use Rattle.rb_printer.specs.Sound.{AreUnits, AreBytes, IsNumber, IsSound, AreSound, EachSound}
use Rattle.rb_printer.proofs.Tests.{and_left, and_right}

-- ---- marks

indent_marks : (n : ℕ) (rest : List Sign) → signs_marks (indent n rest) ≡ signs_marks rest
indent_marks zero rest = refl
indent_marks (suc n) rest = indent_marks n rest

pause_marks : (b : Bool) (n : ℕ) (rest : List Sign) → signs_marks (pause b n rest) ≡ signs_marks rest
pause_marks true n rest = refl
pause_marks false n rest = indent_marks n rest

comma_marks_are : (b : Bool) (rest : List Sign) → signs_marks (comma_if b rest) ≡ comma_marks b (signs_marks rest)
comma_marks_are true rest = refl
comma_marks_are false rest = refl

numbers_marks_are : (zs : List ℤ) (w : Bool) (level remaining : ℕ) (rest : List Sign)
    → signs_marks (numbers_signs zs w level remaining rest) ≡ numbers_marks (numbers_form zs) (signs_marks rest)
numbers_marks_are [] w level remaining rest = refl
numbers_marks_are (z ∷ zs) w level remaining rest =
    let fits = number_fits w remaining in
    let next = remaining_after fits level remaining (length (signed_decimal z)) in
    pause_marks fits level (text true (signed_decimal z) ∷ comma_if (are_more zs) (numbers_signs zs w level next rest))
    ∙ ap (λ (ms : List Mark). Text (signed_decimal z) ∷ ms)
    (comma_marks_are (are_more zs) (numbers_signs zs w level next rest) ∙ ap (comma_marks (are_more zs)) (numbers_marks_are zs w level next rest))

pub hex_joined : (bs : List ℕ) (remaining : ℕ) → hex_first bs remaining ++ joined (hex_later bs remaining) ≡ hex_units bs
hex_joined [] remaining = refl
hex_joined (b ∷ bs) zero = ap (λ (us : List ℕ). digit_char (b / 16) ∷ digit_char (b % 16) ∷ us) (hex_joined bs 31)
hex_joined (b ∷ bs) (suc n) = ap (λ (us : List ℕ). digit_char (b / 16) ∷ digit_char (b % 16) ∷ us) (hex_joined bs n)

array_marks : (b : Bool) (ss : List Sign) (xs : Elements) (ms : List Mark) → signs_marks ss ≡ elements_marks xs (RightBrace ∷ ms)
    → signs_marks (type_unless b array_word (left ∷ ss)) ≡ body_marks (array_form b xs) ms
array_marks true ss xs ms e = ap (λ (ns : List Mark). LeftBrace ∷ ns) e
array_marks false ss xs ms e = ap (λ (ns : List Mark). Colon ∷ Text array_word ∷ LeftBrace ∷ ns) e

table_marks : (b : Bool) (ss : List Sign) (es : Entries) (ms : List Mark) → signs_marks ss ≡ entries_marks es (RightBrace ∷ ms)
    → signs_marks (type_unless b table_word (left ∷ feed ∷ ss)) ≡ body_marks (table_form b es) ms
table_marks true ss es ms e = ap (λ (ns : List Mark). LeftBrace ∷ ns) e
table_marks false ss es ms e = ap (λ (ns : List Mark). Colon ∷ Text table_word ∷ LeftBrace ∷ ns) e

gap_marks : (b : Bool) (ss : List Sign) → signs_marks (gap b ss) ≡ signs_marks ss
gap_marks true ss = refl
gap_marks false ss = refl

item_marks : (t : Resource) (b : Body) (xs : Elements) (body after : List Sign) (ms : List Mark) → signs_marks body ≡ body_marks b (Comma ∷ elements_marks xs ms)
    → signs_marks after ≡ Comma ∷ elements_marks xs ms → signs_marks (item_signs t body after) ≡ elements_marks (item_form t b xs) ms
item_marks (string us) b xs body after ms p q = ap (λ (ns : List Mark). Text us ∷ ns) q
item_marks (int n) b xs body after ms p q = p
item_marks (ints zs) b xs body after ms p q = p
item_marks (binary bs) b xs body after ms p q = p
item_marks (alias us) b xs body after ms p q = p
item_marks (array ts) b xs body after ms p q = p
item_marks (table es) b xs body after ms p q = p

mutual
  pub body_marks_are : (t : Resource) (level : ℕ) (rest : List Sign) → signs_marks (body_signs level t rest) ≡ body_marks (body_form t) (signs_marks rest)
  body_marks_are (string us) level rest = refl
  body_marks_are (int n) level rest = refl
  body_marks_are (ints zs) level rest =
      let w = wraps (level + 1) zs in
      let end = pause (not w) level (right ∷ rest) in
      ap (λ (ms : List Mark). Colon ∷ Text ints_word ∷ LeftBrace ∷ ms)
      (numbers_marks_are zs w (level + 1) 0 end ∙ ap (numbers_marks (numbers_form zs)) (pause_marks (not w) level (right ∷ rest)))
  body_marks_are (binary bs) level rest =
      let end = pause (is_short bs) level (right ∷ rest) in
      ap (λ (ms : List Mark). Colon ∷ Text (binary_word false) ∷ LeftBrace ∷ ms)
      (pause_marks (is_short bs) (level + 1) (pieces (level + 1) (hex_first bs 32) (hex_later bs 32) ∷ end)
      ∙ ap (λ (us : List ℕ). Text us ∷ signs_marks end) (hex_joined bs 32)
      ∙ ap (λ (ms : List Mark). Text (hex_units bs) ∷ ms) (pause_marks (is_short bs) level (right ∷ rest)))
  body_marks_are (alias us) level rest = refl
  body_marks_are (array ts) level rest =
      array_marks (has_items ts) (items_signs (level + 1) ts 0 (feed ∷ indent level (right ∷ rest))) (items_form ts) (signs_marks rest)
      (items_marks_are ts (level + 1) 0 (feed ∷ indent level (right ∷ rest)) ∙ ap (elements_marks (items_form ts)) (indent_marks level (right ∷ rest)))
  body_marks_are (table es) level rest =
      table_marks (has_entries es) (entries_signs (level + 1) es (indent level (right ∷ rest))) (entries_form es) (signs_marks rest)
      (entries_marks_are es (level + 1) (indent level (right ∷ rest)) ∙ ap (entries_marks (entries_form es)) (indent_marks level (right ∷ rest)))

  pub items_marks_are : (ts : Resources) (level remaining : ℕ) (rest : List Sign)
      → signs_marks (items_signs level ts remaining rest) ≡ elements_marks (items_form ts) (signs_marks rest)
  items_marks_are no_trees level remaining rest = refl
  items_marks_are (tree_and t ts) level remaining rest =
      let next = remaining_after_item level remaining t in
      let after = comma ∷ items_signs level ts next rest in
      let later = items_marks_are ts level next rest in
      pause_marks (item_fits level remaining t) level (item_signs t (body_signs level t after) after)
      ∙ item_marks t (body_form t) (items_form ts) (body_signs level t after) after (signs_marks rest)
      (body_marks_are t level after ∙ ap (λ (ms : List Mark). body_marks (body_form t) (Comma ∷ ms)) later) (ap (λ (ms : List Mark). Comma ∷ ms) later)

  pub entries_marks_are : (es : Members) (level : ℕ) (rest : List Sign) → signs_marks (entries_signs level es rest) ≡ entries_marks (entries_form es) (signs_marks rest)
  entries_marks_are no_entries level rest = refl
  entries_marks_are (entry_and k t es) level rest =
      let body = body_signs level t (feed ∷ entries_signs level es rest) in
      indent_marks level (text (is_name k) k ∷ gap (is_guessed t) body)
      ∙ ap (λ (ms : List Mark). Text k ∷ ms)
      (gap_marks (is_guessed t) body ∙ body_marks_are t level (feed ∷ entries_signs level es rest)
      ∙ ap (body_marks (body_form t)) (entries_marks_are es level rest))

pub page_marks : (name : List ℕ) (no_fallback : Bool) (es : Members) → signs_marks (page name no_fallback es) ≡ bundle_marks name (head_form no_fallback) (entries_form es)
page_marks name true es =
    ap (λ (ms : List Mark). Text name ∷ Colon ∷ Text no_fallback_table_word ∷ LeftBrace ∷ ms) (entries_marks_are es 1 (right ∷ feed ∷ []))
page_marks name false es = ap (λ (ms : List Mark). Text name ∷ LeftBrace ∷ ms) (entries_marks_are es 1 (right ∷ feed ∷ []))

-- ---- texts apart

listed : (us : List ℕ) → list_all (λ u. nat_lt u 65536) us ≡ true → AllByRecursion (λ u. u < 65536) us
listed [] e = tt
listed (u ∷ us) e = (ltb-true u 65536 (and_left _ _ e), listed us (and_right _ _ e))

ascii : (us : List ℕ) → ((i : ℕ) → get_or us i 0 < 128) → AllByRecursion (λ u. u < 65536) us
ascii [] h = tt
ascii (u ∷ us) h = (let low : u < 128 = h 0 in omega arith, ascii us (λ i. h (suc i)))

decimal_units : (n : ℕ) → n < 2 ^ 28 → AllByRecursion (λ u. u < 65536) (decimal n)
decimal_units n h = ascii (decimal n) (IsAscii-decimal n (omega arith))

number_units : (z : ℤ) → IsNumber z → AllByRecursion (λ u. u < 65536) (signed_decimal z)
number_units (pos n) h = ascii (decimal n) (IsAscii-decimal n (omega arith))
number_units (negsuc n) h = (omega arith, ascii (decimal (suc n)) (IsAscii-decimal (suc n) (omega arith)))

digit_unit : (d : ℕ) → d < 16 → digit_char d < 65536
digit_unit d h = by (nat_lt d 10) where
  by : (b : Bool) → cond b (48 + d) (87 + d) < 65536
  by true = omega arith
  by false = omega arith

first_units : (bs : List ℕ) (remaining : ℕ) → AreBytes bs → AllByRecursion (λ u. u < 65536) (hex_first bs remaining)
first_units [] remaining h = tt
first_units (b ∷ bs) zero h = tt
first_units (b ∷ bs) (suc n) h =
    let low : b < 256 = h.0 in (digit_unit (b / 16) (omega arith), (digit_unit (b % 16) (omega arith), first_units bs n h.1))

later_units : (bs : List ℕ) (remaining : ℕ) → AreBytes bs → EachUnits (hex_later bs remaining)
later_units [] remaining h = tt
later_units (b ∷ bs) zero h =
    let low : b < 256 = h.0 in
    ((digit_unit (b / 16) (omega arith), (digit_unit (b % 16) (omega arith), first_units bs 31 h.1)), later_units bs 31 h.1)
later_units (b ∷ bs) (suc n) h = later_units bs n h.1

key_low : (k : List ℕ) → ((i d : ℕ) → i < length k → (32 ≤ get_or k i d) × (get_or k i d ≤ 126)) → AllByRecursion (λ u. u < 65536) k
key_low [] h = tt
key_low (u ∷ us) h =
    (let low : (32 ≤ u) × (u ≤ 126) = h 0 0 (omega arith) in omega arith, key_low us (λ i d e. h (suc i) d (omega arith)))

key_units : (k : List ℕ) → IsKey k → AllByRecursion (λ u. u < 65536) k
key_units k h = key_low k h.1

indent_apart : (b : Bool) (n : ℕ) (rest : List Sign) → Apart b rest → Apart b (indent n rest)
indent_apart b zero rest h = h
indent_apart b (suc n) rest h = indent_apart b n rest h

pause_apart : (b c : Bool) (n : ℕ) (rest : List Sign) → Apart b rest → Apart b (pause c n rest)
pause_apart b true n rest h = h
pause_apart b false n rest h = indent_apart b n rest h

comma_apart : (zs : List ℤ) (w : Bool) (level remaining : ℕ) (rest : List Sign) → ((b : Bool) → Apart b rest) → Apart false (numbers_signs zs w level remaining rest)
    → Apart true (comma_if (are_more zs) (numbers_signs zs w level remaining rest))
comma_apart [] w level remaining rest h p = h true
comma_apart (z ∷ zs) w level remaining rest h p = p

numbers_apart : (zs : List ℤ) (w : Bool) (level remaining : ℕ) (rest : List Sign) → AllByRecursion IsNumber zs → ((b : Bool) → Apart b rest)
    → Apart false (numbers_signs zs w level remaining rest)
numbers_apart [] w level remaining rest s h = h false
numbers_apart (z ∷ zs) w level remaining rest s h =
    let fits = number_fits w remaining in
    let next = remaining_after fits level remaining (length (signed_decimal z)) in
    pause_apart false fits level (text true (signed_decimal z) ∷ comma_if (are_more zs) (numbers_signs zs w level next rest))
    (refl, number_units z s.0, comma_apart zs w level next rest h (numbers_apart zs w level next rest s.1 h))

unless_apart : (g b : Bool) (word : List ℕ) (ss : List Sign) → AllByRecursion (λ u. u < 65536) word → Apart false ss → Apart b (type_unless g word (left ∷ ss))
unless_apart true b word ss w h = h
unless_apart false b word ss w h = (refl, w, h)

gap_apart : (g : Bool) (ss : List Sign) → Apart true ss → Apart true (gap g ss)
gap_apart true ss h = h
gap_apart false ss h = h

item_apart : (t : Resource) (body ss : List Sign) → IsSound t → Apart false body → Apart false ss → Apart false (item_signs t body (comma ∷ ss))
item_apart (string us) body ss s p h = (refl, s, h)
item_apart (int n) body ss s p h = p
item_apart (ints zs) body ss s p h = p
item_apart (binary bs) body ss s p h = p
item_apart (alias us) body ss s p h = p
item_apart (array ts) body ss s p h = p
item_apart (table es) body ss s p h = p

abbrev pub KeysAre : Members → Type 0
KeysAre no_entries = Unit {0}
KeysAre (entry_and k t es) = IsKey k × KeysAre es

keys_from : (es : Members) → ((i : ℕ) (d : List ℕ) → i < length (keys_of (pairs es)) → IsKey (get_or (keys_of (pairs es)) i d)) → KeysAre es
keys_from no_entries h = tt
keys_from (entry_and k t es) h = (h 0 [] (omega arith), keys_from es (λ i d e. h (suc i) d (omega arith)))

pub keys_are : (es : Members) → IsTable es → KeysAre es
keys_are es t = keys_from es t.keys_ok

mutual
  pub body_apart : (t : Resource) (b : Bool) (level : ℕ) (rest : List Sign) → IsSound t → Apart false rest → Apart b (body_signs level t rest)
  body_apart (string us) b level rest s h = (refl, s, h)
  body_apart (int n) b level rest s h = (refl, listed (int_word false) refl, (refl, decimal_units n s, h))
  body_apart (ints zs) b level rest s h = (
    refl,
    listed ints_word refl,
    numbers_apart zs (wraps (level + 1) zs) (level + 1) 0
        (pause (not (wraps (level + 1) zs)) level (right ∷ rest)) s (λ b. pause_apart b (not (wraps (level + 1) zs)) level (right ∷ rest) h),
  )
  body_apart (binary bs) b level rest s h = (
    refl,
    listed (binary_word false) refl,
    pause_apart false (is_short bs) (level + 1) (pieces (level + 1) (hex_first bs 32) (hex_later bs 32) ∷ pause (is_short bs) level (right ∷ rest))
        (refl, first_units bs 32 s, later_units bs 32 s, pause_apart true (is_short bs) level (right ∷ rest) h),
  )
  body_apart (alias us) b level rest s h = (refl, listed alias_word refl, (refl, s, h))
  body_apart (array ts) b level rest s h =
      unless_apart (has_items ts) b array_word (items_signs (level + 1) ts 0 (feed ∷ indent level (right ∷ rest))) (listed array_word refl)
      (items_apart ts (level + 1) 0 (feed ∷ indent level (right ∷ rest)) s (indent_apart false level (right ∷ rest) h))
  body_apart (table es) b level rest s h =
      unless_apart (has_entries es) b table_word (feed ∷ entries_signs (level + 1) es (indent level (right ∷ rest))) (listed table_word refl)
      (entries_apart es (level + 1) (indent level (right ∷ rest)) (keys_are es s.0) s.1 (indent_apart false level (right ∷ rest) h))

  pub items_apart : (ts : Resources) (level remaining : ℕ) (rest : List Sign) → AreSound ts → Apart false rest → Apart false (items_signs level ts remaining rest)
  items_apart no_trees level remaining rest s h = h
  items_apart (tree_and t ts) level remaining rest s h =
      let next = remaining_after_item level remaining t in
      let later = items_apart ts level next rest s.1 h in
      let after = comma ∷ items_signs level ts next rest in
      pause_apart false (item_fits level remaining t) level (item_signs t (body_signs level t after) after)
      (item_apart t (body_signs level t after) (items_signs level ts next rest) s.0 (body_apart t false level after s.0 later) later)

  pub entries_apart : (es : Members) (level : ℕ) (rest : List Sign) → KeysAre es → EachSound es → Apart false rest → Apart false (entries_signs level es rest)
  entries_apart no_entries level rest k s h = h
  entries_apart (entry_and k t es) level rest ks s h =
      let body = body_signs level t (feed ∷ entries_signs level es rest) in
      indent_apart false level (text (is_name k) k ∷ gap (is_guessed t) body) (
        refl,
        key_units k ks.0,
        gap_apart (is_guessed t) body (body_apart t true level (feed ∷ entries_signs level es rest) s.0 (entries_apart es level rest ks.1 s.1 h)),
      )

head_apart : (b : Bool) (ss : List Sign) → Apart false ss → Apart true (head_signs b (left ∷ feed ∷ ss))
head_apart true ss h = (refl, listed no_fallback_table_word refl, h)
head_apart false ss h = h

pub page_apart : (name : List ℕ) (no_fallback : Bool) (es : Members) → AreUnits name → IsSound (table es) → Apart false (page name no_fallback es)
page_apart name no_fallback es u s =
    (refl, u, head_apart no_fallback (entries_signs 1 es (right ∷ feed ∷ [])) (entries_apart es 1 (right ∷ feed ∷ []) (keys_are es s.0) s.1 tt))
