-- Proves the loops, by the characters that remain to be written.
use Rattle.std.proofs.Common.{◌≡◌, ℕ, zero, suc, ◌+◌, ◌-◌, ◌/◌, ◌%◌, ◌<◌, ◌≤◌, ℤ, Bool, true, false, cond, List, [], ◌∷◌, ◌++◌, length, get_or, drop, refl, sym, ap, subst, ◌∙◌}
use Rattle.std.proofs.Common.{arith, append_assoc, add-one, drop-cons, Option, Some, encode_utf8_all}
use Rattle.std.specs.Prelude.{slice_get, take}
use Rattle.std.proofs.Common.{replicate, ◌*◌}
use Rattle.std.specs.List.{AllByRecursion, list_all}
use Rattle.std.specs.Char.{digit_char}
use Rattle.std.specs.Char.Utf16.{is_high_surrogate}
use Rattle.std.specs.Fmt.{signed_decimal}
use Rattle.std.proofs.lemmas.List.{take-replicate, replicate-append-replicate}
use Rattle.std.proofs.lemmas.Bool.{lt-ltb, le-ltb, ltb-true, ltb-false}
use Rattle.std.proofs.Common.{ne_eqb}
use Rattle.std.specs.Prelude.{nat_lt}
use Rattle.rb_lexer.specs.Lexeme.{quote}
use Rattle.rb_tree.specs.Resource.{Resource, string, int, ints, binary, alias, array, table}
use Rattle.rb_tree.specs.Parts.{kind_of, len_of, HasUnits, units_of, numbers_of, bytes_of}
use Rattle.rb_tree.specs.declared.kind.Kind.TheVariants as Kinds
use Rattle.rb_printer.specs.Sign.{text, is_ascii, is_shown, first_unit, unit_chars, units_chars, pieces, spaces, lines_chars, text_chars, sign_chars, signs_chars}
use Rattle.rb_printer.specs.Page.{hex_first, hex_later, indent, pause, remaining_after, comma_if, are_more, number_fits, numbers_signs}
use Rattle.rb_printer.specs.Sound.{AreUnits, AreBytes, IsNumber}
use Rattle.rb_printer.specs.inner.Growth.{Adds, Owes, break_chars, after_break}
use Rattle.rb_printer.proofs.Growths.{adds_more, owes_step}
use Rattle.rb_printer.proofs.Puts.{adds_as, ascii_encoded}
use Rattle.rb_printer.proofs.Splits.{same, pause_splits, comma_splits}
use Rattle.rb_printer.proofs.Texts.{shown_next}
use Rattle.rb_printer.proofs.Words.{ascii_shown, number_word}

-- the same, with what is left written otherwise
pub owes_as : {old total now xs ys : List ℕ} → Owes old total now xs → xs ≡ ys → Owes old total now ys
owes_as {old} {total} {now} {xs} {ys} o e = record { is = o.is ∙ ap (λ (t : List ℕ). now ++ encode_utf8_all t) e }

-- ---- units

pub dropped : (us : List ℕ) (i : ℕ) → i < length us → drop i us ≡ get_or us i 0 ∷ drop (i + 1) us
dropped us i h = rw (add-one, drop-cons us i 0) refl

pub units_next : (us : List ℕ) (i : ℕ) (after : Bool) → i < length us
    → units_chars (drop i us) after
    ≡ unit_chars after (get_or us i 0) (first_unit (drop (i + 1) us)) ++ units_chars (drop (i + 1) us) (is_high_surrogate (get_or us i 0))
units_next us i after h = ap (λ (xs : List ℕ). units_chars xs after) (dropped us i h)

-- the units of a text with quotes, of which i are written, the last of them a high surrogate or not
pub record UnitsPut (old now us : List ℕ) (i : ℕ) (after : Bool) : Type 0 where
  pub owes : Owes old (text_chars false us) now (units_chars (drop i us) after ++ quote ∷ [])
  pub sound : AreUnits (drop i us) → AreUnits us

pub units_put : (old now new us : List ℕ) (i u : ℕ) (next : Option ℕ) (after high : Bool) → UnitsPut old now us i after → i < length us → u ≡ get_or us i 0
    → u < 65536 → next ≡ first_unit (drop (i + 1) us) → high ≡ is_high_surrogate u → Adds now new (unit_chars after u next)
    → UnitsPut old new us (i + 1) high
units_put old now new us i u next after high m h e small f g a =
    let later = units_chars (drop (i + 1) us) high in
    let left : units_chars (drop i us) after ++ quote ∷ [] ≡ unit_chars after u next ++ (later ++ quote ∷ []) =
    ap (λ (cs : List ℕ). cs ++ quote ∷ []) (units_next us i after h
    ∙ ap (λ (x : ℕ). unit_chars after x (first_unit (drop (i + 1) us)) ++ units_chars (drop (i + 1) us) (is_high_surrogate x)) (sym e)
    ∙ ap (λ (b : Bool). unit_chars after u (first_unit (drop (i + 1) us)) ++ units_chars (drop (i + 1) us) b) (sym g)
    ∙ ap (λ (o : Option ℕ). unit_chars after u o ++ later) (sym f)) ∙ append_assoc (unit_chars after u next) later (quote ∷ []) in
    record {
      owes = owes_step (later ++ quote ∷ []) (owes_as m.owes left) a;
      sound = λ (k : AreUnits (drop (i + 1) us)). m.sound (subst AreUnits (sym (dropped us i h)) (subst (λ (x : ℕ). x < 65536) e small, k));
    }

pub units_len : (t : Resource) → HasUnits (kind_of t) → len_of t ≡ length (units_of t)
units_len (string us) h = refl
units_len (int n) h = absurd h
units_len (ints zs) h = absurd h
units_len (binary bs) h = absurd h
units_len (alias us) h = refl
units_len (array ts) h = absurd h
units_len (table es) h = absurd h

-- ---- bytes

-- the remaining text of a Binary, given how many more bytes fit the current piece
abbrev pub tail : ℕ → List ℕ → ℕ → List ℕ
tail level bs remaining = units_chars (hex_first bs remaining) false ++ quote ∷ lines_chars (hex_later bs remaining) level

abbrev pub whole : ℕ → List ℕ → List ℕ
whole level bs = sign_chars (pieces level (hex_first bs 32) (hex_later bs 32))

-- the bytes of a Binary, of which i are written, and how many more fit the current piece
pub record BytesPut (old now bs : List ℕ) (level remaining i : ℕ) : Type 0 where
  pub owes : Owes old (whole level bs) now (tail level (drop i bs) remaining)
  pub sound : AreBytes (drop i bs) → AreBytes bs

digit_shown : (d : ℕ) → d < 16 → is_shown (digit_char d) ≡ true
digit_shown d h = by (nat_lt d 10) refl where
  near : (c : ℕ) → 47 < c → c < 103 → (c ≡ 0x5C → ⊥) → is_shown c ≡ true
  near c low high other = ascii_shown c (omega arith) (omega arith) (ne_eqb c 0x22 (λ e. omega arith)) (ne_eqb c 0x5C other)

  by : (b : Bool) → nat_lt d 10 ≡ b → is_shown (cond b (48 + d) (87 + d)) ≡ true
  by true e = let below : d < 10 = ltb-true d 10 e in near (48 + d) (omega arith) (omega arith) (λ e. omega arith)
  by false e = let above : 10 ≤ d = ltb-false d 10 e in near (87 + d) (omega arith) (omega arith) (λ e. omega arith)

byte_shown : (b : ℕ) (rest : List ℕ) → b < 256
    → units_chars (digit_char (b / 16) ∷ digit_char (b % 16) ∷ rest) false ≡ (digit_char (b / 16) ∷ digit_char (b % 16) ∷ []) ++ units_chars rest false
byte_shown b rest h =
    shown_next (digit_char (b / 16)) (digit_char (b % 16) ∷ rest) false (digit_shown (b / 16) (omega arith))
    ∙ ap (λ (cs : List ℕ). digit_char (b / 16) ∷ cs) (shown_next (digit_char (b % 16)) rest false (digit_shown (b % 16) (omega arith)))

tail_next : (b : ℕ) (bs : List ℕ) (remaining level : ℕ) → b < 256
    → tail level (b ∷ bs) remaining ≡ break_chars remaining level ++ (digit_char (b / 16) ∷ digit_char (b % 16) ∷ tail level bs (after_break remaining))
tail_next b bs (suc n) level h = ap (λ (cs : List ℕ). cs ++ quote ∷ lines_chars (hex_later bs n) level) (byte_shown b (hex_first bs n) h)
tail_next b bs zero level h =
    let units = digit_char (b / 16) ∷ digit_char (b % 16) ∷ hex_first bs 31 in
    let later = lines_chars (hex_later bs 31) level in
    let after = digit_char (b / 16) ∷ digit_char (b % 16) ∷ tail level bs 31 in
    ap (λ (cs : List ℕ). quote ∷ 0x0A ∷ (spaces level ++ quote ∷ cs))
    (append_assoc (units_chars units false) (quote ∷ []) later ∙ ap (λ (cs : List ℕ). cs ++ quote ∷ later) (byte_shown b (hex_first bs 31) h))
    ∙ ap (λ (cs : List ℕ). quote ∷ 0x0A ∷ cs) (sym (append_assoc (spaces level) (quote ∷ []) after))

pub bytes_put : (old now a new bs : List ℕ) (level remaining next i b : ℕ) → BytesPut old now bs level remaining i → i < length bs → b ≡ get_or bs i 0 → b < 256
    → next ≡ after_break remaining → Adds now a (break_chars remaining level) → Adds a new (digit_char (b / 16) ∷ digit_char (b % 16) ∷ [])
    → BytesPut old new bs level next (i + 1)
bytes_put old now a new bs level remaining next i b m h e small f p q =
    let later = drop (i + 1) bs in
    let digits = digit_char (b / 16) ∷ digit_char (b % 16) ∷ [] in
    let there : drop i bs ≡ b ∷ later = dropped bs i h ∙ ap (λ (x : ℕ). x ∷ later) (sym e) in
    let left : tail level (drop i bs) remaining ≡ break_chars remaining level ++ (digits ++ tail level later next) =
    ap (λ (xs : List ℕ). tail level xs remaining) there ∙ tail_next b later remaining level small
    ∙ ap (λ (n : ℕ). break_chars remaining level ++ (digits ++ tail level later n)) (sym f) in
    record {
      owes = owes_step {xs = digits} (tail level later next) (owes_step (digits ++ tail level later next) (owes_as m.owes left) p) q;
      sound = λ (k : AreBytes later). m.sound (subst AreBytes (sym there) (small, k));
    }

pub bytes_len : (t : Resource) → kind_of t ≡ Kinds.Binary → len_of t ≡ length (bytes_of t)
bytes_len (string us) h = absurd cc
bytes_len (int n) h = absurd cc
bytes_len (ints zs) h = absurd cc
bytes_len (binary bs) h = refl
bytes_len (alias us) h = absurd cc
bytes_len (array ts) h = absurd cc
bytes_len (table es) h = absurd cc

-- ---- numbers

abbrev pub AreNumbers : List ℤ → Type 0
AreNumbers zs = AllByRecursion IsNumber zs

-- i numbers are written, the first in a new line, after which this many columns remain
pub record NumbersPut (old now : List ℕ) (zs : List ℤ) (wrapped : Bool) (level remaining i : ℕ) : Type 0 where
  pub owes : Owes old (signs_chars (numbers_signs zs wrapped level 0 [])) now (signs_chars (numbers_signs (drop i zs) wrapped level remaining []))
  pub sound : AreNumbers (drop i zs) → AreNumbers zs

number_at : (zs : List ℤ) (i : ℕ) (z : ℤ) → Some z ≡ slice_get zs i → drop i zs ≡ z ∷ drop (suc i) zs
number_at [] i z e = absurd cc
number_at (x ∷ zs) zero z e = let same : x ≡ z = cc in ap (λ (y : ℤ). y ∷ zs) same
number_at (x ∷ zs) (suc i) z e = number_at zs i z e

number_there : (zs : List ℤ) (i : ℕ) (z : ℤ) → Some z ≡ slice_get zs i → drop i zs ≡ z ∷ drop (i + 1) zs
number_there zs i z e = rw add-one (number_at zs i z e)

more_there : (zs : List ℤ) (i : ℕ) → are_more (drop i zs) ≡ nat_lt i (length zs)
more_there [] zero = refl
more_there [] (suc i) = sym (le-ltb (suc i) 0 (omega arith))
more_there (z ∷ zs) zero = sym (lt-ltb 0 (length (z ∷ zs)) (omega arith))
more_there (z ∷ zs) (suc i) = more_there zs i ∙ by (nat_lt i (length zs)) refl where
  by : (b : Bool) → nat_lt i (length zs) ≡ b → nat_lt i (length zs) ≡ nat_lt (suc i) (length (z ∷ zs))
  by true e = let h : i < length zs = ltb-true i (length zs) e in e ∙ sym (lt-ltb (suc i) (length (z ∷ zs)) (omega arith))
  by false e = let h : length zs ≤ i = ltb-false i (length zs) e in e ∙ sym (le-ltb (suc i) (length (z ∷ zs)) (omega arith))

pub numbers_put : (old now a b new : List ℕ) (zs : List ℤ) (w : Bool) (level remaining left i : ℕ) (z : ℤ) → NumbersPut old now zs w level remaining i
    → Some z ≡ slice_get zs i → IsNumber z → left ≡ remaining_after (number_fits w remaining) level remaining (length (signed_decimal z))
    → Adds now a (signs_chars (pause (number_fits w remaining) level [])) → Adds a b (signed_decimal z)
    → Adds b new (signs_chars (comma_if (nat_lt (i + 1) (length zs)) [])) → NumbersPut old new zs w level left (i + 1)
numbers_put old now a b new zs w level remaining left i z m e good f p q r =
    let there = number_there zs i z e in
    let later = drop (i + 1) zs in
    let fits = number_fits w remaining in
    let next = remaining_after fits level remaining (length (signed_decimal z)) in
    let after = signs_chars (numbers_signs later w level left []) in
    let front = signs_chars (pause fits level []) in
    let last = signs_chars (comma_if (are_more later) []) in
    let rest = numbers_signs later w level next [] in
    let owed : signs_chars (numbers_signs (drop i zs) w level remaining []) ≡ front ++ (signed_decimal z ++ (last ++ after)) =
    ap (λ (xs : List ℤ). signs_chars (numbers_signs xs w level remaining [])) there
    ∙ (pause_splits fits level same).are (text true (signed_decimal z) ∷ comma_if (are_more later) rest)
    ∙ ap (λ (v : Bool). front ++ (text_chars v (signed_decimal z) ++ signs_chars (comma_if (are_more later) rest))) (number_word z good)
    ∙ ap (λ (cs : List ℕ). front ++ (signed_decimal z ++ cs)) ((comma_splits (are_more later) same).are rest)
    ∙ ap (λ (n : ℕ). front ++ (signed_decimal z ++ (last ++ signs_chars (numbers_signs later w level n [])))) (sym f) in
    let more = subst (λ (v : Bool). Adds b new (signs_chars (comma_if v []))) (sym (more_there zs (i + 1))) r in
    record {
      owes = owes_step after (owes_step (last ++ after) (owes_step (signed_decimal z ++ (last ++ after)) (owes_as m.owes owed) p) q) more;
      sound = λ (k : AreNumbers (drop (i + 1) zs)). m.sound (subst AreNumbers (sym there) (good, k));
    }

pub numbers_len : (t : Resource) → kind_of t ≡ Kinds.Ints → len_of t ≡ length (numbers_of t)
numbers_len (string us) h = absurd cc
numbers_len (int n) h = absurd cc
numbers_len (ints zs) h = refl
numbers_len (binary bs) h = absurd cc
numbers_len (alias us) h = absurd cc
numbers_len (array ts) h = absurd cc
numbers_len (table es) h = absurd cc

-- ---- indentation

pub indent_spaces : (n : ℕ) → signs_chars (indent n []) ≡ spaces n
indent_spaces zero = refl
indent_spaces (suc n) = ap (λ (cs : List ℕ). 0x20 ∷ 0x20 ∷ 0x20 ∷ 0x20 ∷ cs) (indent_spaces n)

spaces_more : (n m : ℕ) → spaces (n + m) ≡ spaces n ++ spaces m
spaces_more zero m = let e : 0 + m ≡ m = omega arith in ap spaces e
spaces_more (suc n) m =
    let e : suc n + m ≡ suc (n + m) = omega arith in
    ap spaces e ∙ ap (λ (cs : List ℕ). 0x20 ∷ 0x20 ∷ 0x20 ∷ 0x20 ∷ cs) (spaces_more n m)

spaces_are : (n : ℕ) → replicate (4 * n) 0x20 ≡ spaces n
spaces_are zero = refl
spaces_are (suc n) =
    let e : 4 * suc n ≡ 4 + 4 * n = omega arith in
    ap (λ (k : ℕ). replicate k 0x20) e ∙ sym (replicate-append-replicate 4 (4 * n) 0x20) ∙ ap (λ (cs : List ℕ). replicate 4 0x20 ++ cs) (spaces_are n)

spaces_ascii : (n : ℕ) → list_all is_ascii (spaces n) ≡ true
spaces_ascii zero = refl
spaces_ascii (suc n) = spaces_ascii n

-- the spaces of some of the levels that are left are written, out of a row of spaces
pub indent_put : (old total now new : List ℕ) (left n row : ℕ) → Owes old total now (signs_chars (indent left [])) → n ≤ left → 4 * n ≤ row
    → new ≡ now ++ take (4 * n) (replicate row 0x20) → Owes old total new (signs_chars (indent (left - n) []))
indent_put old total now new left n row o h fits put =
    let e : left ≡ n + (left - n) = omega arith in
    let cut : signs_chars (indent left []) ≡ spaces n ++ signs_chars (indent (left - n) []) =
    indent_spaces left ∙ ap spaces e ∙ spaces_more n (left - n) ∙ ap (λ (cs : List ℕ). spaces n ++ cs) (sym (indent_spaces (left - n))) in
    let row_is : take (4 * n) (replicate row 0x20) ≡ spaces n = take-replicate (4 * n) row 0x20 fits ∙ spaces_are n in
    let added : Adds now new (spaces n) =
    record { is = put ∙ ap (λ (t : List ℕ). now ++ t) (row_is ∙ sym (ascii_encoded (spaces n) (spaces_ascii n))) } in
    owes_step (signs_chars (indent (left - n) [])) (owes_as o cut) added

pub break_put : (old a b new : List ℕ) (remaining level : ℕ) → remaining ≤ 0 → Adds old a (quote ∷ 0x0A ∷ []) → Adds a b (signs_chars (indent level []))
    → Adds b new (quote ∷ []) → Adds old new (break_chars remaining level)
break_put old a b new zero level h p q r = adds_more p (adds_more (adds_as q (indent_spaces level)) r)
break_put old a b new (suc n) level h p q r = absurd (omega arith)
