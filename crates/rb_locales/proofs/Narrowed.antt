-- Names that are read from units.
use Rattle.std.proofs.Common.{◌≡◌, ℕ, ◌+◌, ◌-◌, ◌<◌, ◌≤◌, List, [], ◌∷◌, length, take, drop, map, Bool, true, false, cond, None, get_or, slice_index}
use Rattle.std.proofs.Common.{option_map, refl, ap, sym, ◌∙◌, arith, length-drop, ◌&&◌, ◌==◌, nat_le, slice_range}
use Rattle.std.proofs.lemmas.List.{get_or-take, get_or-drop, length-take-le, length-map, get_or-map, ext_get_or, take_all, take-take}
use Rattle.std.proofs.lemmas.List.Sums.{position_or_len_is, fails_before_first}
use Rattle.std.proofs.lemmas.Bool.Decides.{nat_tests}
use Rattle.std.specs.List.{slice_split, position_or_len, join_with_byte, onto_first, list_all}
use Rattle.std.specs.Char.{is_ascii_alphabetic, is_ascii_alphanumeric}
use Rattle.rb_locales.specs.Locale.{Position, first, second, later, next_position, is_at, is_between, subtag, part_at, in_front, parts_from, written, before_at}
use Rattle.rb_locales.specs.Locale.{named, name}
use Rattle.rb_locales.specs.inner.Narrow.{narrow}
use Rattle.rb_locales.proofs.Canonical.{is_clean, all_same, all_weaker, alpha_sign, both_true}
use Rattle.rb_tree.specs.Resource.{Resource, string, int, ints, binary, alias, array, table}
use Rattle.rb_tree.specs.Parts.{kind_of, len_of, units_of, HasUnits}

-- ---- slices
pub units_len : (t : Resource) → HasUnits (kind_of t) → length (units_of t) ≡ len_of t
units_len (string us) h = refl
units_len (int n) h = absurd h
units_len (ints zs) h = absurd h
units_len (binary bs) h = absurd h
units_len (alias us) h = refl
units_len (array ts) h = absurd h
units_len (table es) h = absurd h

pub length-slice : (from past : ℕ) (us : List ℕ) → past ≤ length us → length (slice_range us from past) ≡ past - from
length-slice from past us h = length-take-le (past - from) (drop from us) (omega (arith, length-drop from us))

pub slice_at : (from past : ℕ) (us : List ℕ) (k : ℕ) → k < past - from → get_or (slice_range us from past) k 0 ≡ slice_index us (from + k)
slice_at from past us k h = get_or-take (past - from) (drop from us) k 0 h ∙ get_or-drop from us k 0

pub before_here : (t : Resource) (from past i : ℕ) → HasUnits (kind_of t) → past ≤ len_of t → from ≤ i → i < past
    → ((k : ℕ) → from ≤ k → k < i → is_at (slice_index (units_of t) k) ≡ false) → slice_index (units_of t) i ≡ 64
    → i - from ≡ position_or_len is_at (slice_range (units_of t) from past)
before_here t from past i u w l h none here =
    let us = units_of t in
    let len : length us ≡ len_of t = units_len t u in
    let many : length (slice_range us from past) ≡ past - from = length-slice from past us (omega arith) in
    let position : from + (i - from) ≡ i = omega arith in
    sym (position_or_len_is is_at (slice_range us from past) (i - from) 0 (omega arith)
    (λ k b. ap is_at (slice_at from past us k (omega arith)) ∙ none (from + k) (omega arith) (omega arith))
    (λ b. ap is_at (slice_at from past us (i - from) (omega arith) ∙ ap (slice_index us) position ∙ here)))

pub before_none : (t : Resource) (from past : ℕ) → HasUnits (kind_of t) → past ≤ len_of t → from ≤ past
    → ((k : ℕ) → from ≤ k → k < past → is_at (slice_index (units_of t) k) ≡ false) → past - from ≡ position_or_len is_at (slice_range (units_of t) from past)
before_none t from past u w l none =
    let us = units_of t in
    let len : length us ≡ len_of t = units_len t u in
    let many : length (slice_range us from past) ≡ past - from = length-slice from past us (omega arith) in
    sym (position_or_len_is is_at (slice_range us from past) (past - from) 0 (omega arith)
    (λ k b. ap is_at (slice_at from past us k b) ∙ none (from + k) (omega arith) (omega arith))
    (λ b. absurd (omega arith)))

pub filled : (t : Resource) (from past : ℕ) (field old : List ℕ) → HasUnits (kind_of t) → past ≤ len_of t → from + length old ≤ past → length field ≡ length old
    → ((k : ℕ) → k < length old → get_or field k 0 ≡ narrow (slice_index (units_of t) (from + k)))
    → field ≡ map narrow (take (length old) (drop from (units_of t)))
filled t from past field old u w h same each =
    let us = units_of t in
    let len : length us ≡ len_of t = units_len t u in
    let few : length (take (length old) (drop from us)) ≡ length old = length-take-le (length old) (drop from us) (omega (arith, length-drop from us)) in
    ext_get_or 0 field (map narrow (take (length old) (drop from us))) (omega (arith, length-map (take (length old) (drop from us)) narrow))
    (λ k b. each k (omega arith) ∙ sym (get_or-map narrow (take (length old) (drop from us)) k 0 0 (omega arith)
    ∙ ap narrow (get_or-take (length old) (drop from us) k 0 (omega arith) ∙ get_or-drop from us k 0)))

-- ---- narrowing
sign_narrow : (b : ℕ) → is_ascii_alphanumeric (narrow b) ≡ is_ascii_alphanumeric b
sign_narrow b = grind (arith, nat_tests)

between_narrow : (b : ℕ) → is_between (narrow b) ≡ is_between b
between_narrow b = grind (arith, nat_tests)

at_narrow : (b : ℕ) → is_at (narrow b) ≡ is_at b
at_narrow b = grind (arith, nat_tests)

narrow_sign : (b : ℕ) → is_ascii_alphanumeric b ≡ true → narrow b ≡ b
narrow_sign b h = grind (arith, nat_tests)

narrow_clean : (p : List ℕ) → is_clean p ≡ true → map narrow p ≡ p
narrow_clean [] h = refl
narrow_clean (b ∷ bs) h = let t = both_true (is_ascii_alphanumeric b) (is_clean bs) h in rw (narrow_sign b t.0, narrow_clean bs t.1) refl

no_letters : (p : List ℕ) → is_clean p ≡ false → list_all is_ascii_alphabetic p ≡ false
no_letters p h = by (list_all is_ascii_alphabetic p) refl
  where
    by : (c : Bool) → list_all is_ascii_alphabetic p ≡ c → list_all is_ascii_alphabetic p ≡ false
    by true e = let t = all_weaker is_ascii_alphabetic is_ascii_alphanumeric alpha_sign p e in cc
    by false e = e

and_false : (a b : Bool) → b ≡ false → (a && b) ≡ false
and_false true b h = h
and_false false b h = refl

no_subtag : (p : List ℕ) → is_clean p ≡ false → subtag p ≡ None
no_subtag p h = rw (and_false (nat_le 1 (length p) && nat_le (length p) 8) (list_all is_ascii_alphanumeric p) h) refl

unclean : (position : Position) (p : List ℕ) → is_clean p ≡ false → part_at position p ≡ None
unclean first p h = rw (and_false (nat_le 2 (length p) && nat_le (length p) 8) (list_all is_ascii_alphabetic p) (no_letters p h)) refl
unclean second p h = rw (and_false (length p == 4) (list_all is_ascii_alphabetic p) (no_letters p h)) (no_subtag p h)
unclean later p h = no_subtag p h

part_narrow : (position : Position) (p : List ℕ) → part_at position (map narrow p) ≡ part_at position p
part_narrow position p = by (is_clean p) refl
  where
    by : (c : Bool) → is_clean p ≡ c → part_at position (map narrow p) ≡ part_at position p
    by true e = ap (part_at position) (narrow_clean p e)
    by false e = unclean position (map narrow p) (all_same is_ascii_alphanumeric narrow sign_narrow p ∙ e) ∙ sym (unclean position p e)

parts_narrow : (position : Position) (ps : List (List ℕ)) → parts_from position (map (λ p. map narrow p) ps) ≡ parts_from position ps
parts_narrow position [] = refl
parts_narrow position (p ∷ ps) =
    ap (λ o. in_front o (parts_from (next_position position) (map (λ q. map narrow q) ps))) (part_narrow position p)
    ∙ ap (in_front (part_at position p)) (parts_narrow (next_position position) ps)

split_narrow : (bs : List ℕ) → slice_split is_between (map narrow bs) ≡ map (λ p. map narrow p) (slice_split is_between bs)
split_narrow [] = refl
split_narrow (b ∷ bs) = rw (between_narrow b, split_narrow bs) (by (is_between b) (slice_split is_between bs))
  where
    by : (c : Bool) (ss : List (List ℕ)) → cond c ([] ∷ map (λ p. map narrow p) ss) (onto_first (narrow b) (map (λ p. map narrow p) ss))
        ≡ map (λ p. map narrow p) (cond c ([] ∷ ss) (onto_first b ss))
    by true ss = refl
    by false [] = refl
    by false (s ∷ ss) = refl

written_narrow : (position : Position) (bs : List ℕ) → written position (map narrow bs) ≡ written position bs
written_narrow position bs =
    ap (λ ss. option_map (join_with_byte 95) (parts_from position ss)) (split_narrow bs)
    ∙ ap (option_map (join_with_byte 95)) (parts_narrow position (slice_split is_between bs))

named_narrow : (bs : List ℕ) → named (map narrow bs) ≡ named bs
named_narrow [] = refl
named_narrow (b ∷ bs) = rw (length-map bs narrow, written_narrow first (b ∷ bs)) refl

no_at_whole : (bs : List ℕ) → ((k : ℕ) → k < length bs → is_at (get_or bs k 0) ≡ false) → before_at bs ≡ bs
no_at_whole bs h =
    let n : position_or_len is_at bs ≡ length bs = position_or_len_is is_at bs (length bs) 0 (omega arith) h (λ l. absurd (omega arith)) in
    take_all (position_or_len is_at bs) bs (omega arith)

front_narrow : (s : List ℕ) (n : ℕ) → n ≡ position_or_len is_at s → n ≤ length s → before_at (map narrow (take n s)) ≡ map narrow (take n s)
front_narrow s n e l =
    let few : length (take n s) ≡ n = length-take-le n s l in
    no_at_whole (map narrow (take n s)) (λ k b.
    let h : k < n = omega (arith, length-map (take n s) narrow) in
    ap is_at (get_or-map narrow (take n s) k 0 0 (omega arith)) ∙ at_narrow (get_or (take n s) k 0) ∙ ap is_at (get_or-take n s k 0 h)
    ∙ fails_before_first is_at s k 0 (omega arith))

-- a name that is read from units narrowed up to an `@` is that of the units
pub name_narrow : (from past n : ℕ) (us f : List ℕ) → n ≡ position_or_len is_at (slice_range us from past) → n ≤ past - from → past ≤ length us
    → f ≡ map narrow (take n (drop from us)) → name f ≡ name (slice_range us from past)
name_narrow from past n us f e l w is =
    let s = slice_range us from past in
    let few : length s ≡ past - from = length-slice from past us w in
    let front : take n s ≡ take n (drop from us) = take-take n (past - from) (drop from us) l in
    ap name (is ∙ ap (map narrow) (sym front))
    ∙ ap named (front_narrow s n e (omega arith))
    ∙ named_narrow (take n s)
    ∙ ap (λ k. named (take k s)) e
