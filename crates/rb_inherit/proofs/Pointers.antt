-- Children of JSON values by their keys and indices.
use Rattle.std.proofs.Common.{◌≡◌, ◌<◌, ◌+◌, ◌-◌, ◌*◌, ◌==◌, ◌&&◌, ◌||◌, ◌∙◌, ◌++◌, ℕ, zero, suc, List, [], ◌∷◌, Bool, true, false, not, cond, Some, None, refl, ap, sym, subst, arith, length, encode_utf8_all, fold, get_or, slice_index, slice_get, decimal, nat_le, nat_lt}
use Rattle.std.specs.List.{AllByRecursion, list_all}
use Rattle.std.specs.Ordering.{match_ordering, nat_cmp, is_eq}
use Rattle.std.specs.declared.cmp.Ordering.{Ordering}
use Rattle.std.specs.declared.cmp.Ordering.TheVariants.{Less, Equal, Greater}
use Rattle.std.specs.Cmp.Lexicographic.{slice_cmp}
use Rattle.std.proofs.lemmas.Bool.{and_from, and_parts, eq-eqb, eqb-true, le-leb, leb-true, lt-ltb, ltb-true, ne_eqb}
use Rattle.std.proofs.lemmas.Fmt.{decimal-digits_value, decimal_digit, decimal_nonempty, digits_decimal, digits_value-decimal, first_decimal}
use Rattle.std.proofs.lemmas.Map.Text.{is_eq-slice_cmp}
use Rattle.std.proofs.lemmas.Slice.Eq.{bytes_eq-Decides}
use Rattle.std.proofs.lemmas.Str.{encode_ascii}
use Rattle.std.proofs.lemmas.Str.Parse.{FoldsDigits, IsDigitsTest, IsNumeralModel, numerals_by_fold}
use Rattle.serde_json.specs.Data.{Data}
use Rattle.serde_json.specs.Find.{get_item, get_member}
use Rattle.serde_json.specs.View.{items_of}
use Rattle.rb_tree.specs.Path.{index_of, is_decimal, is_digit, value_of}
use Rattle.rb_json.specs.Value.{key_text, tagged, with_colon}
use Rattle.rb_json.proofs.SameValues.{encoded, key_same}
use Rattle.rb_inherit.specs.Agreement.{child_data}
use Rattle.rb_inherit.specs.Merged.{members_data}

-- ---- keys and their texts
-- a tag is no key's text
tag_by : (b : ℕ) (bs : List ℕ) (c : ℕ) (cs : List ℕ) (t : Bool) → (b == 58) ≡ t → (c == 58) ≡ false → cond t (58 ∷ b ∷ bs) (b ∷ bs) ≡ 58 ∷ c ∷ cs → ⊥
tag_by b bs c cs true e f h =
    let same : b ≡ c = cc in
    let first : (c == 58) ≡ true = ap (λ (x : ℕ). x == 58) (sym same) ∙ e in
    let no : true ≡ false = sym first ∙ f in
    cc
tag_by b bs c cs false e f h =
    let same : b ≡ 58 = cc in
    let no : true ≡ false = ap (λ (x : ℕ). x == 58) (sym same) ∙ e in
    cc

no_tag : (k : List ℕ) (c : ℕ) (cs : List ℕ) → (c == 58) ≡ false → with_colon k ≡ 58 ∷ c ∷ cs → ⊥
no_tag [] c cs f h = cc
no_tag (b ∷ bs) c cs f h = tag_by b bs c cs (b == 58) refl f h

equal_names : (x y : List ℕ) → slice_cmp nat_cmp x y ≡ Equal → x ≡ y
equal_names x y h = (bytes_eq-Decides x y).0 (sym (is_eq-slice_cmp x y) ∙ ap is_eq h)

by_name : (x y : List ℕ) (r : Ordering) (d : Data) (e : Data) → slice_cmp nat_cmp x y ≡ r → match_ordering r None (Some d) None ≡ Some e → x ≡ y
by_name x y Less d e c h = absurd cc
by_name x y Equal d e c h = equal_names x y c
by_name x y Greater d e c h = absurd cc

ascii_text : (cs : List ℕ) → list_all (λ c. nat_lt c 128) cs ≡ true → encode_utf8_all cs ≡ cs
ascii_text [] h = refl
ascii_text (c ∷ cs) h =
    let k = and_parts (nat_lt c 128) (list_all (λ c. nat_lt c 128) cs) h in
    ap (λ (bs : List ℕ). bs ++ encode_utf8_all cs) (encode_ascii c (ltb-true c 128 k.0)) ∙ ap (λ (bs : List ℕ). c ∷ bs) (ascii_text cs k.1)

-- nothing is below a tagged value
pub below_tagged : (k : List ℕ) (c : ℕ) (cs : List ℕ) (d e : Data) → (c == 58) ≡ false → list_all (λ c. nat_lt c 128) (58 ∷ c ∷ cs) ≡ true
    → child_data k (tagged (58 ∷ c ∷ cs) d) ≡ Some e → ⊥
below_tagged k c cs d e f a h =
    let name = 58 ∷ c ∷ cs in
    let same : key_text k ≡ name = by_name (key_text k) name (slice_cmp nat_cmp (key_text k) name) d e refl h in
    no_tag k c cs f (encoded (with_colon k) name (same ∙ sym (ascii_text name a)))

-- ---- members
-- a member of some entries has the key of one
pub one_member : (P : List ℕ → Data → Type 0) (k : List ℕ) (es : List (List ℕ × Data)) (e : Data) → AllByRecursion (λ x. P x.0 x.1) es
    → get_member (key_text k) (members_data es) ≡ Some e → P k e
one_member P k [] e all h = absurd cc
one_member P k (x ∷ es) e all h = by (λ f. one_member P k es e all.1 f) (slice_cmp nat_cmp (key_text k) (key_text x.0)) refl h
  where
    by : (get_member (key_text k) (members_data es) ≡ Some e → P k e) → (r : Ordering) → slice_cmp nat_cmp (key_text k) (key_text x.0) ≡ r
        → match_ordering r (get_member (key_text k) (members_data es)) (Some x.1) (get_member (key_text k) (members_data es)) ≡ Some e → P k e
    by more Less c f = more f
    by more Equal c f =
        let same : k ≡ x.0 = key_same k x.0 (equal_names (key_text k) (key_text x.0) c) in
        let is : x.1 ≡ e = cc in
        subst (λ (j : List ℕ). P j e) (sym same) (subst (λ (d : Data). P x.0 d) is all.0)
    by more Greater c f = more f

-- ---- items
pub item_there : (i : ℕ) (ds : List Data) → get_item i (items_of ds) ≡ slice_get ds i
item_there i [] = refl
item_there zero (d ∷ ds) = refl
item_there (suc i) (d ∷ ds) = item_there i ds

-- ---- indices
digits_test : IsDigitsTest (λ ds. list_all is_digit ds ≡ true)
digits_test = record {
  empty = refl;
  parts = λ c cs e.
      let k = and_parts (is_digit c) (list_all is_digit cs) e in
      let m = and_parts (nat_le 48 c) (nat_le c 57) k.0 in
      ((leb-true 48 c m.0, leb-true c 57 m.1), k.1);
  more = λ c cs k e. and_from (is_digit c) (list_all is_digit cs) (and_from (nat_le 48 c) (nat_le c 57) (le-leb 48 c k.0) (le-leb c 57 k.1)) e;
}

value_folds : FoldsDigits (λ n s. fold (λ m b. 10 * m + (b - 48)) n s)
value_folds = record { empty = λ n. refl; more = λ n c cs k. ap (λ (m : ℕ). fold (λ m b. 10 * m + (b - 48)) m cs) (let e : 10 * n + (c - 48) ≡ n * 10 + (c - 48) = omega arith in e) }

decimals : IsNumeralModel (λ ds. list_all is_digit ds ≡ true) (λ s. value_of s)
decimals = numerals_by_fold (λ ds. list_all is_digit ds ≡ true) digits_test (λ n s. fold (λ m b. 10 * m + (b - 48)) n s) value_folds

lead : (a b : Bool) → (not a || b) ≡ true → a ≡ true → b ≡ true
lead true true h e = refl
lead true false h e = cc
lead false b h e = cc

-- a segment that is read as an index spells it
pub spells : (k : List ℕ) (i : ℕ) → index_of k ≡ Some i → i < 18446744073709551616 → decimal i ≡ k
spells k i h small = by (is_decimal k) refl h
  where
    by : (b : Bool) → is_decimal k ≡ b → cond b (Some (value_of k)) None ≡ Some i → decimal i ≡ k
    by true e f =
        let is : value_of k ≡ i = cc in
        let parts = and_parts (nat_lt 0 (length k)) (list_all is_digit k && (not (slice_index k 0 == 48) || (length k == 1))) e in
        let more = and_parts (list_all is_digit k) (not (slice_index k 0 == 48) || (length k == 1)) parts.1 in
        let zeros : get_or k 0 0 ≡ 48 → length k ≡ 1 = λ z. eqb-true (length k) 1 (lead (slice_index k 0 == 48) (length k == 1) more.1 (eq-eqb (slice_index k 0) 48 z)) in
        ap decimal (sym is) ∙ decimal-digits_value decimals k more.0 (ltb-true 0 (length k) parts.0) zeros (omega (arith, is, small))
    by false e f = absurd cc

first_by : (a b : Bool) → a ≡ false → (not a || b) ≡ true
first_by true b e = cc
first_by false b e = refl

second_by : (a b : Bool) → b ≡ true → (not a || b) ≡ true
second_by true b e = e
second_by false b e = refl

-- an index is read as it is spelled
pub spelled : (i : ℕ) → i < 18446744073709551616 → index_of (decimal i) ≡ Some i
spelled i small =
    ap (λ (b : Bool). cond b (Some (value_of (decimal i))) None) (and_from (nat_lt 0 (length (decimal i))) _ (lt-ltb 0 (length (decimal i)) (decimal_nonempty i small))
    (and_from (list_all is_digit (decimal i)) _ (digits_decimal decimals i small) (lead_by i small)))
    ∙ ap (λ (n : ℕ). Some n) (digits_value-decimal decimals i small)
  where
    lead_by : (n : ℕ) → n < 18446744073709551616 → (not (slice_index (decimal n) 0 == 48) || (length (decimal n) == 1)) ≡ true
    lead_by zero h = second_by (slice_index (decimal 0) 0 == 48) (length (decimal 0) == 1) (ap (λ (s : List ℕ). length s == 1) (decimal_digit 0 (omega arith)))
    lead_by (suc n) h =
        first_by (slice_index (decimal (suc n)) 0 == 48) (length (decimal (suc n)) == 1)
        (ne_eqb (slice_index (decimal (suc n)) 0) 48 (λ e. let f = first_decimal (suc n) (omega arith) h in omega (arith, e, f)))
