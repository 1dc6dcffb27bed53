-- The texts of aliases.
use Rattle.std.proofs.Common.{◌≡◌, ◌+◌, ◌-◌, ◌<◌, ◌≤◌, ◌&&◌, ℕ, List, [], ◌∷◌, length, take, drop, Bool, true, false, cond, nat_lt, get_or}
use Rattle.std.proofs.Common.{slice_index, Option, Some, refl, ap, sym, ◌∙◌, arith, subst, length-drop, codes, slice_range}
use Rattle.std.proofs.lemmas.Bool.{ltb-true, ltb-false, lt-ltb, false_from_ne_true}
use Rattle.std.proofs.lemmas.List.{get_or-drop, take_all, drop-drop, ext_get_or}
use Rattle.std.proofs.lemmas.List.Sums.{position_or_len_is, fails_before_first}
use Rattle.std.proofs.lemmas.List.Splits.{slice_split_first, slice_split_none, join_with_byte-slice_split}
use Rattle.std.proofs.lemmas.Slice.Eq.{bytes_eq-Decides}
use Rattle.std.specs.List.{slice_split, position_or_len, list_all, join_with_byte}
use Rattle.std.specs.Str.{bytes_eq}
use Rattle.rb_tree.specs.Resource.{Resource}
use Rattle.rb_tree.specs.Parts.{HasUnits, kind_of, len_of, units_of}
use Rattle.rb_tree.specs.declared.kind.Kind.TheVariants as Kinds
use Rattle.rb_tree.specs.Path.{is_slash}
use Rattle.rb_locales.specs.Locale.{name}
use Rattle.rb_locales.proofs.Narrowed.{units_len, slice_at, length-slice}
use Rattle.rb_locales.proofs.Parts.{some_parts}
use Rattle.rb_fallback.specs.Alias.{aims, no_text, no_package, is_plain, aim, plain_aim, packaged, located, named, with_path}
use Rattle.rb_fallback.specs.AliasPaths.{are_filled, segment_end, segments_after, segments_from}

-- ---- where a segment ends
segment_ends : (us : List ℕ) (from i : ℕ) → from ≤ i → i ≤ length us → ((k : ℕ) → from ≤ k → k < i → is_slash (slice_index us k) ≡ false)
    → (i < length us → slice_index us i ≡ 47) → i ≡ segment_end us from
segment_ends us from i l h none here =
    let place : from + (i - from) ≡ i = omega arith in
    let p : position_or_len is_slash (drop from us) ≡ i - from =
    position_or_len_is is_slash (drop from us) (i - from) 0 (omega (arith, length-drop from us))
    (λ k b. ap is_slash (get_or-drop from us k 0) ∙ none (from + k) (omega arith) (omega arith))
    (λ b. ap is_slash (get_or-drop from us (i - from) 0 ∙ ap (slice_index us) place ∙ here (omega (arith, length-drop from us)))) in
    omega arith

pub slash_here : (t : Resource) (from i : ℕ) → HasUnits (kind_of t) → from ≤ i → i < len_of t
    → ((k : ℕ) → from ≤ k → k < i → is_slash (slice_index (units_of t) k) ≡ false) → slice_index (units_of t) i ≡ 47 → i ≡ segment_end (units_of t) from
slash_here t from i u l h none here = segment_ends (units_of t) from i l (omega (arith, units_len t u)) none (λ _. here)

pub slash_none : (t : Resource) (from n : ℕ) → HasUnits (kind_of t) → from ≤ n → n ≡ len_of t
    → ((k : ℕ) → from ≤ k → k < n → is_slash (slice_index (units_of t) k) ≡ false) → n ≡ segment_end (units_of t) from
slash_none t from n u l e none = segment_ends (units_of t) from n l (omega (arith, units_len t u)) none (λ b. absurd (omega (arith, units_len t u)))

-- ---- segments
split_is : (us : List ℕ) (from past : ℕ) → past ≡ segment_end us from → past ≤ length us
    → segments_from us from ≡ slice_range us from past ∷ segments_after us past
split_is us from past e h = by (nat_lt past (length us)) refl
  where
    same : position_or_len is_slash (drop from us) ≡ past - from
    same = omega arith

    by : (b : Bool) → nat_lt past (length us) ≡ b → segments_from us from ≡ slice_range us from past ∷ segments_after us past
    by true f =
        let l = ltb-true _ _ f in
        slice_split_first is_slash (drop from us) 0 (omega (arith, length-drop from us))
        ∙ ap (λ (k : ℕ). take k (drop from us) ∷ slice_split is_slash (drop (k + 1) (drop from us))) same
        ∙ ap (λ xs. slice_range us from past ∷ slice_split is_slash xs) (drop-drop (past - from + 1) from us ∙ ap (λ (k : ℕ). drop k us) (omega arith))
        ∙ ap (λ b. slice_range us from past ∷ cond b (segments_from us (past + 1)) []) (sym f)
    by false f =
        let l = ltb-false _ _ f in
        slice_split_none is_slash (drop from us) (λ k d b. fails_before_first is_slash (drop from us) k d (omega (arith, length-drop from us)))
        ∙ ap (λ xs. xs ∷ []) (sym (take_all (past - from) (drop from us) (omega (arith, length-drop from us))))
        ∙ ap (λ b. slice_range us from past ∷ cond b (segments_from us (past + 1)) []) (sym f)

pub segments_after_some : (us : List ℕ) (past : ℕ) → past < length us → segments_after us past ≡ segments_from us (past + 1)
segments_after_some us past h = ap (λ b. cond b (segments_from us (past + 1)) []) (lt-ltb _ _ h)

pub segments_after_none : (us : List ℕ) (past : ℕ) → length us ≤ past → segments_after us past ≡ []
segments_after_none us past h =
    ap (λ b. cond b (segments_from us (past + 1)) []) (false_from_ne_true (nat_lt past (length us)) (λ f. absurd (omega (arith, ltb-true _ _ f))))

slice_none : (us : List ℕ) (from past : ℕ) → past ≡ from → slice_range us from past ≡ []
slice_none us from past e = ap (λ (k : ℕ). take k (drop from us)) (let z : past - from ≡ 0 = omega arith in z)

-- ---- whether segments are filled
pub filled_no : (us : List ℕ) (from past : ℕ) → past ≡ segment_end us from → past ≤ length us → past ≡ from → are_filled (segments_from us from) ≡ false
filled_no us from past e h f =
    ap are_filled (split_is us from past e h) ∙ ap (λ s. are_filled (s ∷ segments_after us past)) (slice_none us from past f)

filled_first : (s : List ℕ) (ss : List (List ℕ)) → 0 < length s → are_filled (s ∷ ss) ≡ are_filled ss
filled_first s ss h = ap (λ b. b && are_filled ss) (lt-ltb _ _ h)

pub filled_on : (us : List ℕ) (from past : ℕ) → past ≡ segment_end us from → past ≤ length us → from < past
    → are_filled (segments_from us from) ≡ are_filled (segments_after us past)
filled_on us from past e h f =
    ap are_filled (split_is us from past e h)
    ∙ filled_first (slice_range us from past) (segments_after us past) (omega (arith, length-slice from past us h))

pub ruleset filled_steps = (filled_no, filled_on, segments_after_some, segments_after_none)

-- ---- words
not_spelled : (s word : List ℕ) → (s ≡ word → ⊥) → bytes_eq s word ≡ false
not_spelled s word other = false_from_ne_true (bytes_eq s word) (λ e. other ((bytes_eq-Decides s word).0 e))

pub word_no : (t : Resource) (from past i : ℕ) (word : List ℕ) → HasUnits (kind_of t) → past ≤ len_of t → past - from ≡ length word → i < length word
    → (slice_index (units_of t) (from + i) ≡ get_or word i 0 → ⊥) → bytes_eq (slice_range (units_of t) from past) word ≡ false
word_no t from past i word u w l h other =
    not_spelled _ word (λ e. other (sym (slice_at from past (units_of t) i (omega arith)) ∙ ap (λ s. get_or s i 0) e))

pub word_long : (t : Resource) (from past : ℕ) (word : List ℕ) → HasUnits (kind_of t) → past ≤ len_of t → (past - from ≡ length word → ⊥)
    → bytes_eq (slice_range (units_of t) from past) word ≡ false
word_long t from past word u w other =
    not_spelled _ word (λ e. other (sym (length-slice from past (units_of t) (omega (arith, units_len t u))) ∙ ap length e))

pub word_yes : (t : Resource) (from past : ℕ) (word : List ℕ) → HasUnits (kind_of t) → past ≤ len_of t → past - from ≡ length word
    → ((k : ℕ) → k < length word → slice_index (units_of t) (from + k) ≡ get_or word k 0) → bytes_eq (slice_range (units_of t) from past) word ≡ true
word_yes t from past word u w l each =
    let s = slice_range (units_of t) from past in
    let len : length s ≡ past - from = length-slice from past (units_of t) (omega (arith, units_len t u)) in
    (bytes_eq-Decides s word).1 (ext_get_or 0 s word (omega arith) (λ k b. slice_at from past (units_of t) k (omega arith) ∙ each k (omega arith)))

-- ---- aims
some_path : (icu : Bool) (n : List ℕ) (ss : List (List ℕ)) → 0 < length ss → (ss ≡ [] ∷ [] → ⊥)
    → with_path icu n ss ≡ cond (are_filled ss) (aims icu n (Some ss)) no_text
some_path icu n [] h other = absurd (omega arith)
some_path icu n ([] ∷ []) h other = absurd (other refl)
some_path icu n ([] ∷ s ∷ ss) h other = refl
some_path icu n ((x ∷ xs) ∷ ss) h other = refl

pub path_some : (icu : Bool) (n xs : List ℕ) → 0 < length xs
    → with_path icu n (slice_split is_slash xs) ≡ cond (are_filled (slice_split is_slash xs)) (aims icu n (Some (slice_split is_slash xs))) no_text
path_some icu n xs h = some_path icu n (slice_split is_slash xs) (some_parts is_slash xs) other
  where
    other : slice_split is_slash xs ≡ [] ∷ [] → ⊥
    other e = let none : xs ≡ [] = sym (join_with_byte-slice_split 47 xs) ∙ ap (join_with_byte 47) e in omega (arith, ap length none)

located_first : (icu : Bool) (s : List ℕ) (ss : List (List ℕ)) → 0 < length s → located icu (s ∷ ss) ≡ named icu (name s) ss
located_first icu [] ss h = absurd (omega arith)
located_first icu (u ∷ us) ss h = refl

pub located_named : (t : Resource) (icu : Bool) (from past : ℕ) (o : Option (List ℕ)) → HasUnits (kind_of t) → past ≡ segment_end (units_of t) from
    → past ≤ len_of t → (past ≡ from → ⊥) → name (slice_range (units_of t) from past) ≡ o
    → located icu (segments_from (units_of t) from) ≡ named icu o (segments_after (units_of t) past)
located_named t icu from past o u e h other is =
    let us = units_of t in
    let len : length us ≡ len_of t = units_len t u in
    ap (located icu) (split_is us from past e (omega arith))
    ∙ located_first icu (slice_range us from past) (segments_after us past) (omega (arith, length-slice from past us (omega arith)))
    ∙ ap (λ q. named icu q (segments_after us past)) is

pub located_none : (icu : Bool) (us : List ℕ) (from past : ℕ) → past ≡ segment_end us from → past ≤ length us → past ≡ from
    → located icu (segments_from us from) ≡ no_text
located_none icu us from past e h f =
    ap (located icu) (split_is us from past e h) ∙ ap (λ s. located icu (s ∷ segments_after us past)) (slice_none us from past f)

pub path_filled : (icu : Bool) (n us : List ℕ) (past : ℕ) (b : Bool) → past + 1 < length us → are_filled (segments_from us (past + 1)) ≡ b
    → with_path icu n (segments_after us past) ≡ cond b (aims icu n (Some (segments_from us (past + 1)))) no_text
path_filled icu n us past b h e =
    ap (with_path icu n) (segments_after_some us past (omega arith))
    ∙ path_some icu n (drop (past + 1) us) (omega (arith, length-drop (past + 1) us))
    ∙ ap (λ c. cond c (aims icu n (Some (segments_from us (past + 1)))) no_text) e

pub alias_units : (t : Resource) → kind_of t ≡ Kinds.Alias → HasUnits (kind_of t)
alias_units t k = subst HasUnits (sym k) tt

pub aim_slash : (t : Resource) (valid : List ℕ) → HasUnits (kind_of t) → list_all is_plain (units_of t) ≡ true → 0 < len_of t
    → slice_index (units_of t) 0 ≡ 47 → aim (units_of t) valid ≡ packaged valid (segments_from (units_of t) 1)
aim_slash t valid u p h s = by (units_of t) p (omega (arith, units_len t u)) s
  where
    by : (us : List ℕ) → list_all is_plain us ≡ true → 0 < length us → slice_index us 0 ≡ 47 → aim us valid ≡ packaged valid (segments_from us 1)
    by [] f l e = absurd (omega arith)
    by (x ∷ xs) f l e =
        ap (λ b. cond b (plain_aim valid (x ∷ xs)) no_text) f
        ∙ ap (λ v. cond (is_slash v) (packaged valid (slice_split is_slash xs)) (located false (slice_split is_slash (x ∷ xs)))) e

-- what a package and the text after it aim at, by whether the package is `LOCALE` and whether it is `ICUDATA`
pub packaged_is : (t : Resource) (valid : List ℕ) (past : ℕ) (d e : Bool) → HasUnits (kind_of t) → past ≡ segment_end (units_of t) 1 → past ≤ len_of t
    → bytes_eq (slice_range (units_of t) 1 past) (codes "LOCALE") ≡ d → bytes_eq (slice_range (units_of t) 1 past) (codes "ICUDATA") ≡ e
    → packaged valid (segments_from (units_of t) 1)
    ≡ cond d (with_path false valid (segments_after (units_of t) past)) (cond e (located true (segments_after (units_of t) past)) no_package)
packaged_is t valid past d e u place within one two =
    let us = units_of t in
    let len : length us ≡ len_of t = units_len t u in
    let ss = segments_after us past in
    ap (packaged valid) (split_is us 1 past place (omega arith))
    ∙ ap (λ b. cond b (with_path false valid ss) (cond (bytes_eq (slice_range us 1 past) (codes "ICUDATA")) (located true ss) no_package)) one
    ∙ ap (λ b. cond d (with_path false valid ss) (cond b (located true ss) no_package)) two
