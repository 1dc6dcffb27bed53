-- A canonical name is its own name.
use Rattle.std.proofs.Common.{◌≡◌, ℕ, suc, ◌+◌, ◌<◌, ◌≤◌, List, [], ◌∷◌, ◌++◌, length, map, Bool, true, false, ◌&&◌, Option, Some, None, option_map, cond, All}
use Rattle.std.proofs.Common.{refl, ap, sym, ◌∙◌, arith, subst, not, get_or, nat_lt, length-append, take, drop, slice_index, length-drop, take-append-drop}
use Rattle.std.proofs.Common.{drop-cons, add-one}
use Rattle.std.proofs.lemmas.Bool.{ltb-true, ltb-false, le-leb}
use Rattle.std.proofs.lemmas.List.{take_all, get_or-drop, get_or_default}
use Rattle.std.proofs.lemmas.List.Sums.{AllPass-from_list_all, passes_at_first}
use Rattle.std.proofs.lemmas.List.Folds.{list_all-append}
use Rattle.std.proofs.lemmas.List.Splits.{slice_split_none, slice_split_at, join_with_byte-slice_split}
use Rattle.rb_locales.proofs.Parts.{some_parts, split_append}
use Rattle.std.specs.List.{slice_split, position_or_len, join_with_byte, onto_first, list_all}
use Rattle.std.specs.Char.{is_ascii_alphabetic, is_ascii_alphanumeric, to_ascii_lowercase, to_ascii_uppercase}
use Rattle.std.proofs.lemmas.Str.Ascii.{uppercase-uppercase, lowercase-lowercase}
use Rattle.std.proofs.lemmas.Bool.Decides.{nat_tests}
use Rattle.std.proofs.lemmas.List.{length-map}
use Rattle.rb_locales.specs.Locale.{Position, first, second, later, next_position, is_between, is_at, part_at, in_front, parts_from, written, is_language}
use Rattle.rb_locales.specs.Locale.{is_subtag, is_script, title, subtag, name, named, before_at, is_underscore, without_last, shorter, shorter_of}
use Rattle.rb_locales.specs.inner.LastUnderscore.{NoneFrom}

-- ---- bytes
alpha_lower : (b : ℕ) → is_ascii_alphabetic (to_ascii_lowercase b) ≡ is_ascii_alphabetic b
alpha_lower b = grind (arith, nat_tests)

alpha_upper : (b : ℕ) → is_ascii_alphabetic (to_ascii_uppercase b) ≡ is_ascii_alphabetic b
alpha_upper b = grind (arith, nat_tests)

sign_upper : (b : ℕ) → is_ascii_alphanumeric (to_ascii_uppercase b) ≡ is_ascii_alphanumeric b
sign_upper b = grind (arith, nat_tests)

pub alpha_sign : (b : ℕ) → is_ascii_alphabetic b ≡ true → is_ascii_alphanumeric b ≡ true
alpha_sign b h = grind (arith, nat_tests)

sign_within : (b : ℕ) → is_ascii_alphanumeric b ≡ true → is_between b ≡ false
sign_within b h = grind (arith, nat_tests)

sign_not_underscore : (b : ℕ) → is_ascii_alphanumeric b ≡ true → is_underscore b ≡ false
sign_not_underscore b h = grind (arith, nat_tests)

sign_no_at : (b : ℕ) → is_ascii_alphanumeric b ≡ true → is_at b ≡ false
sign_no_at b h = grind (arith, nat_tests)

-- ---- tests of each byte
pub both_true : (a b : Bool) → (a && b) ≡ true → (a ≡ true) × (b ≡ true)
both_true true b h = (refl, h)
both_true false b h = cc

pub all_same : (p : ℕ → Bool) (f : ℕ → ℕ) → ((b : ℕ) → p (f b) ≡ p b) → (bs : List ℕ) → list_all p (map f bs) ≡ list_all p bs
all_same p f h [] = refl
all_same p f h (b ∷ bs) = rw (h b, all_same p f h bs) refl

pub all_weaker : (p q : ℕ → Bool) → ((b : ℕ) → p b ≡ true → q b ≡ true) → (bs : List ℕ) → list_all p bs ≡ true → list_all q bs ≡ true
all_weaker p q h [] e = refl
all_weaker p q h (b ∷ bs) e = let t = both_true (p b) (list_all p bs) e in rw (h b t.0, all_weaker p q h bs t.1) refl

twice : (f : ℕ → ℕ) → ((b : ℕ) → f (f b) ≡ f b) → (bs : List ℕ) → map f (map f bs) ≡ map f bs
twice f h [] = refl
twice f h (b ∷ bs) = rw (h b, twice f h bs) refl

-- ---- parts
language_same : (p : List ℕ) → is_language (map to_ascii_lowercase p) ≡ is_language p
language_same p = rw (length-map p to_ascii_lowercase, all_same is_ascii_alphabetic to_ascii_lowercase alpha_lower p) refl

subtag_same : (p : List ℕ) → is_subtag (map to_ascii_uppercase p) ≡ is_subtag p
subtag_same p = rw (length-map p to_ascii_uppercase, all_same is_ascii_alphanumeric to_ascii_uppercase sign_upper p) refl

script_upper : (p : List ℕ) → is_script (map to_ascii_uppercase p) ≡ is_script p
script_upper p = rw (length-map p to_ascii_uppercase, all_same is_ascii_alphabetic to_ascii_uppercase alpha_upper p) refl

script_title : (p : List ℕ) → is_script (title p) ≡ is_script p
script_title [] = refl
script_title (b ∷ bs) = rw (length-map bs to_ascii_lowercase, alpha_upper b, all_same is_ascii_alphabetic to_ascii_lowercase alpha_lower bs) refl

title_twice : (p : List ℕ) → title (title p) ≡ title p
title_twice [] = refl
title_twice (b ∷ bs) = rw (uppercase-uppercase b, twice to_ascii_lowercase lowercase-lowercase bs) refl

length-title : (p : List ℕ) → length (title p) ≡ length p
length-title [] = refl
length-title (b ∷ bs) = ap suc (length-map bs to_ascii_lowercase)

-- letters and digits
abbrev pub is_clean : List ℕ → Bool
is_clean p = list_all is_ascii_alphanumeric p

record Kept (position : Position) (p q : List ℕ) : Type 0 where
  again : part_at position q ≡ Some q
  clean : is_clean q ≡ true
  long : length q ≡ length p

language_kept : (p q : List ℕ) → part_at first p ≡ Some q → Kept first p q
language_kept p q h = by (is_language p) refl
  where
    by : (b : Bool) → is_language p ≡ b → Kept first p q
    by true e =
        let same : is_language (map to_ascii_lowercase p) ≡ true = language_same p ∙ e in
        let is : map to_ascii_lowercase p ≡ q = cc (ap (λ b. cond b (Some (map to_ascii_lowercase p)) None) e) in
        subst (Kept first p) is (record {
          again = rw same (ap Some (twice to_ascii_lowercase lowercase-lowercase p));
          clean = all_weaker is_ascii_alphabetic is_ascii_alphanumeric alpha_sign (map to_ascii_lowercase p) (both_true _ _ same).1;
          long = length-map p to_ascii_lowercase;
        })
    by false e = cc (ap (λ b. cond b (Some (map to_ascii_lowercase p)) None) e)

subtag_kept : (p q : List ℕ) → subtag p ≡ Some q → (is_script p ≡ false → Kept second p q) × Kept later p q
subtag_kept p q h = by (is_subtag p) refl
  where
    by : (b : Bool) → is_subtag p ≡ b → (is_script p ≡ false → Kept second p q) × Kept later p q
    by true e =
        let same : is_subtag (map to_ascii_uppercase p) ≡ true = subtag_same p ∙ e in
        let is : map to_ascii_uppercase p ≡ q = cc (ap (λ b. cond b (Some (map to_ascii_uppercase p)) None) e) in
        subst (λ r. (is_script p ≡ false → Kept second p r) × Kept later p r) is (
          (λ no. record {
            again = rw (script_upper p ∙ no, same) (ap Some (twice to_ascii_uppercase uppercase-uppercase p));
            clean = (both_true _ _ same).1;
            long = length-map p to_ascii_uppercase;
          }),
          record {
            again = rw same (ap Some (twice to_ascii_uppercase uppercase-uppercase p));
            clean = (both_true _ _ same).1;
            long = length-map p to_ascii_uppercase;
          },
        )
    by false e = cc (ap (λ b. cond b (Some (map to_ascii_uppercase p)) None) e)

second_kept : (p q : List ℕ) → part_at second p ≡ Some q → Kept second p q
second_kept p q h = by (is_script p) refl
  where
    by : (b : Bool) → is_script p ≡ b → Kept second p q
    by true e =
        let same : is_script (title p) ≡ true = script_title p ∙ e in
        let is : title p ≡ q = cc (ap (λ b. cond b (Some (title p)) (subtag p)) e) in
        subst (Kept second p) is (record {
          again = rw same (ap Some (title_twice p));
          clean = all_weaker is_ascii_alphabetic is_ascii_alphanumeric alpha_sign (title p) (both_true _ _ same).1;
          long = length-title p;
        })
    by false e = (subtag_kept p q (sym (ap (λ b. cond b (Some (title p)) (subtag p)) e) ∙ h)).0 e

part_kept : (position : Position) (p q : List ℕ) → part_at position p ≡ Some q → Kept position p q
part_kept first p q h = language_kept p q h
part_kept second p q h = second_kept p q h
part_kept later p q h = (subtag_kept p q h).1

-- ---- all parts
abbrev pub AllClean : List (List ℕ) → Type 0
AllClean [] = Unit {0}
AllClean (p ∷ ps) = (is_clean p ≡ true) × AllClean ps

pub record PartsKept (position : Position) (ps qs : List (List ℕ)) : Type 0 where
  pub again : parts_from position qs ≡ Some qs
  pub clean : AllClean qs
  pub long : length (join_with_byte 95 qs) ≡ length (join_with_byte 95 ps)
  pub some : length qs ≡ length ps

longer : (p q : List ℕ) (ps qs : List (List ℕ)) → length q ≡ length p → length qs ≡ length ps → length (join_with_byte 95 qs) ≡ length (join_with_byte 95 ps)
    → length (join_with_byte 95 (q ∷ qs)) ≡ length (join_with_byte 95 (p ∷ ps))
longer p q [] [] e f g = e
longer p q [] (x ∷ qs) e f g = absurd (omega arith)
longer p q (x ∷ ps) [] e f g = absurd (omega arith)
longer p q (x ∷ ps) (y ∷ qs) e f g = omega (arith, length-append p (95 ∷ join_with_byte 95 (x ∷ ps)), length-append q (95 ∷ join_with_byte 95 (y ∷ qs)))

pub parts_kept : (position : Position) (ps qs : List (List ℕ)) → parts_from position ps ≡ Some qs → PartsKept position ps qs
parts_kept position [] qs h = subst (PartsKept position []) (let e : [] ≡ qs = cc in e) (record { again = refl; clean = tt; long = refl; some = refl })
parts_kept position (p ∷ ps) qs h = by (part_at position p) refl (parts_from (next_position position) ps) refl (λ rs. parts_kept (next_position position) ps rs)
  where
    by : (o : Option (List ℕ)) → part_at position p ≡ o → (os : Option (List (List ℕ))) → parts_from (next_position position) ps ≡ os
        → ((rs : List (List ℕ)) → parts_from (next_position position) ps ≡ Some rs → PartsKept (next_position position) ps rs) → PartsKept position (p ∷ ps) qs
    by None e os f ih = cc (ap (λ z. in_front z (parts_from (next_position position) ps)) e)
    by (Some q) e None f ih = cc (ap (λ z. in_front z (parts_from (next_position position) ps)) e, ap (λ z. in_front (Some q) z) f)
    by (Some q) e (Some rs) f ih =
        let one = part_kept position p q e in
        let more = ih rs f in
        let is : q ∷ rs ≡ qs = cc (ap (λ z. in_front z (parts_from (next_position position) ps)) e, ap (λ z. in_front (Some q) z) f) in
        subst (PartsKept position (p ∷ ps)) is (record {
          again = ap (λ z. in_front z (parts_from (next_position position) rs)) one.again ∙ ap (λ z. in_front (Some q) z) more.again;
          clean = (one.clean, more.clean);
          long = longer p q ps rs one.long more.some more.long;
          some = ap suc more.some;
        })

-- parts without a sign that would end them
clean_whole : (e : ℕ → Bool) → ((b : ℕ) → is_ascii_alphanumeric b ≡ true → e b ≡ false) → (p : List ℕ) → is_clean p ≡ true → All (λ b. e b ≡ false) p
clean_whole e f p h = λ k d l. f (get_or p k d) (AllPass-from_list_all is_ascii_alphanumeric p h k d l)

pub split_joined : (e : ℕ → Bool) → ((b : ℕ) → is_ascii_alphanumeric b ≡ true → e b ≡ false) → e 95 ≡ true → (ps : List (List ℕ)) → 0 < length ps → AllClean ps
    → slice_split e (join_with_byte 95 ps) ≡ ps
split_joined e f t [] h a = absurd (omega arith)
split_joined e f t (p ∷ []) h a = slice_split_none e p (clean_whole e f p a.0)
split_joined e f t (p ∷ q ∷ ps) h a =
    slice_split_at e p 95 (join_with_byte 95 (q ∷ ps)) (clean_whole e f p a.0) t ∙ ap (λ l. p ∷ l) (split_joined e f t (q ∷ ps) (omega arith) a.1)

-- cutting and joining keeps the length
onto_long : (b : ℕ) (ss : List (List ℕ)) → 0 < length ss → length (join_with_byte 95 (onto_first b ss)) ≡ length (join_with_byte 95 ss) + 1
onto_long b [] h = absurd (omega arith)
onto_long b (s ∷ []) h = omega arith
onto_long b (s ∷ t ∷ ss) h = omega arith

empty_long : (ss : List (List ℕ)) → 0 < length ss → length (join_with_byte 95 ([] ∷ ss)) ≡ length (join_with_byte 95 ss) + 1
empty_long [] h = absurd (omega arith)
empty_long (s ∷ ss) h = omega arith

pub joined_long : (bs : List ℕ) → length (join_with_byte 95 (slice_split is_between bs)) ≡ length bs
joined_long [] = refl
joined_long (b ∷ bs) = by (is_between b) (slice_split is_between bs) (some_parts is_between bs) (joined_long bs)
  where
    by : (c : Bool) (ss : List (List ℕ)) → 0 < length ss → length (join_with_byte 95 ss) ≡ length bs
        → length (join_with_byte 95 (cond c ([] ∷ ss) (onto_first b ss))) ≡ suc (length bs)
    by true ss h e = omega (arith, empty_long ss h)
    by false ss h e = omega (arith, onto_long b ss h)

-- ---- no `@`
joined_free : (ps : List (List ℕ)) → AllClean ps → list_all (λ b. not (is_at b)) (join_with_byte 95 ps) ≡ true
joined_free [] a = refl
joined_free (p ∷ []) a = all_weaker is_ascii_alphanumeric (λ b. not (is_at b)) (λ b h. rw (sign_no_at b h) refl) p a.0
joined_free (p ∷ q ∷ ps) a =
    rw (
      list_all-append (λ b. not (is_at b)) p (95 ∷ join_with_byte 95 (q ∷ ps)),
      all_weaker is_ascii_alphanumeric (λ b. not (is_at b)) (λ b h. rw (sign_no_at b h) refl) p a.0,
    ) (joined_free (q ∷ ps) a.1)

free_whole : (bs : List ℕ) → list_all (λ b. not (is_at b)) bs ≡ true → before_at bs ≡ bs
free_whole bs h = take_all (position_or_len is_at bs) bs (omega (arith, past (nat_lt (position_or_len is_at bs) (length bs)) refl))
  where
    past : (c : Bool) → nat_lt (position_or_len is_at bs) (length bs) ≡ c → length bs ≤ position_or_len is_at bs
    past true e =
        let l = ltb-true _ _ e in
        let t : is_at (get_or bs (position_or_len is_at bs) 0) ≡ true = passes_at_first is_at bs 0 l in
        let f : not (is_at (get_or bs (position_or_len is_at bs) 0)) ≡ true = AllPass-from_list_all (λ b. not (is_at b)) bs h (position_or_len is_at bs) 0 l in
        absurd (cc (ap not t))
    past false e = ltb-false _ _ e

-- ---- names
-- the canonical form of a text of at most 64 bytes is its own name, and as long as the text
pub canonical : (bs out : List ℕ) → written first bs ≡ Some out → length bs ≤ 64
    → (name out ≡ Some out) × (length out ≡ length bs) × (written first out ≡ Some out)
canonical bs out h l = by (parts_from first (slice_split is_between bs)) refl
  where
    own : (n : List ℕ) → length n ≤ 64 → written first n ≡ Some n → named n ≡ Some n
    own [] s w = cc
    own (b ∷ n) s w = ap (λ c. cond c (written first (b ∷ n)) None) (le-leb _ _ s) ∙ w

    by : (o : Option (List (List ℕ))) → parts_from first (slice_split is_between bs) ≡ o
        → (name out ≡ Some out) × (length out ≡ length bs) × (written first out ≡ Some out)
    by None e = cc (ap (option_map (join_with_byte 95)) e)
    by (Some qs) e =
        let is : join_with_byte 95 qs ≡ out = cc (ap (option_map (join_with_byte 95)) e) in
        let kept = parts_kept first (slice_split is_between bs) qs e in
        let parts = split_joined is_between sign_within refl qs (omega (arith, kept.some, some_parts is_between bs)) kept.clean in
        let long : length (join_with_byte 95 qs) ≡ length bs = kept.long ∙ joined_long bs in
        let again : written first (join_with_byte 95 qs) ≡ Some (join_with_byte 95 qs) =
        ap (λ ss. option_map (join_with_byte 95) (parts_from first ss)) parts ∙ ap (option_map (join_with_byte 95)) kept.again in
        subst (λ n. (name n ≡ Some n) × (length n ≡ length bs) × (written first n ≡ Some n)) is
        (ap named (free_whole (join_with_byte 95 qs) (joined_free qs kept.clean)) ∙ own (join_with_byte 95 qs) (omega arith) again, long, again)

-- ---- the shorter name
split_snoc : (xs ys : List ℕ) → All (λ b. is_underscore b ≡ false) ys → slice_split is_underscore (xs ++ 95 ∷ ys) ≡ slice_split is_underscore xs ++ ys ∷ []
split_snoc xs ys h = split_append is_underscore 95 xs ys refl ∙ ap (λ ps. slice_split is_underscore xs ++ ps) (slice_split_none is_underscore ys h)

without_snoc : (ps : List (List ℕ)) (y : List ℕ) → without_last (ps ++ y ∷ []) ≡ ps
without_snoc [] y = refl
without_snoc (p ∷ []) y = refl
without_snoc (p ∷ q ∷ ps) y = ap (λ l. p ∷ l) (without_snoc (q ∷ ps) y)

-- the name up to its last underscore
pub shorter_some : (xs ys : List ℕ) → All (λ b. is_underscore b ≡ false) ys → shorter (xs ++ 95 ∷ ys) ≡ Some xs
shorter_some xs ys h =
    ap shorter_of (split_snoc xs ys h)
    ∙ ap (λ c. cond c (Some (join_with_byte 95 (without_last (slice_split is_underscore xs ++ ys ∷ [])))) None)
    (le-leb _ _ (omega (arith, length-append (slice_split is_underscore xs) (ys ∷ []), some_parts is_underscore xs)))
    ∙ ap (λ ps. Some (join_with_byte 95 ps)) (without_snoc (slice_split is_underscore xs) ys)
    ∙ ap Some (join_with_byte-slice_split 95 xs)

pub shorter_none : (n : List ℕ) → All (λ b. is_underscore b ≡ false) n → shorter n ≡ None
shorter_none n h = ap shorter_of (slice_split_none is_underscore n h)

first_parts : (position : Position) (ps : List (List ℕ)) (y : List ℕ) → parts_from position (ps ++ y ∷ []) ≡ Some (ps ++ y ∷ [])
    → parts_from position ps ≡ Some ps
first_parts position [] y h = refl
first_parts position (p ∷ ps) y h =
    by (part_at position p) refl (parts_from (next_position position) (ps ++ y ∷ [])) refl (λ f. first_parts (next_position position) ps y f)
  where
    by : (o : Option (List ℕ)) → part_at position p ≡ o → (os : Option (List (List ℕ))) → parts_from (next_position position) (ps ++ y ∷ []) ≡ os
        → (parts_from (next_position position) (ps ++ y ∷ []) ≡ Some (ps ++ y ∷ []) → parts_from (next_position position) ps ≡ Some ps)
        → parts_from position (p ∷ ps) ≡ Some (p ∷ ps)
    by None e os f ih = cc (ap (λ z. in_front z (parts_from (next_position position) (ps ++ y ∷ []))) e)
    by (Some q) e None f ih = cc (ap (λ z. in_front z (parts_from (next_position position) (ps ++ y ∷ []))) e, ap (λ z. in_front (Some q) z) f)
    by (Some q) e (Some rs) f ih =
        let is : q ∷ rs ≡ p ∷ (ps ++ y ∷ []) =
        cc (ap (λ z. in_front z (parts_from (next_position position) (ps ++ y ∷ []))) e, ap (λ z. in_front (Some q) z) f) in
        let one : q ≡ p = cc in
        let more : rs ≡ ps ++ y ∷ [] = cc in
        ap (λ z. in_front z (parts_from (next_position position) ps)) (e ∙ ap Some one) ∙ ap (λ z. in_front (Some p) z) (ih (f ∙ ap Some more))

first_clean : (ps : List (List ℕ)) (y : List ℕ) → AllClean (ps ++ y ∷ []) → AllClean ps
first_clean [] y a = tt
first_clean (p ∷ ps) y a = (a.0, first_clean ps y a.1)

-- it is canonical too
pub shorter_canonical : (xs ys : List ℕ) → All (λ b. is_underscore b ≡ false) ys → written first (xs ++ 95 ∷ ys) ≡ Some (xs ++ 95 ∷ ys)
    → written first xs ≡ Some xs
shorter_canonical xs ys h w = by (parts_from first (slice_split is_between (xs ++ 95 ∷ ys))) refl
  where
    by : (o : Option (List (List ℕ))) → parts_from first (slice_split is_between (xs ++ 95 ∷ ys)) ≡ o → written first xs ≡ Some xs
    by None e = cc (ap (option_map (join_with_byte 95)) e)
    by (Some qs) e =
        let is : join_with_byte 95 qs ≡ xs ++ 95 ∷ ys = cc (ap (option_map (join_with_byte 95)) e) in
        let kept = parts_kept first (slice_split is_between (xs ++ 95 ∷ ys)) qs e in
        let some : 0 < length qs = omega (arith, kept.some, some_parts is_between (xs ++ 95 ∷ ys)) in
        let cut : slice_split is_underscore xs ++ ys ∷ [] ≡ qs =
        sym (split_snoc xs ys h) ∙ ap (slice_split is_underscore) (sym is) ∙ split_joined is_underscore sign_not_underscore refl qs some kept.clean in
        let own : parts_from first (slice_split is_underscore xs) ≡ Some (slice_split is_underscore xs) =
        first_parts first (slice_split is_underscore xs) ys (subst (λ l. parts_from first l ≡ Some l) (sym cut) kept.again) in
        let clean : AllClean (slice_split is_underscore xs) = first_clean (slice_split is_underscore xs) ys (subst AllClean (sym cut) kept.clean) in
        let whole : join_with_byte 95 (slice_split is_underscore xs) ≡ xs = join_with_byte-slice_split 95 xs in
        let same : slice_split is_between xs ≡ slice_split is_underscore xs =
        ap (slice_split is_between) (sym whole) ∙ split_joined is_between sign_within refl (slice_split is_underscore xs) (some_parts is_underscore xs) clean in
        ap (λ ss. option_map (join_with_byte 95) (parts_from first ss)) same ∙ ap (option_map (join_with_byte 95)) own ∙ ap Some whole

-- where the last underscore is
pub none_behind : (n : List ℕ) (i : ℕ) → NoneFrom n (i + 1) → All (λ b. is_underscore b ≡ false) (drop (i + 1) n)
none_behind n i none = λ k d l.
    let inside : k < length (drop (i + 1) n) = l in
    let far : i + 1 + k < length n = omega (arith, length-drop (i + 1) n) in
    ap is_underscore (get_or-drop (i + 1) n k d ∙ get_or_default n (i + 1 + k) d 0 far) ∙ none (i + 1 + k) (omega arith) far

pub at_last : (n : List ℕ) (i : ℕ) → i < length n → slice_index n i ≡ 95 → n ≡ take i n ++ 95 ∷ drop (i + 1) n
at_last n i h e = sym (take-append-drop i n) ∙ ap (λ l. take i n ++ l) (rw (add-one, drop-cons n i 0 h) (ap (λ x. x ∷ drop (suc i) n) e))

pub none_from : (n : List ℕ) → NoneFrom n 0 → All (λ b. is_underscore b ≡ false) n
none_from n none = λ k d l. ap is_underscore (get_or_default n k d 0 l) ∙ none k (omega arith) l

pub own_name : (n : List ℕ) → written first n ≡ Some n → length n ≤ 64 → name n ≡ Some n
own_name n w l = (canonical n n w l).0
