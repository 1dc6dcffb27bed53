-- A name, part by part.
use Rattle.std.proofs.Common.{◌≡◌, ℕ, ◌+◌, ◌<◌, ◌≤◌, List, [], ◌∷◌, ◌++◌, length, take, drop, Bool, true, false, Option, Some, None, option_map, nat_lt, cond}
use Rattle.std.proofs.Common.{All, refl, ap, sym, ◌∙◌, arith, subst, set, append_assoc, length-drop, length-append, ◌-◌}
use Rattle.std.proofs.lemmas.List.{take_all, drop_all, drop-drop, append-nil, length-set}
use Rattle.std.specs.Option.{option_zip}
use Rattle.std.specs.List.{slice_split, position_or_len, join_with_byte, onto_first}
use Rattle.std.proofs.lemmas.List.Splits.{slice_split_first, slice_split_none, slice_split-cons_yes, length-slice_split}
use Rattle.std.proofs.lemmas.List.Sums.{fails_before_first}
use Rattle.std.proofs.lemmas.Bool.{ltb-true, ltb-false}
use native.Mathlib.Numerals.{unary_clauses}
use borrow.Rule.Slice.PartMut.{put_mid}
use Rattle.rb_locales.specs.Locale.{Position, next_position, is_between, part_at, in_front, parts_from, written}

-- one part, an underscore, and the rest
abbrev pub joined : List ℕ × List ℕ → List ℕ
joined q = q.0 ++ 95 ∷ q.1

pub written_last : (position : Position) (bs : List ℕ) (k : ℕ) → k ≡ position_or_len is_between bs → k ≡ length bs → written position bs ≡ part_at position bs
written_last position bs k e f =
    let none : All (λ x. is_between x ≡ false) bs = λ i d l. fails_before_first is_between bs i d (omega arith) in
    ap (λ ss. option_map (join_with_byte 95) (parts_from position ss)) (slice_split_none is_between bs none) ∙ alone (part_at position bs)
  where
    alone : (p : Option (List ℕ)) → option_map (join_with_byte 95) (in_front p (Some [])) ≡ p
    alone None = refl
    alone (Some p) = refl

two : (p : Option (List ℕ)) (o q : Option (List ℕ)) (os : Option (List (List ℕ)))
    → option_map (join_with_byte 95) (in_front p (in_front o os)) ≡ option_map joined (option_zip p (option_map (join_with_byte 95) (in_front o os)))
two None o q os = refl
two (Some p) None q os = refl
two (Some p) (Some o) q None = refl
two (Some p) (Some o) q (Some os) = refl

more : (position next : Position) (p : List ℕ) (ss : List (List ℕ)) → next ≡ next_position position → 0 < length ss
    → option_map (join_with_byte 95) (parts_from position (p ∷ ss))
    ≡ option_map joined (option_zip (part_at position p) (option_map (join_with_byte 95) (parts_from next ss)))
more position next p [] e h = absurd (omega arith)
more position next p (s ∷ ss) e h =
    rw e (two (part_at position p) (part_at (next_position position) s) None (parts_from (next_position (next_position position)) ss))

-- a list that is cut has a part
pub some_parts : (test : ℕ → Bool) (bs : List ℕ) → 0 < length (slice_split test bs)
some_parts test bs = omega (arith, length-slice_split test bs)

-- the parts of two lists with a cut between them
pub split_append : (test : ℕ → Bool) (x : ℕ) (xs ys : List ℕ) → test x ≡ true → slice_split test (xs ++ x ∷ ys) ≡ slice_split test xs ++ slice_split test ys
split_append test x [] ys t = slice_split-cons_yes test x ys t
split_append test x (b ∷ bs) ys t = rw (split_append test x bs ys t) (by (test b) (slice_split test bs) (some_parts test bs))
  where
    by : (c : Bool) (ss : List (List ℕ)) → 0 < length ss → cond c ([] ∷ (ss ++ slice_split test ys)) (onto_first b (ss ++ slice_split test ys))
        ≡ cond c ([] ∷ ss) (onto_first b ss) ++ slice_split test ys
    by true ss l = refl
    by false [] l = absurd (omega arith)
    by false (s ∷ ss) l = refl

pub written_more : (position : Position) (bs : List ℕ) (k : ℕ) → k ≡ position_or_len is_between bs → k < length bs
    → written position bs ≡ option_map joined (option_zip (part_at position (take k bs)) (written (next_position position) (drop (k + 1) bs)))
written_more position bs k e f =
    let first : slice_split is_between bs ≡ take k bs ∷ slice_split is_between (drop (k + 1) bs) =
    subst (λ (j : ℕ). slice_split is_between bs ≡ take j bs ∷ slice_split is_between (drop (j + 1) bs)) (sym e)
    (slice_split_first is_between bs 0 (omega arith)) in
    ap (λ ss. option_map (join_with_byte 95) (parts_from position ss)) first
    ∙ more position (next_position position) (take k bs) (slice_split is_between (drop (k + 1) bs)) refl (some_parts is_between (drop (k + 1) bs))

-- the same if the part may not be there, and if the rest may not
pub written_bad : (position : Position) (bs : List ℕ) (k : ℕ) → k ≡ position_or_len is_between bs → k ≤ length bs → part_at position (take k bs) ≡ None
    → written position bs ≡ None
written_bad position bs k e f none = by (nat_lt k (length bs)) refl
  where
    by : (b : Bool) → nat_lt k (length bs) ≡ b → written position bs ≡ None
    by true h =
        written_more position bs k e (ltb-true _ _ h) ∙ ap (λ o. option_map joined (option_zip o (written (next_position position) (drop (k + 1) bs)))) none
    by false h =
        let l = ltb-false _ _ h in
        let whole : take k bs ≡ bs = take_all k bs l in
        written_last position bs k e (omega arith) ∙ subst (λ (xs : List ℕ). part_at position xs ≡ None) whole none

-- what the slice is after the part and its underscore
set_at_seam : (p zs : List ℕ) → 0 < length zs → set (p ++ zs) (length p) 95 ≡ p ++ 95 ∷ drop 1 zs
set_at_seam [] [] h = absurd (omega arith)
set_at_seam [] (z ∷ zs) h = refl
set_at_seam (x ∷ p) zs h = ap (λ l. x ∷ l) (set_at_seam p zs h)

drop_at_seam : (p : List ℕ) (x : ℕ) (zs : List ℕ) → drop (length p + 1) (p ++ x ∷ zs) ≡ zs
drop_at_seam [] x zs = refl
drop_at_seam (y ∷ p) x zs = simp unary_clauses (simp unary_clauses at (drop_at_seam p x zs))

take_at_seam : (p : List ℕ) (x : ℕ) (zs : List ℕ) → take (length p + 1) (p ++ x ∷ zs) ≡ p ++ x ∷ []
take_at_seam [] x zs = refl
take_at_seam (y ∷ p) x zs = simp unary_clauses (ap (λ l. y ∷ l) (simp unary_clauses at (take_at_seam p x zs)))

set_is : (bs p : List ℕ) (k : ℕ) → length p ≡ k → k < length bs → set (p ++ drop k bs) k 95 ≡ p ++ 95 ∷ drop (k + 1) bs
set_is bs p k e h =
    subst (λ (j : ℕ). set (p ++ drop k bs) j 95 ≡ p ++ 95 ∷ drop 1 (drop k bs)) e (set_at_seam p (drop k bs) (omega (arith, length-drop k bs)))
    ∙ ap (λ (l : List ℕ). p ++ 95 ∷ l) (drop-drop 1 k bs)

pub behind_is : (bs p : List ℕ) (k : ℕ) → length p ≡ k → k < length bs → drop (k + 1) (set (p ++ drop k bs) k 95) ≡ drop (k + 1) bs
behind_is bs p k e h =
    ap (λ (l : List ℕ). drop (k + 1) l) (set_is bs p k e h)
    ∙ subst (λ (j : ℕ). drop (j + 1) (p ++ 95 ∷ drop (k + 1) bs) ≡ drop (k + 1) bs) e (drop_at_seam p 95 (drop (k + 1) bs))

pub put_is : (bs p q : List ℕ) (k n : ℕ) → length p ≡ k → k < length bs → length bs ≤ n + k + 1 → put_mid (k + 1) n (set (p ++ drop k bs) k 95) q ≡ p ++ 95 ∷ q
put_is bs p q k n e h m =
    let front : take (k + 1) (set (p ++ drop k bs) k 95) ≡ p ++ 95 ∷ [] =
    ap (λ (l : List ℕ). take (k + 1) l) (set_is bs p k e h)
    ∙ subst (λ (j : ℕ). take (j + 1) (p ++ 95 ∷ drop (k + 1) bs) ≡ p ++ 95 ∷ []) e (take_at_seam p 95 (drop (k + 1) bs)) in
    let back : drop n (drop (k + 1) (set (p ++ drop k bs) k 95)) ≡ [] =
    ap (λ (l : List ℕ). drop n l) (behind_is bs p k e h) ∙ drop_all n (drop (k + 1) bs) (omega (arith, length-drop (k + 1) bs)) in
    ap (λ (l : List ℕ). l ++ (q ++ drop n (drop (k + 1) (set (p ++ drop k bs) k 95)))) front
    ∙ ap (λ (l : List ℕ). (p ++ 95 ∷ []) ++ (q ++ l)) back
    ∙ simp (append_assoc, append-nil)

pub whole_is : (position : Position) (bs p : List ℕ) (k : ℕ) → k ≡ position_or_len is_between bs → k ≡ length bs → part_at position (take k bs) ≡ Some p
    → written position bs ≡ Some (p ++ drop k bs)
whole_is position bs p k e f some =
    let whole : take k bs ≡ bs = take_all k bs (omega arith) in
    let none : drop k bs ≡ [] = drop_all k bs (omega arith) in
    written_last position bs k e f ∙ subst (λ (xs : List ℕ). part_at position xs ≡ Some p) whole some
    ∙ ap Some (sym (ap (λ (l : List ℕ). p ++ l) none ∙ append-nil p))

-- what the program is left with after the part
pub rest_is : (bs p : List ℕ) (k : ℕ) → length p ≡ k → k < length bs
    → take (length (set (p ++ drop k bs) k 95) - (k + 1)) (drop (k + 1) (set (p ++ drop k bs) k 95)) ≡ drop (k + 1) bs
rest_is bs p k e h =
    take_all (length (set (p ++ drop k bs) k 95) - (k + 1)) (drop (k + 1) (set (p ++ drop k bs) k 95))
    (omega (arith, length-drop (k + 1) (set (p ++ drop k bs) k 95))) ∙ behind_is bs p k e h

pub written_on : (position next : Position) (bs p q : List ℕ) (r : Bool) (k : ℕ) → k ≡ position_or_len is_between bs → k < length bs
    → part_at position (take k bs) ≡ Some p → next ≡ next_position position → written next (drop (k + 1) bs) ≡ cond r (Some q) None
    → written position bs ≡ cond r (Some (p ++ 95 ∷ q)) None
written_on position next bs p q r k e h some n rest =
    written_more position bs k e h
    ∙ ap (λ o. option_map joined (option_zip o (written (next_position position) (drop (k + 1) bs)))) some
    ∙ ap (λ o. option_map joined (option_zip (Some p) o)) (subst (λ (m : Position). written m (drop (k + 1) bs) ≡ cond r (Some q) None) n rest)
    ∙ by r
  where
    by : (c : Bool) → option_map joined (option_zip (Some p) (cond c (Some q) None)) ≡ cond c (Some (p ++ 95 ∷ q)) None
    by true = refl
    by false = refl

pub turn : (position next : Position) (bs p q : List ℕ) (w r : Bool) (k : ℕ) → k ≡ position_or_len is_between bs → k < length bs → length p ≡ k → w ≡ true
    → part_at position (take k bs) ≡ cond w (Some p) None → next ≡ next_position position
    → written next (take (length (set (p ++ drop k bs) k 95) - (k + 1)) (drop (k + 1) (set (p ++ drop k bs) k 95))) ≡ cond r (Some q) None
    → written position bs ≡ cond r (Some (put_mid (k + 1) (length (set (p ++ drop k bs) k 95) - (k + 1)) (set (p ++ drop k bs) k 95) q)) None
turn position next bs p q w r k e h l t some n rest =
    let len : length (set (p ++ drop k bs) k 95) ≡ length bs = omega (arith, length-set (p ++ drop k bs) k 95, length-append p (drop k bs), length-drop k bs) in
    written_on position next bs p q r k e h (some ∙ ap (λ b. cond b (Some p) None) t) n (ap (written next) (sym (rest_is bs p k l h)) ∙ rest)
    ∙ ap (λ z. cond r (Some z) None) (sym (put_is bs p q k (length (set (p ++ drop k bs) k 95) - (k + 1)) l h (omega arith)))
