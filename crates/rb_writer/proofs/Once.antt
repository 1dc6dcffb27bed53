-- Keys that ascend are put each once, one after the other.
use Rattle.std.proofs.Common.{◌≡◌, ℕ, zero, suc, ◌+◌, ◌-◌, ◌%◌, ◌<◌, ◌≤◌, Bool, true, false, cond, List, [], ◌∷◌, ◌++◌, length, get_or, take, map, Some, refl, sym, ap, subst, ◌∙◌, arith, Bor}
use Rattle.std.specs.Prelude.{slice_get}
use Rattle.std.specs.List.{dedup_from}
use Rattle.std.specs.Str.{bytes_eq}
use Rattle.std.specs.Ordering.{nat_cmp}
use Rattle.std.specs.declared.cmp.Ordering.TheVariants.{Less}
use Rattle.std.specs.Cmp.Lexicographic.{slice_cmp}
use Rattle.std.specs.List.Sorted.{IsSorted, IsStrictlySortedBy}
use Rattle.std.proofs.lemmas.Cmp.{nat_list_eq_equiv, nat_list_cmp_total}
use Rattle.std.proofs.lemmas.List.{append_assoc, append-nil, length-append, length-map, map-append, take_all}
use Rattle.std.specs.List.{AllByRecursion}
use Rattle.std.specs.Ordering.{is_eq}
use Rattle.std.proofs.lemmas.Map.Text.{is_eq-slice_cmp}
use Rattle.rb_writer.specs.declared.keys.KeyOffsets.{KeyOffsets}
use Rattle.rb_writer.specs.inner.Collected.{names}
use Rattle.rb_writer.proofs.Laying.{padded_behind}
use Rattle.std.proofs.lemmas.Grind.{flat_map-append}
use Rattle.std.proofs.lemmas.List.Kept.{IsStrictlySortedBy-dedup}
use Rattle.rb_writer.specs.Bytes.{padded}
use Rattle.rb_writer.specs.KeyList.{key_data, key_place}
use Rattle.rb_writer.specs.inner.Keying.{known_keys, ends_with, distinct, PlacesKey, PlacedFrom, KeysLaid, KeysWritten}

-- ---- the last of some keys

ends_more : (q : List ℕ) (ks : List (List ℕ)) (k : List ℕ) → 0 < length ks → ends_with (q ∷ ks) k ≡ ends_with ks k
ends_more q [] k h = absurd (omega arith)
ends_more q (r ∷ ks) k h = refl

some_kept : (k : List ℕ) (ks : List (List ℕ)) → 0 < length (dedup_from bytes_eq k ks)
some_kept k [] = omega arith
some_kept k (q ∷ ks) = by_test (bytes_eq q k) (some_kept k ks)
  where
    by_test : (b : Bool) → 0 < length (dedup_from bytes_eq k ks) → 0 < length (cond b (dedup_from bytes_eq k ks) (k ∷ dedup_from bytes_eq q ks))
    by_test true h = h
    by_test false h = omega arith

-- one key more, unless it is the last
abbrev pub with_key : List (List ℕ) → List ℕ → List (List ℕ)
with_key ks k = cond (ends_with ks k) ks (ks ++ k ∷ [])

under : (b : Bool) (q : List ℕ) (ks : List (List ℕ)) (k : List ℕ) → q ∷ cond b ks (ks ++ k ∷ []) ≡ cond b (q ∷ ks) ((q ∷ ks) ++ k ∷ [])
under true q ks k = refl
under false q ks k = refl

from_snoc : (q : List ℕ) (ks : List (List ℕ)) (k : List ℕ) → dedup_from bytes_eq q (ks ++ k ∷ []) ≡ with_key (dedup_from bytes_eq q ks) k
from_snoc q [] k = refl
from_snoc q (r ∷ ks) k = by_test (bytes_eq r q) (from_snoc q ks k) (from_snoc r ks k)
  where
    by_test : (b : Bool) → dedup_from bytes_eq q (ks ++ k ∷ []) ≡ with_key (dedup_from bytes_eq q ks) k
        → dedup_from bytes_eq r (ks ++ k ∷ []) ≡ with_key (dedup_from bytes_eq r ks) k → cond b (dedup_from bytes_eq q (ks ++ k ∷ [])) (q ∷ dedup_from bytes_eq r (ks ++ k ∷ []))
        ≡ with_key (cond b (dedup_from bytes_eq q ks) (q ∷ dedup_from bytes_eq r ks)) k
    by_test true same other = same
    by_test false same other = ap (λ (xs : List (List ℕ)). q ∷ xs) other ∙ under (ends_with (dedup_from bytes_eq r ks) k) q (dedup_from bytes_eq r ks) k
        ∙ ap (λ (b : Bool). cond b (q ∷ dedup_from bytes_eq r ks) ((q ∷ dedup_from bytes_eq r ks) ++ k ∷ []))
        (sym (ends_more q (dedup_from bytes_eq r ks) k (some_kept r ks)))

pub distinct_snoc : (ks : List (List ℕ)) (k : List ℕ) → distinct (ks ++ k ∷ []) ≡ with_key (distinct ks) k
distinct_snoc [] k = refl
distinct_snoc (q ∷ ks) k = from_snoc q ks k

-- ---- places

pub placed_more : (n : ℕ) (known : List (Bor (List ℕ) × ℕ)) (r : Bor (List ℕ)) → PlacedFrom n known
    → PlacedFrom n (known ++ (r, n + length (key_data (known_keys known))) ∷ [])
placed_more n [] r h = (omega arith, tt)
placed_more n (p ∷ known) r h =
    let d : List ℕ = key_data (known_keys known) in
    let m : n + length (p.0.now ++ 0 ∷ [] ++ d) ≡ n + length p.0.now + 1 + length d =
    omega (arith, length-append (p.0.now ++ 0 ∷ []) d, length-append p.0.now (0 ∷ [])) in
    (h.0, subst (λ x. PlacedFrom (n + length p.0.now + 1) (known ++ (r, x) ∷ [])) (sym m) (placed_more (n + length p.0.now + 1) known r h.1))

-- ---- one key more

pub ends_at : (known : List (Bor (List ℕ) × ℕ)) (k : List ℕ) (d : Bor (List ℕ) × ℕ) → 0 < length known
    → ends_with (known_keys known) k ≡ bytes_eq (get_or known (length known - 1) d).0.now k
ends_at [] k d h = absurd (omega arith)
ends_at (p ∷ []) k d h = nat_list_eq_equiv.symm k p.0.now
ends_at (p ∷ q ∷ known) k d h =
    let up : suc (suc (length known)) - 1 ≡ suc (suc (length known) - 1) = omega arith in
    rw up (ends_at (q ∷ known) k d (omega arith))

pub no_end : (known : List (Bor (List ℕ) × ℕ)) (k : List ℕ) → length known ≡ 0 → ends_with (known_keys known) k ≡ false
no_end [] k h = refl
no_end (p ∷ known) k h = absurd (omega arith)

pub placed_again : (out k : List ℕ) (known : List (Bor (List ℕ) × ℕ)) → ends_with (known_keys known) k ≡ true → PlacesKey out out k known known
placed_again out k known h = record { again = λ e. (refl, refl); first = λ e. absurd cc }

pub placed_first : (old mid new : List ℕ) (r : Bor (List ℕ)) (known known_new : List (Bor (List ℕ) × ℕ)) (o : ℕ)
    → ends_with (known_keys known) r.now ≡ false → mid ≡ old ++ r.now → new ≡ mid ++ 0 ∷ [] → o ≡ length old → known_new ≡ known ++ (r, o) ∷ []
    → PlacesKey old new r.now known known_new
placed_first old mid new r known known_new o h p q e f = record {
  again = λ g. absurd cc;
  first = λ g. (
    r,
    refl,
    q ∙ ap (λ (m : List ℕ). m ++ 0 ∷ []) p ∙ append_assoc old r.now (0 ∷ []),
    f ∙ ap (λ m. known ++ (r, m) ∷ []) e,
  );
}

keys_append : (known : List (Bor (List ℕ) × ℕ)) (p : Bor (List ℕ) × ℕ) → known_keys (known ++ p ∷ []) ≡ known_keys known ++ p.0.now ∷ []
keys_append known p = map-append (λ (x : Bor (List ℕ) × ℕ). x.0.now) known (p ∷ [])

data_append : (ks : List (List ℕ)) (k : List ℕ) → key_data (ks ++ k ∷ []) ≡ key_data ks ++ (k ++ 0 ∷ [])
data_append ks k = flat_map-append (λ (q : List ℕ). q ++ 0 ∷ []) ks (k ∷ []) ∙ ap (λ (m : List ℕ). key_data ks ++ m) (append-nil (k ++ 0 ∷ []))

take_next : (ks : List (List ℕ)) (i : ℕ) (k : List ℕ) → Some k ≡ slice_get ks i → take (suc i) ks ≡ take i ks ++ k ∷ []
take_next [] i k e = cc
take_next (q ∷ ks) zero k e = let s : q ≡ k = cc in rw s refl
take_next (q ∷ ks) (suc i) k e = ap (λ (xs : List (List ℕ)). q ∷ xs) (take_next ks i k e)

pub keys_laid : (old mid new : List ℕ) (known known_new : List (Bor (List ℕ) × ℕ)) (ks : List (List ℕ)) (i : ℕ) (k : List ℕ) → KeysLaid old known ks mid i
    → Some k ≡ slice_get ks i → PlacesKey mid new k known known_new → KeysLaid old known_new ks new (i + 1)
keys_laid old mid new known known_new ks i k l e p = by_test (ends_with (known_keys known) k) refl
  where
    d : List (List ℕ)
    d = distinct (take i ks)

    next : take (i + 1) ks ≡ take i ks ++ k ∷ []
    next = let up : i + 1 ≡ suc i = omega arith in rw up (take_next ks i k e)

    last : (b : Bool) → ends_with (known_keys known) k ≡ b → distinct (take (i + 1) ks) ≡ cond b d (d ++ k ∷ [])
    last b f = ap distinct next ∙ distinct_snoc (take i ks) k
        ∙ ap (λ (c : Bool). cond c d (d ++ k ∷ [])) (ap (λ (xs : List (List ℕ)). ends_with xs k) (sym l.known_are) ∙ f)

    by_test : (b : Bool) → ends_with (known_keys known) k ≡ b → KeysLaid old known_new ks new (i + 1)
    by_test true f =
        let q = p.again f in
        record {
          known_are = ap known_keys q.1 ∙ l.known_are ∙ sym (last true f);
          placed = subst (PlacedFrom (length old)) (sym q.1) l.placed;
          joined = q.0 ∙ l.joined ∙ ap (λ (xs : List (List ℕ)). old ++ key_data xs) (sym (last true f));
        }
    by_test false f =
        let q = p.first f in
        let r : Bor (List ℕ) = q.0 in
        let at : length mid ≡ length old + length (key_data (known_keys known)) =
        ap length l.joined ∙ length-append old (key_data d) ∙ ap (λ (xs : List (List ℕ)). length old + length (key_data xs)) (sym l.known_are) in
        let pushed : known_new ≡ known ++ (r, length old + length (key_data (known_keys known))) ∷ [] =
        q.3 ∙ ap (λ m. known ++ (r, m) ∷ []) at in
        record {
          known_are = ap known_keys pushed ∙ keys_append known (r, length old + length (key_data (known_keys known)))
              ∙ ap (λ (x : List ℕ). known_keys known ++ x ∷ []) q.1 ∙ ap (λ (xs : List (List ℕ)). xs ++ k ∷ []) l.known_are ∙ sym (last false f);
          placed = subst (PlacedFrom (length old)) (sym pushed) (placed_more (length old) known r l.placed);
          joined = q.2 ∙ ap (λ (m : List ℕ). m ++ (k ++ 0 ∷ [])) l.joined ∙ append_assoc old (key_data d) (k ++ 0 ∷ [])
              ∙ ap (λ (m : List ℕ). old ++ m) (sym (data_append d k))
              ∙ ap (λ (xs : List (List ℕ)). old ++ key_data xs) (sym (last false f));
        }

-- ---- all keys

less_at : (x : List ℕ) (known : List (Bor (List ℕ) × ℕ)) (i : ℕ) (p : Bor (List ℕ) × ℕ)
    → AllByRecursion (λ y. slice_cmp nat_cmp x y ≡ Less) (known_keys known) → i < length known → get_or known i p ≡ p → slice_cmp nat_cmp x p.0.now ≡ Less
less_at x [] i p a h e = absurd (omega arith)
less_at x (q ∷ known) zero p a h e = subst (λ (r : Bor (List ℕ) × ℕ). slice_cmp nat_cmp x r.0.now ≡ Less) e a.0
less_at x (q ∷ known) (suc i) p a h e = less_at x known i p a.1 (omega arith) e

pub other : (q k : List ℕ) → slice_cmp nat_cmp q k ≡ Less → bytes_eq k q ≡ false
other q k h = nat_list_eq_equiv.symm k q ∙ sym (is_eq-slice_cmp q k) ∙ ap is_eq h

place_at : (n : ℕ) (known : List (Bor (List ℕ) × ℕ)) (i : ℕ) (p : Bor (List ℕ) × ℕ) → PlacedFrom n known
    → IsStrictlySortedBy (slice_cmp nat_cmp) (known_keys known) → i < length known → get_or known i p ≡ p → key_place n (known_keys known) p.0.now ≡ p.1
unfolding IsStrictlySortedBy
place_at n [] i p h s l e = absurd (omega arith)
place_at n (q ∷ known) zero p h s l e =
    let same : bytes_eq p.0.now q.0.now ≡ true = ap (λ (r : Bor (List ℕ) × ℕ). bytes_eq p.0.now r.0.now) e ∙ nat_list_eq_equiv.refl p.0.now in
    rw same (sym h.0 ∙ ap (λ (r : Bor (List ℕ) × ℕ). r.1) e)
place_at n (q ∷ known) (suc i) p h s l e =
    let no : bytes_eq p.0.now q.0.now ≡ false = other q.0.now p.0.now (less_at q.0.now known i p s.0 (omega arith) e) in
    rw no (place_at (n + length q.0.now + 1) known i p h.1 s.1 (omega arith) e)

-- keys that ascend are distinct once neighbours that are the same are left out
pub strict : (ks : List (List ℕ)) → IsSorted (slice_cmp nat_cmp) ks → IsStrictlySortedBy (slice_cmp nat_cmp) (distinct ks)
strict ks h = IsStrictlySortedBy-dedup nat_list_cmp_total (λ x y. sym (is_eq-slice_cmp x y)) ks h

pub keys_written : (old cur new : List ℕ) (keys : KeyOffsets) (ps : List (Bor (List ℕ) × ℕ)) (i : ℕ)
    → KeysLaid old keys.known.items (map (λ r. r.now) (names ps)) cur i → length ps ≤ i → new ≡ padded cur → length old % 4 ≡ 0
    → IsSorted (slice_cmp nat_cmp) (map (λ r. r.now) (names ps)) → KeysWritten old new keys (map (λ r. r.now) (names ps))
keys_written old cur new keys ps i l h p whole sorted =
    let ks : List (List ℕ) = map (λ r. r.now) (names ps) in
    let len : length ks ≡ length ps = length-map (names ps) (λ r. r.now) ∙ length-map ps (λ q. q.0) in
    let all : take i ks ≡ ks = take_all i ks (omega (arith, len)) in
    let known_are : known_keys keys.known.items ≡ distinct ks = l.known_are ∙ ap distinct all in
    let cur_is : cur ≡ old ++ key_data (distinct ks) = l.joined ∙ ap (λ (xs : List (List ℕ)). old ++ key_data (distinct xs)) all in
    let ascends : IsStrictlySortedBy (slice_cmp nat_cmp) (known_keys keys.known.items) =
    subst (IsStrictlySortedBy (slice_cmp nat_cmp)) (sym known_are) (strict ks sorted) in
    record {
      joined = p ∙ ap padded cur_is ∙ padded_behind old (key_data (distinct ks)) whole;
      places = λ k o s.
          let at : key_place (length old) (known_keys keys.known.items) s.0.0.now ≡ s.0.1 =
          place_at (length old) keys.known.items s.1.0 s.0 l.placed ascends s.1.1 s.1.2 in
          ap (λ (xs : List (List ℕ)). key_place (length old) xs k) (sym known_are)
          ∙ ap (key_place (length old) (known_keys keys.known.items)) (sym s.2) ∙ at ∙ s.3;
    }
