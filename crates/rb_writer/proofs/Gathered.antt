-- The keys of a tree stay what they are when they are sorted.
use Rattle.std.proofs.Common.{◌≡◌, ℕ, zero, suc, ◌+◌, ◌<◌, ◌≤◌, List, [], ◌∷◌, ◌++◌, length, get_or, take, map, Some, refl, sym, ap, ◌∙◌, arith, Bor, subst, inl, inr}
use Rattle.std.proofs.lemmas.List.Elements.{Contains-push_cases}
use Rattle.rb_writer.specs.KeyList.{all_keys}
use Rattle.std.proofs.lemmas.List.{map-append, get_or_push, get_or_append_left, length_push, take_more, take_all}
use Rattle.std.proofs.lemmas.List.Elements.{All-append, All-contains}
use Rattle.std.proofs.lemmas.List.Sums.{sum_by-cons}
use Rattle.std.proofs.lemmas.List.Sorted.{All-permutation, Contains-permutation, sum_by-IsPermutation, IsPermutation-map, IsPermutation-trans}
use Rattle.std.specs.Prelude.{All, Contains, slice_get, sum_by}
use Rattle.std.specs.List.Sorted.{IsPermutation}
use Rattle.std.specs.Map.{keys_of}
use Rattle.rb_tree.specs.Resource.{Resource, Members}
use Rattle.rb_tree.specs.Keys.{IsKey, IsTable, pairs}
use Rattle.rb_writer.specs.inner.Collected.{size_of, Has, Gains, Gathers, GathersKeys, names}
use Rattle.rb_writer.specs.inner.Places.{EachKey}
use Rattle.rb_writer.specs.declared.sorting.Headed.{Headed}
use Rattle.rb_writer.proofs.Collecting.{each_still, size_push}

all_at : {X : Type 0} (P : X → Type 0) (ks : List X) (i : ℕ) (k : X) → All P ks → Some k ≡ slice_get ks i → P k
all_at P [] i k a e = cc
all_at P (q ∷ ks) zero k a e = let s : q ≡ k = cc in subst P s (a 0 q (omega arith))
all_at P (q ∷ ks) (suc i) k a e = all_at P ks i k (λ j d h. a (suc j) d (omega arith)) e

-- a table's keys are keys
pub entry_key : (es : Members) (i : ℕ) (k : List ℕ) → IsTable es → Some k ≡ slice_get (keys_of (pairs es)) i → IsKey k
entry_key es i k t e = all_at IsKey (keys_of (pairs es)) i k t.keys_ok e

keys_push : (old : List (Bor (List ℕ))) (r : Bor (List ℕ)) → All (λ q. IsKey q.now) old → IsKey r.now → All (λ q. IsKey q.now) (old ++ r ∷ [])
keys_push old r a k = All-append (λ (q : Bor (List ℕ)). IsKey q.now) old (r ∷ []) a (λ i d h. one i d h)
  where
    one : (i : ℕ) (d : Bor (List ℕ)) → i < length (r ∷ []) → IsKey (get_or (r ∷ []) i d).now
    one zero d h = k
    one (suc i) d h = absurd (omega arith)

pub has_at : (keys : List (Bor (List ℕ))) (i : ℕ) (k : List ℕ) (d : Bor (List ℕ)) → i < length keys → (get_or keys i d).now ≡ k → Has keys k
has_at keys i k d h e = (get_or keys i d, (i, h, same keys i d h), e)
  where
    same : {X : Type 0} (xs : List X) (i : ℕ) (d : X) → i < length xs → get_or xs i (get_or xs i d) ≡ get_or xs i d
    same [] i d h = absurd (omega arith)
    same (x ∷ xs) zero d h = refl
    same (x ∷ xs) (suc i) d h = same xs i d (omega arith)

pub gains_none : (k : List ℕ) (keys : List (Bor (List ℕ))) → Has keys k → Gains k keys keys
gains_none k keys h = record { here = h; stay = λ q g. g; little = omega arith; is_key = λ _ a. a; only = λ q g. inl g }

pub gains_new : (old new : List (Bor (List ℕ))) (r : Bor (List ℕ)) → new ≡ old ++ r ∷ [] → Gains r.now old new
gains_new old new r e = rw e (record {
  here = (r, (length old, omega (arith, length_push old r), get_or_push old r r (length old) refl), refl);
  stay = λ q h.
      let at = h.1.1 in
      (h.0, (h.1.0, omega (arith, length_push old r, at), get_or_append_left old (r ∷ []) h.0 h.1.0 at ∙ h.1.2), h.2);
  little = omega (arith, size_push old r);
  is_key = λ k a. keys_push old r a k;
  only = λ q h. elim (Contains-push_cases old r h.0 h.1) [
    | inl before ↦ inl (h.0, before, h.2)
    | inr last ↦ inr (sym (ap (λ (x : Bor (List ℕ)). x.now) last ∙ h.2))
  ];
})

-- one more key with its first bytes
pub headed_more : (ks : List (Bor (List ℕ))) (hs new : List Headed) (i : ℕ) (h : Headed) (d : Bor (List ℕ)) → map (λ (x : Headed). x.key) hs ≡ take i ks
    → new ≡ hs ++ h ∷ [] → h.key ≡ get_or ks i d → i < length ks → map (λ (x : Headed). x.key) new ≡ take (i + 1) ks
headed_more ks hs new i h d e is at low =
    ap (map (λ (x : Headed). x.key)) is ∙ map-append (λ (x : Headed). x.key) hs (h ∷ [])
    ∙ ap (λ (xs : List (Bor (List ℕ))). xs ++ h.key ∷ []) e ∙ ap (λ (k : Bor (List ℕ)). take i ks ++ k ∷ []) at ∙ sym (take_more ks i d low)

pub by_heads : (ks : List (Bor (List ℕ))) (hs sorted : List Headed) (i : ℕ) → map (λ (x : Headed). x.key) hs ≡ take i ks → length ks ≤ i
    → IsPermutation hs sorted → IsPermutation ks (map (λ (x : Headed). x.key) sorted)
by_heads ks hs sorted i e h p =
    subst (λ (xs : List (Bor (List ℕ))). IsPermutation xs (map (λ (x : Headed). x.key) sorted)) (e ∙ take_all i ks h)
    (IsPermutation-map (λ (x : Headed). x.key) hs sorted p)

pub headed_names : (hs : List Headed) → names (map (λ (x : Headed). (x.key, x.id)) hs) ≡ map (λ (x : Headed). x.key) hs
headed_names [] = refl
headed_names (h ∷ hs) = ap (λ (xs : List (Bor (List ℕ))). h.key ∷ xs) (headed_names hs)

pub gathered : (t : Resource) (old keys : List (Bor (List ℕ))) → old ≡ [] → Gathers t old keys → GathersKeys t keys
gathered t old keys e g =
    let f : Gathers t [] keys = subst (λ (o : List (Bor (List ℕ))). Gathers t o keys) e g in
    let l = f.little in
    record {
      covered = f.covered;
      little = omega arith;
      is_key = f.is_key (λ i d h. absurd (omega arith));
      only = λ q h. elim (f.only q h) [
        | inl before ↦ let low = before.1.1 in absurd (omega arith)
        | inr now ↦ now
      ];
    }

-- what the keys take doesn't depend on their order
size_sum : (ks : List (Bor (List ℕ))) → size_of ks ≡ sum_by (λ (r : Bor (List ℕ)). 1 + length r.now) ks
size_sum [] = refl
size_sum (k ∷ ks) = ap (λ n. 1 + length k.now + n) (size_sum ks) ∙ sym (sum_by-cons (λ (r : Bor (List ℕ)). 1 + length r.now) k ks)

size_same : (found keys : List (Bor (List ℕ))) → IsPermutation found keys → size_of keys ≡ size_of found
size_same found keys p = size_sum keys ∙ sum_by-IsPermutation (λ (r : Bor (List ℕ)). 1 + length r.now) found keys p ∙ sym (size_sum found)

sorted_names : (t : Resource) (found keys : List (Bor (List ℕ))) → GathersKeys t found → IsPermutation found keys → GathersKeys t keys
sorted_names t found keys g p =
    let l = g.little in
    record {
      covered = each_still (λ k. Has found k) (λ k. Has keys k) (λ k h. (h.0, Contains-permutation found keys h.0 p h.1, h.2)) t g.covered;
      little = omega (arith, size_same found keys p);
      is_key = All-permutation (λ (r : Bor (List ℕ)). IsKey r.now) found keys p g.is_key;
      only = λ q h.
          let all : All (λ r. Contains (all_keys t) r.now) found = λ i d b. g.only (get_or found i d).now (has_at found i (get_or found i d).now d b refl) in
          subst (Contains (all_keys t)) h.2 (All-contains (λ (r : Bor (List ℕ)). Contains (all_keys t) r.now) keys h.0
          (All-permutation (λ (r : Bor (List ℕ)). Contains (all_keys t) r.now) found keys p all) h.1);
    }

pub sorted : (t : Resource) (found : List (Bor (List ℕ))) (numbered keys : List (Bor (List ℕ) × ℕ)) → GathersKeys t found
    → IsPermutation found (names numbered) → IsPermutation numbered keys → GathersKeys t (names keys)
sorted t found numbered keys g e p = sorted_names t found (names keys) g
    (IsPermutation-trans found (names numbered) (names keys) e (IsPermutation-map (λ (x : Bor (List ℕ) × ℕ). x.0) numbered keys p))

-- what holds of all the keys holds of each in the tree
pub each_key : (P : List ℕ → Type 0) (t : Resource) (keys : List (Bor (List ℕ))) → GathersKeys t keys → All (λ r. P r.now) keys → EachKey P t
each_key P t keys g a = each_still (λ k. Has keys k) P
    (λ k h. subst P h.2 (All-contains (λ (r : Bor (List ℕ)). P r.now) keys h.0 a h.1)) t g.covered
