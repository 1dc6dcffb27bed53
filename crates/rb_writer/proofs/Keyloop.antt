-- The loop that writes keys.
use Rattle.rb_writer.specs.declared.area.KeyArea.{KeyArea}
use Rattle.std.proofs.Common.{◌≡◌, ℕ, zero, suc, ◌+◌, ◌*◌, ◌/◌, ◌%◌, ◌<◌, ◌≤◌, List, [], ◌∷◌, length}
use Rattle.std.proofs.Common.{get_or, drop, map, Some, refl, sym, ap, ◌∙◌, arith, Bor, inl, inr, ◌⊎◌, subst}
use Rattle.std.proofs.lemmas.Bool.{cases_eq}
use Rattle.std.specs.Prelude.{slice_get, All}
use Rattle.rb_format.specs.Place.{key}
use Rattle.rb_writer.specs.inner.Collected.{keys_size, names}
use Rattle.rb_writer.specs.inner.Growth.{Adds, IsDraft, draft}
use Rattle.rb_writer.specs.inner.Keyed.{IsStored, IsStoredAt}
use Rattle.rb_writer.specs.inner.Keying.{KeyAt, KeysPut}
use Rattle.rb_writer.proofs.Placing.{key_reads, key_at_stays, key_at_low}

pub size_at : (ks : List (List ℕ)) (i : ℕ) (k : List ℕ) → Some k ≡ slice_get ks i → keys_size (drop i ks) ≡ 1 + length k + keys_size (drop (suc i) ks)
size_at [] i k e = cc
size_at (q ∷ ks) zero k e = let s : q ≡ k = cc in ap (λ (x : List ℕ). 1 + length x + keys_size ks) s
size_at (q ∷ ks) (suc i) k e = size_at ks i k e

at_map : (xs : List (Bor (List ℕ))) (i : ℕ) (d : Bor (List ℕ)) → i < length xs → Some (get_or xs i d).now ≡ slice_get (map (λ r. r.now) xs) i
at_map [] i d h = absurd (omega arith)
at_map (x ∷ xs) zero d h = refl
at_map (x ∷ xs) (suc i) d h = at_map xs i d (omega arith)

pub at_name : (ps : List (Bor (List ℕ) × ℕ)) (i : ℕ) (d : Bor (List ℕ) × ℕ) → i < length ps
    → Some (get_or ps i d).0.now ≡ slice_get (map (λ r. r.now) (names ps)) i
at_name [] i d h = absurd (omega arith)
at_name (p ∷ ps) zero d h = refl
at_name (p ∷ ps) (suc i) d h = at_name ps i d (omega arith)

pub keys_room : (start : ℕ) (m : List (Bor (List ℕ) × ℕ)) (ks : List (List ℕ)) (body : List ℕ) (i most : ℕ) (k : List ℕ) → KeysPut start m ks body i
    → Some k ≡ slice_get ks i → keys_size ks ≤ most → length body + length k < 1 + start + most
keys_room start m ks body i most k p e h = let l = p.little in omega (arith, size_at ks i k e)

pub keys_more : (start : ℕ) (m n : List (Bor (List ℕ) × ℕ)) (ks : List (List ℕ)) (cur nxt : List ℕ) (i : ℕ) (k : List ℕ) → KeysPut start m ks cur i
    → Some k ≡ slice_get ks i → Adds cur nxt → length nxt ≤ length cur + (1 + length k) → IsStored n k
    → ((q : List ℕ) → IsStored m q → IsStored n q)
    → ((q : List ℕ) (o : ℕ) → IsStoredAt n q o → IsStoredAt m q o ⊎ KeyAt (length cur) nxt q o) → KeysPut start n ks nxt (i + 1)
keys_more start m n ks cur nxt i k p e a few here stay stand =
    let l = p.little in let lo = p.low in let al = a.longer in
    let up : i + 1 ≡ suc i = omega arith in
    record {
      low = omega arith;
      little = rw up (omega (arith, size_at ks i k e));
      stand = λ q o f. elim (stand q o f) [
        | inl s ↦ key_at_stays start cur nxt q o a (p.stand q o s)
        | inr s ↦ key_at_low start (length cur) nxt q o lo s
      ];
      each = λ j q h f. elim (cases_eq j i) [
        | inl same ↦
            let some : Some q ≡ Some k = f ∙ ap (slice_get ks) same ∙ sym e in
            let is : q ≡ k = cc in
            subst (λ (x : List ℕ). IsStored n x) (sym is) here
        | inr other ↦ stay q (p.each j q (omega arith) f)
      ];
    }

-- the keys end with whole words
abbrev pub area_to : ℕ → List ℕ → KeyArea
area_to indexes body = record { indexes = indexes; top = length body / 4 }

pub keys_drafted : (indexes : ℕ) (m : List (Bor (List ℕ) × ℕ)) (ks : List (List ℕ)) (cur body : List ℕ) (i : ℕ)
    → KeysPut (4 * (1 + indexes)) m ks cur i → Adds cur body → length body % 4 ≡ 0 → IsDraft (area_to indexes body) body
keys_drafted indexes m ks cur body i p a w = let lo = p.low in let l = a.longer in
    record { words = length body / 4; whole = omega arith; low = omega arith; high = omega arith }

pub keys_read : (indexes : ℕ) (m : List (Bor (List ℕ) × ℕ)) (ks : List (List ℕ)) (cur body : List ℕ) (i : ℕ)
    → KeysPut (4 * (1 + indexes)) m ks cur i → Adds cur body → length body % 4 ≡ 0 → (q : List ℕ) (o : ℕ) → IsStoredAt m q o
    → key (draft (area_to indexes body) body) body o ≡ Some q
keys_read indexes m ks cur body i p a w q o e = key_reads (area_to indexes body) body q o (key_at_stays (4 * (1 + indexes)) cur body q o a (p.stand q o e))
    (omega arith)

length_names : (ps : List (Bor (List ℕ) × ℕ)) → length (names ps) ≡ length ps
length_names [] = refl
length_names (p ∷ ps) = omega (arith, length_names ps)

name_at : (ps : List (Bor (List ℕ) × ℕ)) (i : ℕ) (d : Bor (List ℕ) × ℕ) → get_or (names ps) i d.0 ≡ (get_or ps i d).0
name_at [] i d = refl
name_at (p ∷ ps) zero d = refl
name_at (p ∷ ps) (suc i) d = name_at ps i d

pub named_all : (P : List ℕ → Type 0) (ps : List (Bor (List ℕ) × ℕ)) (i : ℕ) (d : Bor (List ℕ) × ℕ) → All (λ r. P r.now) (names ps) → i < length ps
    → P (get_or ps i d).0.now
named_all P ps i d a h = subst (λ (r : Bor (List ℕ)). P r.now) (name_at ps i d) (a i d.0 (omega (arith, length_names ps)))

pub keys_each : (start : ℕ) (m : List (Bor (List ℕ) × ℕ)) (ps : List (Bor (List ℕ) × ℕ)) (cur : List ℕ) (i : ℕ)
    → KeysPut start m (map (λ r. r.now) (names ps)) cur i → length ps ≤ i → All (λ r. IsStored m r.now) (names ps)
keys_each start m ps cur i p h = λ j d g. p.each j (get_or (names ps) j d).now (omega (arith, length_names ps)) (at_map (names ps) j d g)
