-- Defines the keys that were written after the indexes, for private contracts and proofs only.
use Rattle.std.specs.Prelude.{◌≡◌, ℕ, ◌+◌, ◌<◌, ◌≤◌, Bool, true, false, List, [], ◌∷◌, ◌++◌, length, get_or, take}
use Rattle.std.specs.Prelude.{drop, map, Some, slice_get}
use Rattle.std.specs.List.{dedup}
use Rattle.std.specs.Str.{bytes_eq}
use Rattle.rb_writer.specs.Bytes.{padded}
use Rattle.rb_writer.specs.KeyList.{key_data, key_place}
use Rattle.rb_writer.specs.inner.Standing.{AreAt}
use Rattle.rb_writer.specs.declared.keys.KeyOffsets.{KeyOffsets}
use Rattle.std.proofs.Common.{Bor}
use Rattle.rb_writer.specs.inner.Keyed.{IsStored, IsStoredAt}
use Rattle.rb_tree.specs.Keys.{IsKey}
use Rattle.rb_writer.specs.inner.Collected.{keys_size}

-- a key is at an offset at or after `start`, with a NUL after it
pub record KeyAt (start : ℕ) (body k : List ℕ) (o : ℕ) : Type 0 where
  pub low : start ≤ o
  pub inside : o + length k < length body
  pub bytes : take (length k) (drop o body) ≡ k
  pub ended : get_or body (o + length k) 0 ≡ 0
  pub is_key : IsKey k

-- the first i of these keys were written, and their offsets are known
pub record KeysPut (start : ℕ) (known : List (Bor (List ℕ) × ℕ)) (ks : List (List ℕ)) (body : List ℕ)
    (i : ℕ) : Type 0 where
  pub low : start ≤ length body
  pub little : length body + keys_size (drop i ks) ≤ start + keys_size ks
  pub stand : (q : List ℕ) (o : ℕ) → IsStoredAt known q o → KeyAt start body q o
  pub each : (j : ℕ) (k : List ℕ) → j < i → Some k ≡ slice_get ks j → IsStored known k

-- the keys that are known
abbrev pub known_keys : List (Bor (List ℕ) × ℕ) → List (List ℕ)
known_keys known = map (λ p. p.0.now) known

-- whether the last key equals this key
abbrev pub ends_with : List (List ℕ) → List ℕ → Bool
ends_with [] k = false
ends_with (q ∷ []) k = bytes_eq k q
ends_with (q ∷ r ∷ ks) k = ends_with (r ∷ ks) k

-- a key was appended and noted, unless it equals the last one
pub record PlacesKey (old new k : List ℕ) (known_old known_new : List (Bor (List ℕ) × ℕ)) : Type 0 where
  pub again : ends_with (known_keys known_old) k ≡ true → (new ≡ old) × (known_new ≡ known_old)
  pub first : ends_with (known_keys known_old) k ≡ false → (r : Bor (List ℕ)) × (r.now ≡ k)
      × (new ≡ old ++ (k ++ 0 ∷ [])) × (known_new ≡ known_old ++ (r, length old) ∷ [])

-- the list without keys that equal the one before
abbrev pub distinct : List (List ℕ) → List (List ℕ)
distinct ks = dedup bytes_eq ks

-- the keys are adjacent from byte n on
abbrev pub PlacedFrom : ℕ → List (Bor (List ℕ) × ℕ) → Type 0
PlacedFrom n [] = Unit {0}
PlacedFrom n (p ∷ known) = (p.1 ≡ n) × PlacedFrom (n + length p.0.now + 1) known

-- the first i of these keys were appended, each distinct key once, byte by byte
pub record KeysLaid (old : List ℕ) (known : List (Bor (List ℕ) × ℕ)) (ks : List (List ℕ)) (body : List ℕ)
    (i : ℕ) : Type 0 where
  pub known_are : known_keys known ≡ distinct (take i ks)
  pub placed : PlacedFrom (length old) known
  pub joined : body ≡ old ++ key_data (distinct (take i ks))

-- all of these keys were appended, each distinct key once, and their offsets are known
pub record KeysWritten (old new : List ℕ) (keys : KeyOffsets) (ks : List (List ℕ)) : Type 0 where
  pub joined : new ≡ old ++ padded (key_data (distinct ks))
  pub places : AreAt keys (key_place (length old) (distinct ks))
