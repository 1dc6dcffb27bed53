-- Defines the invariant of the knowledge about a file's keys, for proofs only.
use Rattle.std.specs.Prelude.{◌≡◌, ◌⊎◌, ℕ, zero, suc, ◌+◌, ◌-◌, ◌*◌, ◌≤◌, ◌<◌, List, [], length, take, drop}
use Rattle.std.specs.Prelude.{slice_index, Option, None, Some, Ok}
use Rattle.std.specs.Prelude.{IfSome}
use Rattle.rb_format.specs.declared.layout.Layout.{Layout}
use Rattle.rb_format.specs.declared.geometry.KeyPlaces.{KeyPlaces}
use Rattle.rb_format.specs.declared.geometry.KeyPlaces.TheVariants.{Halves, Words}
use Rattle.rb_format.specs.Place.{word_at, half_at, key}
use Rattle.rb_format.specs.inner.FirstFault.{next_key}
use Rattle.rb_validator.specs.declared.keys.known.KnownKeys.{KnownKeys}
use Rattle.rb_validator.specs.declared.keys.ranks.Ranks.{Ranks}
use Rattle.rb_validator.specs.inner.Ranks.{IsRanked}
use Rattle.rb_validator.specs.inner.Lengths.{AreCounted}
use Rattle.rb_format.specs.Limits.{file_limit}

-- the bytes of all keys
abbrev pub key_run : Layout → List ℕ → List ℕ
key_run y body = take (4 * y.keys_top - 4 * (1 + y.indexes)) (drop (4 * (1 + y.indexes)) body)

-- a key, or nothing if there is none
abbrev pub key_or_none : Option (List ℕ) → List ℕ
key_or_none None = []
key_or_none (Some k) = k

-- the previous key, by its offset
abbrev pub previous_key : Layout → List ℕ → Option ℕ → List ℕ
previous_key y body None = []
previous_key y body (Some k) = key_or_none (key y body k)

-- the key before index i
abbrev pub last_key : Layout → List ℕ → (ℕ → ℕ) → ℕ → List ℕ
last_key y body place zero = []
last_key y body place (suc i) = key_or_none (key y body (place i))

-- the key at index i is valid and above the one before
abbrev pub IsGood : Layout → List ℕ → (ℕ → ℕ) → ℕ → Type 0
IsGood y body place i = next_key y body (last_key y body place i) (place i) ≡ Ok (key_or_none (key y body (place i)))

-- the first n keys are valid
abbrev pub AreGood : Layout → List ℕ → (ℕ → ℕ) → ℕ → Type 0
AreGood y body place n = (i : ℕ) → i < n → IsGood y body place i

-- the key offset after index p is that of a key above the one at p
abbrev pub IsPair : Layout → List ℕ → (ℕ → ℕ) → ℕ → Type 0
IsPair y body offset p = next_key y body (key_or_none (key y body (offset p))) (offset (suc p))
    ≡ Ok (key_or_none (key y body (offset (suc p))))

-- links cover only such pairs
abbrev pub IsLinked : Layout → List ℕ → (ℕ → ℕ) → List ℕ → Type 0
IsLinked y body offset links = (p q : ℕ) → p ≤ q → q < slice_index links p → IsPair y body offset q

-- a link is unchanged, or leads from an index at or after `first` to the end
abbrev pub IsRedirected : List ℕ → List ℕ → ℕ → ℕ → ℕ → Type 0
IsRedirected old new from to p = (slice_index new p ≡ slice_index old p) ⊎ ((from ≤ p) × (slice_index new p ≡ to))

-- the same position, counted from the top of the keys
abbrev pub AreFrom : Layout → KeyPlaces → KeyPlaces → Type 0
AreFrom y (Halves a) (Halves b) = a ≡ 2 * y.keys_top + b
AreFrom y (Words a) (Words b) = a ≡ y.keys_top + b
AreFrom y _ _ = ⊥

-- the ranks of the keys in these bytes
abbrev pub AreRanks : List ℕ → Ranks → Type 0
AreRanks run r = IsRanked run r.lengths.items r.starts.items r.ranks.items

-- the invariant
pub record IsSound (y : Layout) (body : List ℕ) (m : KnownKeys) : Type 0 where
  pub lengths : IfSome m.lengths (λ v. AreCounted (key_run y body) v.items)
  pub ranks : IfSome m.ranks (λ r. AreRanks (key_run y body) r)
  pub halves : IsLinked y body (λ p. half_at body (2 * y.keys_top + p)) m.halves.items
  pub words : IsLinked y body (λ p. word_at body (y.keys_top + p)) m.words.items
  pub few : m.compared ≤ 25 * length body
  pub short : length body ≤ file_limit
