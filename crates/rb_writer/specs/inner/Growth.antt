-- Defines how the data grow while they are written, for private contracts and proofs only.
use Rattle.rb_writer.specs.declared.area.KeyArea.{KeyArea}
use Rattle.std.specs.Prelude.{◌≡◌, ◌⊎◌, ℕ, ℤ, ◌+◌, ◌*◌, ◌/◌, ◌^◌, ◌<◌, ◌≤◌, List, ◌++◌, length, get_or}
use Rattle.std.specs.Prelude.{take, drop, Result, Ok, map}
use Rattle.std.specs.Int.{cast_signed, cast_unsigned, w32}
use Rattle.byteorder.specs.Endian.{little_bytes}
use Rattle.rb_writer.specs.Bytes.{words, halves}
use Rattle.rb_format.specs.declared.fault.FileFault.{FileFault}
use Rattle.rb_format.specs.inner.FirstFault.{result_map, numbers}
use Rattle.rb_format.specs.Place.{word_at, half_at}
use Rattle.rb_format.specs.declared.layout.Layout.{Layout}

-- the new data begin with the old
pub record Adds (old new : List ℕ) : Type 0 where
  pub longer : length old ≤ length new
  pub same : (i : ℕ) → i < length old → get_or new i 0 ≡ get_or old i 0

-- a word was appended to data of whole words
pub record PutsWord (old new : List ℕ) (word : ℕ) : Type 0 where
  pub adds : Adds old new
  pub len : length new ≡ length old + 4
  pub word_is : (i : ℕ) → length old ≡ 4 * i → word_at new i ≡ word
  pub bytes : new ≡ old ++ little_bytes 4 word

-- the first n words of a list were appended to data of whole words
pub record PutsWords (old new ws : List ℕ) (n : ℕ) : Type 0 where
  pub adds : Adds old new
  pub len : length new ≡ length old + 4 * n
  pub words_are : (i j : ℕ) → length old ≡ 4 * i → j < n → word_at new (i + j) ≡ get_or ws j 0
  pub bytes : new ≡ old ++ words (take n ws)

-- the first n signed numbers of a list were appended to data of whole words
pub record PutsNumbers (old new : List ℕ) (numbers : List ℤ) (n : ℕ) : Type 0 where
  pub adds : Adds old new
  pub len : length new ≡ length old + 4 * n
  pub numbers_are : (i j : ℕ) (d : ℤ) → length old ≡ 4 * i → j < n
      → cast_signed w32 (word_at new (i + j)) ≡ get_or numbers j d
  pub bytes : new ≡ old ++ words (map (cast_unsigned w32) (take n numbers))

-- a half word was appended to data of whole half words
pub record PutsHalf (old new : List ℕ) (half : ℕ) : Type 0 where
  pub adds : Adds old new
  pub len : length new ≡ length old + 2
  pub half_is : (i : ℕ) → length old ≡ 2 * i → half_at new i ≡ half
  pub bytes : new ≡ old ++ little_bytes 2 half

-- the first n half words of a list were appended
pub record PutsHalves (old new hs : List ℕ) (n : ℕ) : Type 0 where
  pub adds : Adds old new
  pub len : length new ≡ length old + 2 * n
  pub halves_are : (i j : ℕ) → length old ≡ 2 * i → j < n → half_at new (i + j) ≡ get_or hs j 0
  pub bytes : new ≡ old ++ halves (take n hs)

-- bytes were appended
pub record PutsBytes (old new : List ℕ) (bytes : List ℕ) : Type 0 where
  pub adds : Adds old new
  pub len : length new ≡ length old + length bytes
  pub bytes_are : drop (length old) new ≡ bytes
  pub joined : new ≡ old ++ bytes

-- the bounds of data that are being written: all data so far
abbrev pub draft : KeyArea → List ℕ → Layout
draft area body = record { indexes = area.indexes; keys_top = area.top; top = length body / 4 }

-- whole words, beginning with the root item, the indexes and the keys
pub record IsDraft (area : KeyArea) (body : List ℕ) : Type 0 where
  pub words : ℕ
  pub whole : length body ≡ 4 * words
  pub low : 1 + area.indexes ≤ area.top
  pub high : area.top ≤ words

-- a value x was written at an offset, or is the value of an item without data, which has none
pub record Put {A : Type 0} (area : KeyArea) (old new : List ℕ) (most : ℕ)
    (value : Layout → List ℕ → ℕ → Result A FileFault) (x none : A)
    (offset : ℕ) : Type 0 where
  pub adds : Adds old new
  pub drafted : IsDraft area new
  pub little : length new ≤ length old + most
  pub small : offset < 2 ^ 28
  pub stands : ((offset ≡ 0) × (x ≡ none))
      ⊎ ((area.top ≤ offset) × (offset < length new / 4) × (value (draft area new) new offset ≡ Ok x))

-- the signed numbers at an offset
abbrev pub signed_numbers : Layout → List ℕ → ℕ → Result (List ℤ) FileFault
signed_numbers y body o = result_map (λ ns. map (cast_signed w32) ns) (numbers y body o)

-- bytes were appended, and this is their position
pub record Laid (old new bytes : List ℕ) (place offset : ℕ) : Type 0 where
  pub joined : new ≡ old ++ bytes
  pub place_is : offset ≡ place
