-- Defines the file that is assembled from the written data, for private contracts and proofs only.
use Rattle.std.specs.Prelude.{◌≡◌, Bool, true, ℕ, ◌+◌, ◌*◌, ◌/◌, ◌<◌, ◌≤◌, List, ◌++◌, length, get_or, take}
use Rattle.std.specs.Prelude.{drop}
use Rattle.rb_format.specs.Place.{word_at}
use Rattle.byteorder.specs.Endian.{little_bytes}
use Rattle.rb_writer.specs.Bytes.{words}
use Rattle.rb_writer.specs.Written.{front_words}
use Rattle.rb_writer.specs.Header.{header}
use Rattle.rb_writer.specs.declared.area.KeyArea.{KeyArea}

-- a word was replaced
pub record SetsWord (old new : List ℕ) (i word : ℕ) : Type 0 where
  pub len : length new ≡ length old
  pub word_is : word_at new i ≡ word
  pub before : (j : ℕ) → j < 4 * i → get_or new j 0 ≡ get_or old j 0
  pub after : (j : ℕ) → 4 * i + 4 ≤ j → get_or new j 0 ≡ get_or old j 0
  pub bytes : new ≡ take (4 * i) old ++ (little_bytes 4 word ++ drop 4 (drop (4 * i) old))

-- the first words of the data were replaced by these
abbrev pub StartsWith : List ℕ → List ℕ → List ℕ → Type 0
StartsWith ws old new = new ≡ words ws ++ drop (4 * length ws) old

-- the root item and the indexes were written at the front of the data
pub record IsIndexed (no_fallback : Bool) (old : List ℕ) (root : ℕ) (area : KeyArea) (most : ℕ)
    (new : List ℕ) : Type 0 where
  pub len : length new ≡ length old
  pub root_is : word_at new 0 ≡ root
  pub indexes : word_at new 1 ≡ area.indexes
  pub keys_top : word_at new 2 ≡ area.top
  pub items_top : word_at new 3 ≡ length old / 4
  pub top : word_at new 4 ≡ length old / 4
  pub longest : word_at new 5 ≡ most
  pub attributes : no_fallback ≡ true → word_at new 6 ≡ 1
  pub same : (i : ℕ) → 4 * (1 + area.indexes) ≤ i → get_or new i 0 ≡ get_or old i 0
  pub bytes : StartsWith (front_words no_fallback root area.indexes area.top (length old / 4) most) old new

-- the file of the data
pub record IsFile (no_fallback : Bool) (out : List ℕ) (root : ℕ) (area : KeyArea) (most : ℕ)
    (file : List ℕ) : Type 0 where
  pub long : 32 ≤ length file
  pub front : take 32 file ≡ header no_fallback
  pub indexed : IsIndexed no_fallback out root area most (drop 32 file)
