-- Defines the file that `write` makes of a tree, byte by byte (`uresdata.h`). What the format leaves open is a rule of
-- this project; docs/FORMAT.md describes these rules.
use Rattle.std.specs.Prelude.{◌≡◌, ℕ, ◌+◌, ◌*◌, ◌/◌, Bool, if◌then◌else◌, List, [], ◌∷◌, ◌++◌, length, take, drop}
use Rattle.rb_format.specs.File.{Denotes}
use Rattle.rb_format.specs.Place.{word_at}
use Rattle.rb_tree.specs.Resource.{Resource}
use Rattle.rb_writer.specs.Bytes.{words, padded}
use Rattle.rb_writer.specs.Header.{header}
use Rattle.rb_writer.specs.KeyList.{AreKeysOf, key_data, key_place}
use Rattle.rb_writer.specs.Longest.{longest}
use Rattle.rb_writer.specs.Values.{data_of, item_of}

abbrev pub index_count : Bool → ℕ
index_count no_fallback = if no_fallback then 6 else 5

-- where the keys begin: after the root item and the indexes
abbrev pub keys_start : Bool → ℕ
keys_start no_fallback = 4 * (1 + index_count no_fallback)

-- the root item and the indexes (`URES_INDEX_..`): their number, the ends of the keys, of the values and of the bundle,
-- the length of the longest table, and the attributes
abbrev pub front_words : Bool → ℕ → ℕ → ℕ → ℕ → ℕ → List ℕ
front_words no_fallback root count keys_end end most =
    root ∷ count ∷ keys_end ∷ end ∷ end ∷ most ∷ (if no_fallback then 1 ∷ [] else [])

-- where the values begin
abbrev pub values_start : List (List ℕ) → Bool → ℕ
values_start ks no_fallback = keys_start no_fallback + length (padded (key_data ks))

abbrev pub values_data : List (List ℕ) → Resource → Bool → List ℕ
values_data ks t no_fallback = data_of (key_place (keys_start no_fallback) ks) (values_start ks no_fallback) t

abbrev pub root_item : List (List ℕ) → Resource → Bool → ℕ
root_item ks t no_fallback = item_of (key_place (keys_start no_fallback) ks) (values_start ks no_fallback) t

-- the end of the bundle, and of the file, in words
abbrev pub file_end : List (List ℕ) → Resource → Bool → ℕ
file_end ks t no_fallback = (values_start ks no_fallback + length (values_data ks t no_fallback)) / 4

-- the file of a tree, with its keys: the header, the words in front, the keys, and the values
abbrev pub file_of : List (List ℕ) → Resource → Bool → List ℕ
file_of ks t no_fallback =
    header no_fallback ++ (words (front_words no_fallback (root_item ks t no_fallback) (index_count no_fallback)
    (values_start ks no_fallback / 4) (file_end ks t no_fallback) (longest t))
    ++ (padded (key_data ks) ++ values_data ks t no_fallback))

-- the bytes are the file of a tree
pub record IsWriterFile (t : Resource) (no_fallback : Bool) (file : List ℕ) : Type 0 where
  pub keys : List (List ℕ)
  pub are_keys : AreKeysOf t keys
  pub bytes : file ≡ file_of keys t no_fallback

-- the bytes are the file of a bundle, and denote it; its header, its end (`URES_INDEX_BUNDLE_TOP`) and the length of
-- its longest table are where a reader expects them
pub record IsFileOf (t : Resource) (no_fallback : Bool) (file : List ℕ) : Type 0 where
  pub denotes : Denotes file (record { tree = t; no_fallback = no_fallback })
  pub front : take 32 file ≡ header no_fallback
  pub end : length file ≡ 32 + 4 * word_at (drop 32 file) 4
  pub longest : word_at (drop 32 file) 5 ≡ longest t
  pub bytes : IsWriterFile t no_fallback file
