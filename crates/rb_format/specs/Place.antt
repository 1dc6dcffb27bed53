-- Defines words, half words, keys and bounds in the data, which follow the header (`uresdata.h`, URES_INDEX_LENGTH to
-- URES_INDEX_BUNDLE_TOP). Numbers are little-endian.
use Rattle.std.specs.Prelude.{ℕ, zero, suc, ◌+◌, ◌-◌, ◌*◌, ◌==◌, ◌&&◌, Bool, nat_lt}
use Rattle.std.specs.Prelude.{if◌then◌else◌, List, [], ◌∷◌, length, take, drop, position, Option, Some, None}
use Rattle.std.specs.List.{list_all}
use Rattle.byteorder.specs.Endian.{little_number}
use Rattle.rb_tree.specs.Path.{is_plain, is_filled}
use Rattle.rb_format.specs.declared.layout.Layout.{Layout}

-- the number in the 4 bytes from byte 4i; a byte past the end counts as 0
unfoldable pub word_at : List ℕ → ℕ → ℕ
word_at body i = little_number 4 (drop (4 * i) body)

-- the number in the 2 bytes from byte 2i
unfoldable pub half_at : List ℕ → ℕ → ℕ
half_at body i = little_number 2 (drop (2 * i) body)

-- word i, if its 4 bytes exist
abbrev pub word : List ℕ → ℕ → Option ℕ
word body i = if nat_lt (4 * i + 3) (length body) then Some (word_at body i) else None

-- half word i, if its 2 bytes exist
abbrev pub half : List ℕ → ℕ → Option ℕ
half body i = if nat_lt (2 * i + 1) (length body) then Some (half_at body i) else None

-- a valid key: one or more bytes from a space to a tilde
abbrev pub key_ok : List ℕ → Bool
key_ok bytes = is_filled bytes && list_all is_plain bytes

-- the bytes up to the first NUL, if there is one and they are a key
abbrev pub key_before : List ℕ → Option ℕ → Option (List ℕ)
key_before run None = None
key_before run (Some n) = if key_ok (take n run) then Some (take n run) else None

abbrev pub key_front : List ℕ → Option (List ℕ)
key_front run = key_before run (position (λ b. b == 0) run)

-- the key from byte k, which is between the indexes and the top of the keys
unfoldable pub key : Layout → List ℕ → ℕ → Option (List ℕ)
key y body k =
    if nat_lt k (4 * (1 + y.indexes)) then None else
    (if nat_lt k (4 * y.keys_top) then key_front (take (4 * y.keys_top - k) (drop k body)) else None)

-- the bounds that the indexes give: their number, the top of the keys and the top of the bundle
abbrev pub layout_of : List ℕ → Layout
layout_of body = record { indexes = word_at body 1; keys_top = word_at body 2; top = word_at body 4 }

-- the key from byte k, if words 1 and 2 exist
abbrev pub key_at : List ℕ → ℕ → Option (List ℕ)
key_at body k = if nat_lt (length body) 12 then None else key (layout_of body) body k

-- the n values of f from i on
abbrev pub values : {X : Type 0} → (ℕ → X) → ℕ → ℕ → List X
values f i zero = []
values f i (suc n) = f i ∷ values f (suc i) n
