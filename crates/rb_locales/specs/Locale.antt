-- Defines the canonical names of locales: a profile of the identifiers of UTS #35 (LDML) and of ICU's
-- `uloc_canonicalize`. Underscores separate the parts: first a language in lower case; second, if it has four letters,
-- a script in title case; all others in upper case. An `@` and all bytes after it aren't part of the name. The limit of
-- 64 bytes is a rule of this project.
use Rattle.std.specs.Prelude.{◌==◌, ◌&&◌, ◌||◌, ℕ, List, [], ◌∷◌, length, Bool, Option, Some, None, option_map, take}
use Rattle.std.specs.Prelude.{map, if◌then◌else◌, nat_le, codes}
use Rattle.std.specs.Option.{option_zip}
use Rattle.std.specs.List.{slice_split, list_all, join_with_byte, position_or_len}
use Rattle.std.specs.Char.{is_ascii_alphabetic, is_ascii_alphanumeric, to_ascii_lowercase, to_ascii_uppercase}

-- the text before the first `@`
abbrev pub is_at : ℕ → Bool
is_at b = b == 64

abbrev pub before_at : List ℕ → List ℕ
before_at bs = take (position_or_len is_at bs) bs

-- underscores separate the parts of a name; `-` counts as one
abbrev pub is_between : ℕ → Bool
is_between b = b == 95 || b == 45

-- the position of a part in its name
pub data Position : Type 0 where
  first : Position
  second : Position
  later : Position

abbrev pub next_position : Position → Position
next_position first = second
next_position second = later
next_position later = later

-- two to eight letters, in lower case
abbrev pub is_language : List ℕ → Bool
is_language p = (nat_le 2 (length p) && nat_le (length p) 8) && list_all is_ascii_alphabetic p

-- one to eight letters or digits, in upper case
abbrev pub is_subtag : List ℕ → Bool
is_subtag p = (nat_le 1 (length p) && nat_le (length p) 8) && list_all is_ascii_alphanumeric p

-- four letters, of which the first is in upper case
abbrev pub is_script : List ℕ → Bool
is_script p = (length p == 4) && list_all is_ascii_alphabetic p

abbrev pub title : List ℕ → List ℕ
title [] = []
title (b ∷ bs) = to_ascii_uppercase b ∷ map to_ascii_lowercase bs

abbrev pub subtag : List ℕ → Option (List ℕ)
subtag p = if is_subtag p then Some (map to_ascii_uppercase p) else None

-- a part in the case of its position, if it is allowed there
abbrev pub part_at : Position → List ℕ → Option (List ℕ)
part_at first p = if is_language p then Some (map to_ascii_lowercase p) else None
part_at second p = if is_script p then Some (title p) else subtag p
part_at later p = subtag p

-- a part before other parts
abbrev pub in_front : Option (List ℕ) → Option (List (List ℕ)) → Option (List (List ℕ))
in_front p ps = option_map (λ q. q.0 ∷ q.1) (option_zip p ps)

abbrev pub parts_from : Position → List (List ℕ) → Option (List (List ℕ))
parts_from position [] = Some []
parts_from position (p ∷ ps) = in_front (part_at position p) (parts_from (next_position position) ps)

-- the parts in their case, separated by underscores
abbrev pub written : Position → List ℕ → Option (List ℕ)
written position bs = option_map (join_with_byte 95) (parts_from position (slice_split is_between bs))

-- the empty name is `root`, and a name has at most 64 bytes
abbrev pub named : List ℕ → Option (List ℕ)
named [] = Some (codes "root")
named (b ∷ bs) = if nat_le (length (b ∷ bs)) 64 then written first (b ∷ bs) else None

-- the canonical name of a locale, if the text is one
abbrev pub name : List ℕ → Option (List ℕ)
name bs = named (before_at bs)

-- the name without its last part, for a name of at least two parts
abbrev pub is_underscore : ℕ → Bool
is_underscore b = b == 95

abbrev pub without_last : List (List ℕ) → List (List ℕ)
without_last [] = []
without_last (p ∷ []) = []
without_last (p ∷ q ∷ ps) = p ∷ without_last (q ∷ ps)

abbrev pub shorter_of : List (List ℕ) → Option (List ℕ)
shorter_of ps = if nat_le 2 (length ps) then Some (join_with_byte 95 (without_last ps)) else None

abbrev pub shorter : List ℕ → Option (List ℕ)
shorter n = shorter_of (slice_split is_underscore n)
