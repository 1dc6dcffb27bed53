-- Defines what the text of an alias means, after the aliases of ICU's bundle syntax (`genrb`): a package, a locale and
-- a path between slashes, with `/LOCALE` and `/ICUDATA` as ICU's `uresdata.h` reads them.
use Rattle.std.specs.Prelude.{◌&&◌, ◌||◌, ℕ, List, [], ◌∷◌, length, Bool, true, false, Option, Some, None, codes, cond}
use Rattle.std.specs.Prelude.{nat_le, nat_lt}
use Rattle.std.specs.List.{slice_split, list_all}
use Rattle.std.specs.Str.{bytes_eq}
use Rattle.rb_tree.specs.Path.{is_slash}
use Rattle.rb_locales.specs.Locale.{name}

-- a unit from a space to a tilde
abbrev pub is_plain : ℕ → Bool
is_plain u = nat_le 32 u && nat_le u 126

-- what a text aims at: whether ICUDATA is named, the name, and the path, None for the path walked
pub data Aim : Type 0 where
  aims : Bool → List ℕ → Option (List (List ℕ)) → Aim
  no_text : Aim
  no_package : Aim

-- a missing or empty path is None, and no segment of another is empty
abbrev pub with_path : Bool → List ℕ → List (List ℕ) → Aim
with_path icu n [] = aims icu n None
with_path icu n ([] ∷ []) = aims icu n None
with_path icu n (s ∷ ss) = cond (list_all (λ p. nat_lt 0 (length p)) (s ∷ ss)) (aims icu n (Some (s ∷ ss))) no_text

abbrev pub named : Bool → Option (List ℕ) → List (List ℕ) → Aim
named icu None ss = no_text
named icu (Some n) ss = with_path icu n ss

-- a locale, which isn't empty, and a path
abbrev pub located : Bool → List (List ℕ) → Aim
located icu [] = no_text
located icu ([] ∷ ss) = no_text
located icu ((u ∷ us) ∷ ss) = named icu (name (u ∷ us)) ss

-- after a slash comes a package
abbrev pub packaged : List ℕ → List (List ℕ) → Aim
packaged valid [] = no_package
packaged valid (s ∷ ss) = cond (bytes_eq s (codes "LOCALE")) (with_path false valid ss)
    (cond (bytes_eq s (codes "ICUDATA")) (located true ss) no_package)

abbrev pub plain_aim : List ℕ → List ℕ → Aim
plain_aim valid [] = no_text
plain_aim valid (u ∷ us) = cond (is_slash u) (packaged valid (slice_split is_slash us))
    (located false (slice_split is_slash (u ∷ us)))

abbrev pub aim : List ℕ → List ℕ → Aim
aim us valid = cond (list_all is_plain us) (plain_aim valid us) no_text

-- the package, the name and the segments, from the alias's own package and the path walked to it
pub data Target : Type 0 where
  leads : Bool → List ℕ → List (List ℕ) → Target
  bad_text : Target
  bad_package : Target

abbrev pub or_walked : Option (List (List ℕ)) → List (List ℕ) → List (List ℕ)
or_walked None walked = walked
or_walked (Some ss) walked = ss

abbrev pub target_of : Aim → Bool → List (List ℕ) → Target
target_of (aims icu n ss) in_icu walked = leads (icu || in_icu) n (or_walked ss walked)
target_of no_text in_icu walked = bad_text
target_of no_package in_icu walked = bad_package

abbrev pub target : List ℕ → Bool → List ℕ → List (List ℕ) → Target
target us in_icu valid walked = target_of (aim us valid) in_icu walked
