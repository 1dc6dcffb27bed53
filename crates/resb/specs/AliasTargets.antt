-- Defines which bundles the aliases of a tree name, as `ures_getByKey` of ICU reads an alias (`uresbund.cpp`), and how
-- they are listed in C, a rule of this project.
use Rattle.std.specs.Prelude.{◌≡◌, ◌≢◌, ◌⊎◌, ◌||◌, ◌==◌, ℕ, Bool, false, List, ◌++◌, Option, Some, None, if◌then◌else◌}
use Rattle.std.specs.Prelude.{String, codes, encode_utf8_all, length, map, option_map, string_bytes, string_cmp}
use Rattle.std.specs.Prelude.{unwrap_or}
use Rattle.std.specs.declared.alloc.Global.{Global}
use Rattle.std.specs.BTreeSet.{BTreeSet, contains_text, IsOrdered}
use Rattle.std.specs.Char.Utf16.{utf16_lossy_chars}
use Rattle.std.specs.List.{before_first, after_first}
use Rattle.std.specs.Str.{bytes_eq}
use Rattle.rb_format.specs.File.{tree_of}
use Rattle.rb_tree.specs.Path.{is_slash}
use Rattle.rb_tree.specs.Resource.{Resource, string, int, ints, binary, alias, array, table, Resources, no_trees}
use Rattle.rb_tree.specs.Resource.{Members, entry_and, no_entries, tree_and}
use Rattle.resb.specs.Copied.{CopiesBytes}
use Rattle.resb.specs.Icu.{IsIcuNumber}
use Rattle.resb.specs.Lists.{zero_ended}

-- after a first slash comes a package: its bundle is `/PACKAGE/NAME`, and `/LOCALE` names none
abbrev pub packaged : List ℕ → Option (List ℕ)
packaged us = if bytes_eq (before_first is_slash us) (codes "LOCALE") then None
    else Some (codes "/" ++ before_first is_slash us ++ codes "/" ++ before_first is_slash (after_first is_slash us))

-- the bundle that an alias names
abbrev pub bundle_named : List ℕ → Option (List ℕ)
bundle_named us = if length us == 0 then None
    else if length (before_first is_slash us) == 0 then packaged (after_first is_slash us)
    else Some (before_first is_slash us)

-- whether the text of an alias, as UTF-8, names a bundle
abbrev pub is_named : List ℕ → List ℕ → Bool
is_named name us =
    unwrap_or (option_map (λ bs. bytes_eq bs name) (bundle_named (encode_utf8_all (utf16_lossy_chars us)))) false

-- whether a resource is an alias that names a bundle
abbrev pub is_alias_to : List ℕ → Resource → Bool
is_alias_to name (alias us) = is_named name us
is_alias_to name t = false

-- whether an alias in a tree names a bundle
abbrev mutual
  pub names : List ℕ → Resource → Bool
  names name (string us) = false
  names name (int n) = false
  names name (ints zs) = false
  names name (binary bs) = false
  names name (alias us) = is_named name us
  names name (array ts) = trees_name name ts
  names name (table es) = entries_name name es

  pub trees_name : List ℕ → Resources → Bool
  trees_name name no_trees = false
  trees_name name (tree_and t ts) = names name t || trees_name name ts

  pub entries_name : List ℕ → Members → Bool
  entries_name name no_entries = false
  entries_name name (entry_and k t es) = names name t || entries_name name es

-- the set of the bundles that the aliases of a tree name
abbrev pub AreTargets : Resource → BTreeSet (String Global) → Type 0
AreTargets t set = IsOrdered string_cmp set × ((name : List ℕ) → contains_text set name ≡ names name t)

-- their names in order, each with a zero byte after it
abbrev pub IsTargetList : Resource → List ℕ → Type 0
IsTargetList t list =
    (set : BTreeSet (String Global)) × AreTargets t set × (list ≡ zero_ended (map string_bytes set.keys))

-- a copy of the list of a file that is good for libicu, or the number of its error
abbrev pub CopiesTargets : List ℕ → ℕ → ℕ → ℕ → List ℕ → Type 0
CopiesTargets bytes n count room copy =
    (IsIcuNumber bytes 0 × ((list : List ℕ) × IsTargetList (tree_of bytes) list × CopiesBytes list n count room copy))
    ⊎ ((n ≢ 0) × IsIcuNumber bytes n)
