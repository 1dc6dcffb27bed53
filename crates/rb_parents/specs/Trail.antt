-- Defines the trail of a name: the names whose bundles are searched, in the order of locale inheritance of UTS #35
-- (LDML), with `%%ALIAS` and `%%Parent` as ICU's `ures_open` reads them. This profile has no default locale and no rule
-- for scripts, and a trail of more than 32 names is an error. A lookup ends at a bundle without fallback
-- (`URES_ATT_NO_FALLBACK` of `uresdata.h`).
use Rattle.std.specs.Prelude.{ℕ, zero, suc, List, [], ◌∷◌, Bool, true, false, Option, Some, None, option_and_then}
use Rattle.std.specs.Prelude.{option_map, unwrap_or, codes, is_none}
use Rattle.std.specs.Prelude.{if◌then◌else◌}
use Rattle.std.specs.List.{filter}
use Rattle.std.specs.Str.{bytes_eq}
use Rattle.rb_tree.specs.Resource.{Resource, string}
use Rattle.rb_tree.specs.Parts.{child_of}
use Rattle.rb_tree.specs.SourceTree.{SourceTree}
use Rattle.rb_locales.specs.Locale.{name, shorter}

-- bundles by their names, and explicit parents by their children
abbrev pub Bundles : Type 0
Bundles = List ℕ → Option SourceTree

abbrev pub ParentsOf : Type 0
ParentsOf = List ℕ → Option (List ℕ)

-- the units of a string, or nothing for another tree
abbrev pub text_of : Resource → Option (List ℕ)
text_of (string us) = Some us
text_of t = None

-- the string that a tree has at a key
abbrev pub text_at : List ℕ → Resource → Option (List ℕ)
text_at key t = option_and_then text_of (child_of key t)

abbrev pub alias_key : List ℕ
alias_key = codes "%%ALIAS"

abbrev pub parent_key : List ℕ
parent_key = codes "%%Parent"

abbrev pub root : List ℕ
root = codes "root"

-- what follows a name on a trail
pub data Next : Type 0 where
  goes_to : List ℕ → Next
  end : Next
  bad : Next

abbrev pub named_next : Option (List ℕ) → Next
named_next None = bad
named_next (Some n) = goes_to n

-- the explicit parent, else the shorter name, else `root`; nothing follows `root`
abbrev pub or_else : Option (List ℕ) → List ℕ → List ℕ
or_else o d = unwrap_or o d

abbrev pub plain_next : ParentsOf → List ℕ → Next
plain_next parents n = by_root (bytes_eq n root)
  where
    by_root : Bool → Next
    by_root true = end
    by_root false = goes_to (or_else (parents n) (or_else (shorter n) root))

-- the name that a text gives, or else another step
abbrev pub named_or : Option (List ℕ) → Next → Next
named_or None other = other
named_or (Some us) other = named_next (name us)

-- after a bundle: its `%%ALIAS`; else the end, if it has no fallback; else its `%%Parent`; else the step without a
-- bundle
abbrev pub bundle_next : ParentsOf → List ℕ → Option SourceTree → Next
bundle_next parents n None = plain_next parents n
bundle_next parents n (Some b) =
    named_or (text_at alias_key b.tree)
    (if b.no_fallback then end else named_or (text_at parent_key b.tree) (plain_next parents n))

abbrev pub next : Bundles → ParentsOf → List ℕ → Next
next bundles parents n = bundle_next parents n (bundles n)

-- a stop has a bundle without a string at `%%ALIAS`
abbrev pub stops_at : Option SourceTree → Bool
stops_at None = false
stops_at (Some b) = is_none (text_at alias_key b.tree)

abbrev pub is_stop : Bundles → List ℕ → Bool
is_stop bundles n = stops_at (bundles n)

-- the tree of a bundle whose name is a stop
abbrev pub stop_tree : Option SourceTree → Option Resource
stop_tree o = if stops_at o then option_map (λ b. b.tree) o else None

-- the names of a trail, or its error
pub data Trail : Type 0 where
  names : List (List ℕ) → Trail
  chain : Trail
  bad_parent : Trail

abbrev pub begins : List ℕ → Trail → Trail
begins n (names ns) = names (n ∷ ns)
begins n chain = chain
begins n bad_parent = bad_parent

abbrev pub onward : (List ℕ → Trail) → Next → Trail
onward go (goes_to n) = go n
onward go end = names []
onward go bad = bad_parent

-- the trail of a name, of at most this many names
unfoldable pub trail_within : ℕ → Bundles → ParentsOf → List ℕ → Trail
trail_within zero bundles parents n = chain
trail_within (suc k) bundles parents n = begins n
    (onward (λ m. trail_within k bundles parents m) (next bundles parents n))

-- a trail has at most 32 names
abbrev pub trail : Bundles → ParentsOf → List ℕ → Trail
trail bundles parents n = trail_within 32 bundles parents n

-- its stops, in order
abbrev pub stops : Bundles → List (List ℕ) → List (List ℕ)
stops bundles ns = filter (is_stop bundles) ns

-- the indices from k on of the names that satisfy a condition
abbrev pub places : (List ℕ → Bool) → ℕ → List (List ℕ) → List ℕ
places test k [] = []
places test k (n ∷ ns) = if test n then k ∷ places test (suc k) ns else places test (suc k) ns
