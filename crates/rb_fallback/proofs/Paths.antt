-- Lemmas on walks, paths and aims for a search that continues.
use Rattle.std.proofs.Common.{◌≡◌, ℕ, List, [], ◌∷◌, length, Bool, true, false, cond, codes, nat_lt, Option, Some, None, refl, ap, subst}
use Rattle.std.specs.List.{slice_split, list_all, join_with_byte}
use Rattle.std.specs.Str.{bytes_eq}
use Rattle.std.proofs.lemmas.List.Splits.{join_with_byte-slice_split}
use Rattle.rb_tree.specs.Resource.{Resource, alias}
use Rattle.rb_tree.specs.Path.{is_slash, segments}
use Rattle.rb_tree.specs.Walk.{Walked, links, walk, after, onward, enter}
use Rattle.rb_locales.specs.Locale.{name}
use Rattle.rb_fallback.specs.Alias.{Aim, aims, no_text, is_plain, aim, plain_aim, packaged, located, named, with_path}
use Rattle.rb_fallback.specs.AliasPaths.{are_filled}
use Rattle.rb_fallback.specs.Search.{is_long}
use Rattle.rb_fallback.specs.inner.LevelResult.{Whole}

-- ---- the segments walked and those left are all
after_whole : (s : List ℕ) (w : Walked) (ss : List (List ℕ)) → Whole w ss → Whole (after s w) (s ∷ ss)
after_whole s (links us walked rest) ss h = ap (λ l. s ∷ l) h
after_whole s w ss h = tt

onward_whole : (s : List ℕ) (ss : List (List ℕ)) (o : Option Resource) → ((u : Resource) → Whole (walk u ss) ss) → Whole (onward s (λ u. walk u ss) o) (s ∷ ss)
onward_whole s ss None h = tt
onward_whole s ss (Some u) h = after_whole s (walk u ss) ss (h u)

pub walk_whole : (t : Resource) (ss : List (List ℕ)) → Whole (walk t ss) ss
walk_whole (alias us) ss = refl
walk_whole t [] = tt
walk_whole t (s ∷ ss) = onward_whole s ss (enter s t) (λ u. walk_whole u ss)

-- ---- a path and its segments
-- the segments, joined, are the path
pub segments_joined : (p : List ℕ) → join_with_byte 47 (segments p) ≡ p
segments_joined [] = refl
segments_joined (b ∷ bs) = join_with_byte-slice_split 47 (b ∷ bs)

pub long_is : (p : List ℕ) → is_long (segments p) ≡ nat_lt 1024 (length p)
long_is p = ap (λ l. nat_lt 1024 (length l)) (segments_joined p)

-- ---- an aim and its text
pub aim_is_plain : (us valid n : List ℕ) (icu : Bool) (o : Option (List (List ℕ))) → aim us valid ≡ aims icu n o → list_all is_plain us ≡ true
aim_is_plain us valid n icu o e = by (list_all is_plain us) refl
  where
    by : (b : Bool) → list_all is_plain us ≡ b → list_all is_plain us ≡ true
    by true f = f
    by false f = cc (ap (λ c. cond c (plain_aim valid us) no_text) f)

-- the path of an aim has no empty segment
abbrev Filled : Aim → Type 0
Filled (aims icu n (Some ss)) = are_filled ss ≡ true
Filled x = Unit {0}

either_filled : (b : Bool) (x y : Aim) → Filled x → Filled y → Filled (cond b x y)
either_filled true x y f g = f
either_filled false x y f g = g

some_filled : (icu : Bool) (n : List ℕ) (ss : List (List ℕ)) (b : Bool) → are_filled ss ≡ b → Filled (cond b (aims icu n (Some ss)) no_text)
some_filled icu n ss true e = e
some_filled icu n ss false e = tt

with_path_filled : (icu : Bool) (n : List ℕ) (ss : List (List ℕ)) → Filled (with_path icu n ss)
with_path_filled icu n [] = tt
with_path_filled icu n ([] ∷ []) = tt
with_path_filled icu n ([] ∷ s ∷ ss) = some_filled icu n ([] ∷ s ∷ ss) (are_filled ([] ∷ s ∷ ss)) refl
with_path_filled icu n ((x ∷ xs) ∷ ss) = some_filled icu n ((x ∷ xs) ∷ ss) (are_filled ((x ∷ xs) ∷ ss)) refl

named_filled : (icu : Bool) (o : Option (List ℕ)) (ss : List (List ℕ)) → Filled (named icu o ss)
named_filled icu None ss = tt
named_filled icu (Some n) ss = with_path_filled icu n ss

located_filled : (icu : Bool) (ss : List (List ℕ)) → Filled (located icu ss)
located_filled icu [] = tt
located_filled icu ([] ∷ ss) = tt
located_filled icu ((u ∷ us) ∷ ss) = named_filled icu (name (u ∷ us)) ss

packaged_filled : (valid : List ℕ) (ss : List (List ℕ)) → Filled (packaged valid ss)
packaged_filled valid [] = tt
packaged_filled valid (s ∷ ss) =
    either_filled (bytes_eq s (codes "LOCALE")) _ _ (with_path_filled false valid ss)
    (either_filled (bytes_eq s (codes "ICUDATA")) _ _ (located_filled true ss) tt)

plain_filled : (valid us : List ℕ) → Filled (plain_aim valid us)
plain_filled valid [] = tt
plain_filled valid (u ∷ us) =
    either_filled (is_slash u) _ _ (packaged_filled valid (slice_split is_slash us)) (located_filled false (slice_split is_slash (u ∷ us)))

pub aim_is_filled : (us valid n : List ℕ) (icu : Bool) (ss : List (List ℕ)) → aim us valid ≡ aims icu n (Some ss) → are_filled ss ≡ true
aim_is_filled us valid n icu ss e = subst Filled e (either_filled (list_all is_plain us) _ _ (plain_filled valid us) tt)
