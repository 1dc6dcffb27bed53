-- Proves that a pass over pairs of an alias's units shows where the alias leads.
use Rattle.std.proofs.Common.{◌≡◌, ◌≤◌, ◌<◌, ◌+◌, ◌-◌, ℕ, List, [], ◌∷◌, length, drop, Bool, true, false, not, codes, slice_index, slice_range}
use Rattle.std.proofs.Common.{get_or, Some, refl, ap, sym, ◌∙◌, subst, arith, length-drop}
use Rattle.std.specs.Prelude.{nat_le}
use Rattle.std.specs.List.{list_all, slice_split}
use Rattle.std.specs.Str.{bytes_eq}
use Rattle.std.proofs.lemmas.Bool.{leb-true, leb-false}
use Rattle.std.proofs.lemmas.List.{get_or-drop}
use Rattle.std.proofs.lemmas.List.Sums.{AllPass-from_list_all}
use Rattle.std.proofs.lemmas.Slice.Eq.{bytes_eq-Decides}
use Rattle.rb_tree.specs.Resource.{Resource}
use Rattle.rb_tree.specs.Parts.{HasUnits, kind_of, len_of, units_of}
use Rattle.rb_tree.specs.Path.{is_filled, is_path, is_slash, segments}
use Rattle.rb_tree.proofs.Paths.{both_is, both_true}
use Rattle.rb_locales.proofs.Narrowed.{units_len, slice_at}
use Rattle.rb_fallback.specs.Alias.{aims, is_plain, aim}
use Rattle.rb_fallback.specs.AliasPaths.{are_filled, segments_from}
use Rattle.rb_fallback.specs.inner.PathScan.{AreFollowed, may_follow}
use Rattle.rb_fallback.proofs.PathScans.{path_followed}
use Rattle.rb_fallback.proofs.Stretches.{plain_whole}
use Rattle.rb_fallback.proofs.Texts.{aim_slash, packaged_is, path_filled, slash_here, word_yes}

pub not_true : (b : Bool) → not b ≡ true → b ≡ false
not_true true e = absurd cc
not_true false e = refl

some_filled : (path : List ℕ) → 0 < length path → list_all is_filled (segments path) ≡ true → are_filled (slice_split is_slash path) ≡ true
some_filled [] h e = absurd (omega arith)
some_filled (b ∷ bs) h e = e

-- a text of this length, that begins with `/LOCALE/`, and whose units from the second slash on follow one another
module _ (t : Resource) (units : HasUnits (kind_of t)) (len : ℕ) (same : len ≡ len_of t) (more : 8 < len)
    (spelled : bytes_eq (slice_range (units_of t) 0 8) (codes "/LOCALE/") ≡ true) (followed : AreFollowed (units_of t) 7 (len - 1))
    (last : is_slash (slice_index (units_of t) (len - 1)) ≡ false) where
  abbrev us : List ℕ
  us = units_of t

  all : length us ≡ len
  all = units_len t units ∙ sym same

  front : (i : ℕ) → i < 8 → slice_index us i ≡ get_or (codes "/LOCALE/") i 0
  front i h =
      let place : i ≡ 0 + i = omega arith in
      ap (slice_index us) place
      ∙ sym (slice_at 0 8 us i (omega arith))
      ∙ ap (λ (s : List ℕ). get_or s i 0) ((bytes_eq-Decides (slice_range us 0 8) (codes "/LOCALE/")).0 spelled)

  front_plain : (i : ℕ) → i < 8 → is_plain (slice_index us i) ≡ true
  front_plain i h = ap is_plain (front i h) ∙ AllPass-from_list_all is_plain (codes "/LOCALE/") refl i 0 h

  plain_at : (i : ℕ) → i < len → (b : Bool) → nat_le 8 i ≡ b → is_plain (slice_index us i) ≡ true
  plain_at i h false e = front_plain i (omega (arith, leb-false _ _ e))
  plain_at i h true e =
      let low : 8 ≤ i = leb-true _ _ e in
      let next : i - 1 + 1 ≡ i = omega arith in
      subst (λ (k : ℕ). is_plain (slice_index us k) ≡ true) next
      (both_true _ _ (followed (i - 1) (omega arith) (omega arith))).0

  plain : list_all is_plain us ≡ true
  plain = plain_whole us len (omega (arith, all)) (λ i z h. plain_at i h (nat_le 8 i) refl)

  slash_at : slice_index us 7 ≡ 47
  slash_at = front 7 (omega arith)

  word_at : (k : ℕ) → k < 6 → slice_index us (1 + k) ≡ get_or (codes "LOCALE") k 0
  word_at k h = front (1 + k) (omega arith) ∙ sym (slice_at 1 7 (codes "/LOCALE/") k (omega arith))

  none_before : (k : ℕ) → 1 ≤ k → k < 7 → is_slash (slice_index us k) ≡ false
  none_before k l h =
      let place : k ≡ 1 + (k - 1) = omega arith in
      ap is_slash (ap (slice_index us) place ∙ word_at (k - 1) (omega arith))
      ∙ not_true _ (AllPass-from_list_all (λ u. not (is_slash u)) (codes "LOCALE") refl (k - 1) 0 (omega arith))

  -- the path
  abbrev path : List ℕ
  path = drop 8 us

  path_long : length path ≡ len - 8
  path_long = length-drop 8 us ∙ ap (λ (n : ℕ). n - 8) all

  path_at : (i : ℕ) → slice_index path i ≡ slice_index us (8 + i)
  path_at i = get_or-drop 8 us i 0

  pairs : AreFollowed path 0 (length path - 1)
  pairs i z h =
      let one : 8 + (i + 1) ≡ 8 + i + 1 = omega arith in
      ap (λ (u : ℕ). may_follow u (slice_index path (i + 1))) (path_at i)
      ∙ ap (λ (u : ℕ). may_follow (slice_index us (8 + i)) u) (path_at (i + 1) ∙ ap (slice_index us) one)
      ∙ followed (8 + i) (omega arith) (omega (arith, path_long))

  first : may_follow 47 (slice_index path 0) ≡ true
  first =
      ap (λ (u : ℕ). may_follow u (slice_index path 0)) (sym slash_at)
      ∙ ap (λ (u : ℕ). may_follow (slice_index us 7) u) (path_at 0)
      ∙ followed 7 (omega arith) (omega arith)

  end : is_slash (slice_index path (length path - 1)) ≡ false
  end =
      let place : 8 + (length path - 1) ≡ len - 1 = omega (arith, path_long) in
      ap is_slash (path_at (length path - 1) ∙ ap (slice_index us) place) ∙ last

  is : is_path path ≡ true
  is =
      sym (path_followed path true (omega (arith, path_long)) (λ e. pairs, λ p. refl))
      ∙ both_is (may_follow 47 (slice_index path 0)) (not (is_slash (slice_index path (length path - 1)))) first (ap not end)

  filled : are_filled (segments_from us 8) ≡ true
  filled = some_filled path (omega (arith, path_long)) (both_true _ _ is).1

  -- leads from the valid locale to the path behind
  pub locale_path : (valid : List ℕ) → aim (units_of t) valid ≡ aims false valid (Some (segments_from (units_of t) 8))
  locale_path valid =
      aim_slash t valid units plain (omega arith) (front 0 (omega arith))
      ∙ packaged_is t valid 7 true (bytes_eq (slice_range us 1 7) (codes "ICUDATA")) units
      (slash_here t 1 7 units (omega arith) (omega arith) none_before slash_at) (omega arith)
      (word_yes t 1 7 (codes "LOCALE") units (omega arith) refl (λ k h. word_at k h)) refl
      ∙ path_filled false valid us 7 true (omega (arith, all)) filled
