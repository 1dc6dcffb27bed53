-- The target of an alias: its path, and the remainder of the path that led to it.
use Rattle.std.proofs.Common.{◌≡◌, ◌≢◌, ◌+◌, ◌<◌, ◌||◌, ℕ, zero, suc, List, [], ◌∷◌, ◌++◌, length, drop, Bool, true, nat_lt, Some, None, All}
use Rattle.std.proofs.Common.{refl, ap, sym, ◌∙◌, arith, subst, Result, Ok, append-nil, slice_index_or}
use Rattle.std.proofs.lemmas.Bool.{ltb-true, leb-true, lt-ltb}
use Rattle.std.proofs.lemmas.List.{drop_at}
use Rattle.std.proofs.lemmas.List.Elements.{All-append, All-drop}
use Rattle.std.proofs.lemmas.List.Sums.{AllPass-from_list_all}
use Rattle.std.specs.List.{slice_split, list_all}
use Rattle.rb_tree.specs.Keys.{IsPlain}
use Rattle.rb_tree.specs.Path.{is_slash, segments, IsPath}
use Rattle.rb_tree.specs.Walk.{behind}
use Rattle.rb_locales.proofs.Canonical.{both_true}
use Rattle.rb_locales.proofs.Parts.{split_append}
use Rattle.rb_fallback.specs.Alias.{aims, is_plain, aim, target, target_of}
use Rattle.rb_fallback.specs.AliasPaths.{are_filled, joined_path, segments_from}
use Rattle.rb_fallback.specs.Search.{Step, follow, goes}
use Rattle.rb_fallback.specs.inner.Steps.{GoesOn, GoesLong}
use Rattle.rb_fallback.specs.declared.search.SearchState.{SearchState}
use Rattle.rb_fallback.specs.declared.fault.LookError.{LookError}
use Rattle.rb_fallback.proofs.Paths.{aim_is_filled, aim_is_plain, long_is}

pub behind_more : (cut : ℕ) → cut ≢ 0 → behind cut ≡ cut + 1
behind_more zero h = absurd (h refl)
behind_more (suc n) h = omega arith

pub filled_some : (us : List ℕ) → are_filled (slice_split is_slash us) ≡ true → 0 < length us
filled_some [] e = cc
filled_some (x ∷ xs) e = omega arith

-- ---- two paths in a row
pub segments-joined_path : (a b : List ℕ) → 0 < length a → segments (joined_path a b) ≡ segments a ++ segments b
segments-joined_path [] b h = absurd (omega arith)
segments-joined_path (x ∷ a) [] h = sym (append-nil (segments (x ∷ a)))
segments-joined_path (x ∷ a) (y ∷ b) h = split_append is_slash 47 (x ∷ a) (y ∷ b) refl

plain_all : (us : List ℕ) → list_all is_plain us ≡ true → All IsPlain us
plain_all us p k d h =
    let b = both_true _ _ (AllPass-from_list_all is_plain us p k d h) in
    (leb-true 32 (slice_index_or us k d) b.0, leb-true (slice_index_or us k d) 126 b.1)

pub filled_all : (ss : List (List ℕ)) → are_filled ss ≡ true → All (λ s. 0 < length s) ss
filled_all ss p k d h = ltb-true _ _ (AllPass-from_list_all (λ s. nat_lt 0 (length s)) ss p k d h)

plain-joined_path : (a b : List ℕ) → All IsPlain a → All IsPlain b → All IsPlain (joined_path a b)
plain-joined_path a [] h k = h
plain-joined_path a (y ∷ b) h k = All-append IsPlain a (47 ∷ y ∷ b) h (All-append IsPlain (47 ∷ []) (y ∷ b) slash k)
  where
    slash : All IsPlain (47 ∷ [])
    slash zero d l = (omega arith, omega arith)
    slash (suc i) d l = absurd (omega arith)

some_segments : (a : List ℕ) → 0 < length a → segments a ≡ slice_split is_slash a
some_segments [] h = absurd (omega arith)
some_segments (x ∷ a) h = refl

-- ---- the step of an alias, in ICUDATA or not, with its name and the path from there
pub record LeadsTo (r : Result Step LookError) (in_icu : Bool) (n q : List ℕ) : Type 0 where
  pub onto : r ≡ Ok (goes in_icu n (segments q))
  pub path : IsPath q

module _ (us valid n : List ℕ) (icu in_icu : Bool) (p : List ℕ) (walked rest : List (List ℕ)) (path : IsPath p) (whole : walked ++ rest ≡ segments p) where
  -- if the text has a path, the remainder of the other path follows it
  pub path_leads : (at cut : ℕ) (left : List ℕ) → aim us valid ≡ aims icu n (Some (segments_from us at)) → left ≡ drop (behind cut) p
      → rest ≡ segments (drop (behind cut) p) → LeadsTo (follow rest (target us in_icu valid walked)) (icu || in_icu) n (joined_path (drop at us) left)
  path_leads at cut left aimed is rest_is =
      let a = drop at us in
      let b = drop (behind cut) p in
      let filled = aim_is_filled us valid n icu (segments_from us at) aimed in
      let some : 0 < length a = filled_some a filled in
      let joined : segments (joined_path a b) ≡ segments_from us at ++ rest =
      segments-joined_path a b some ∙ ap (λ ss. ss ++ segments b) (some_segments a some) ∙ ap (λ ss. segments_from us at ++ ss) (sym rest_is) in
      let rest_filled : All (λ s. 0 < length s) rest =
      subst (All (λ s. 0 < length s)) (ap (drop (length walked)) (sym whole) ∙ drop_at walked rest (length walked) refl)
      (All-drop (λ s. 0 < length s) (length walked) (segments p) path.filled) in
      let plain : All IsPlain us = plain_all us (aim_is_plain us valid n icu (Some (segments_from us at)) aimed) in
      subst (λ (l : List ℕ). LeadsTo (follow rest (target us in_icu valid walked)) (icu || in_icu) n (joined_path a l)) (sym is)
      (record {
        onto = ap (λ x. follow rest (target_of x in_icu walked)) aimed ∙ ap (λ ss. Ok (goes (icu || in_icu) n ss)) (sym joined);
        path = record {
          plain = plain-joined_path a b (All-drop IsPlain at us plain) (All-drop IsPlain (behind cut) p path.plain);
          filled =
              subst (All (λ s. 0 < length s)) (sym joined)
              (All-append (λ s. 0 < length s) (segments_from us at) rest (filled_all (segments_from us at) filled) rest_filled);
        };
      })

  -- if it has none, the path stays
  pub same_leads : aim us valid ≡ aims icu n None → LeadsTo (follow rest (target us in_icu valid walked)) (icu || in_icu) n p
  same_leads aimed = record {
    onto = ap (λ x. follow rest (target_of x in_icu walked)) aimed ∙ ap (λ ss. Ok (goes (icu || in_icu) n ss)) whole;
    path = path;
  }

-- the state of that step, if the path is short enough
pub follows_on : {r : Result Step LookError} {in_icu : Bool} {n q : List ℕ} (p : SearchState) → LeadsTo r in_icu n q
    → p.icudata ≡ in_icu → p.name ≡ n → p.path ≡ q → GoesOn p r
follows_on {in_icu = in_icu} {n = n} {q = q} p leads icu name path = record {
  onto =
      leads.onto
      ∙ ap (λ (i : Bool). Ok (goes i n (segments q))) (sym icu)
      ∙ ap (λ (m : List ℕ). Ok (goes p.icudata m (segments q))) (sym name)
      ∙ ap (λ (l : List ℕ). Ok (goes p.icudata p.name (segments l))) (sym path);
  path = subst IsPath (sym path) leads.path;
}

-- or it is too long
pub follows_long : {r : Result Step LookError} {in_icu : Bool} {n q : List ℕ} → LeadsTo r in_icu n q → 1024 < length q → GoesLong r
follows_long {in_icu = in_icu} {n = n} {q = q} leads long = record {
  in_icu = in_icu;
  name = n;
  rest = segments q;
  onto = leads.onto;
  long = long_is q ∙ lt-ltb 1024 (length q) long;
}
