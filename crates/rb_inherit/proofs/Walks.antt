-- A walk along a path whose segments have a zero byte between them, step by step.
use Rattle.std.proofs.Common.{◌≡◌, ◌+◌, ◌-◌, ◌<◌, ◌≤◌, ◌++◌, ℕ, List, [], ◌∷◌, Bool, true, false, length, take, drop, nat_lt, Some, None, All, refl, ap, sym, ◌∙◌, subst, arith, append_assoc, append-nil}
use Rattle.std.specs.List.{slice_split, position_or_len}
use Rattle.std.proofs.lemmas.Bool.{ltb-true, ltb-false}
use Rattle.std.proofs.lemmas.List.Elements.{All-tail}
use Rattle.std.proofs.lemmas.List.Splits.{slice_split_first, slice_split_none}
use Rattle.std.proofs.lemmas.List.Sums.{fails_before_first}
use Rattle.std.proofs.lemmas.List.{drop_all, take_all, length-drop, drop-drop}
use Rattle.rb_tree.specs.Resource.{Resource, alias}
use Rattle.rb_tree.specs.Parts.{kind_of}
use Rattle.rb_tree.specs.declared.kind.Kind.TheVariants as kind
use Rattle.rb_tree.specs.Walk.{Walked, ends, links, gone, enter, after, onward, walk}
use Rattle.rb_tree.proofs.Walks as walks
use Rattle.rb_inherit.specs.inner.Paths.{AreFilled, IsLink, is_separator, steps_of}

-- ---- the first segment
steps_is : (p : List ℕ) → 0 < length p → steps_of p ≡ slice_split is_separator p
steps_is [] h = absurd (omega arith)
steps_is (b ∷ bs) h = refl

past_separator : (s p : List ℕ) → AreFilled (s ∷ slice_split is_separator p) → slice_split is_separator p ≡ steps_of p
past_separator s [] h = absurd (let w : 0 < 0 = h 1 [] (omega arith) in omega arith)
past_separator s (b ∷ bs) h = refl

steps_first : (p : List ℕ) → 0 < length p → AreFilled (steps_of p)
    → steps_of p ≡ take (position_or_len is_separator p) p ∷ steps_of (drop (position_or_len is_separator p + 1) p)
steps_first p h all = by (nat_lt (position_or_len is_separator p) (length p)) refl
  where
    by : (b : Bool) → nat_lt (position_or_len is_separator p) (length p) ≡ b
        → steps_of p ≡ take (position_or_len is_separator p) p ∷ steps_of (drop (position_or_len is_separator p + 1) p)
    by true e =
        let parts = slice_split_first is_separator p 0 (ltb-true _ _ e) in
        let whole : steps_of p ≡ take (position_or_len is_separator p) p ∷ slice_split is_separator (drop (position_or_len is_separator p + 1) p) =
        steps_is p h ∙ parts in
        whole ∙ ap (λ ss. take (position_or_len is_separator p) p ∷ ss)
        (past_separator (take (position_or_len is_separator p) p) (drop (position_or_len is_separator p + 1) p) (subst AreFilled whole all))
    by false e =
        let far : length p ≤ position_or_len is_separator p = ltb-false _ _ e in
        let none : All (λ x. is_separator x ≡ false) p = λ k d l. fails_before_first is_separator p k d (omega arith) in
        rw (take_all (position_or_len is_separator p) p far, drop_all (position_or_len is_separator p + 1) p (omega arith))
        (steps_is p h ∙ slice_split_none is_separator p none)

first_at : (p : List ℕ) (k : ℕ) → 0 < length p → AreFilled (steps_of p) → k ≡ position_or_len is_separator p
    → steps_of p ≡ take k p ∷ steps_of (drop (k + 1) p)
first_at p k h all e = subst (λ (j : ℕ). steps_of p ≡ take j p ∷ steps_of (drop (j + 1) p)) (sym e) (steps_first p h all)

-- ---- how far a walk came
abbrev pub afters : List (List ℕ) → Walked → Walked
afters [] w = w
afters (s ∷ ss) w = after s (afters ss w)

afters_more : (front : List (List ℕ)) (s : List ℕ) (w : Walked) → afters (front ++ s ∷ []) w ≡ afters front (after s w)
afters_more [] s w = refl
afters_more (f ∷ front) s w = ap (after f) (afters_more front s w)

afters_ends : (front : List (List ℕ)) (t : Resource) → afters front (ends t) ≡ ends t
afters_ends [] t = refl
afters_ends (f ∷ front) t = ap (after f) (afters_ends front t)

afters_gone : (front : List (List ℕ)) → afters front gone ≡ gone
afters_gone [] = refl
afters_gone (f ∷ front) = ap (after f) (afters_gone front)

afters_links : (front walked rest : List (List ℕ)) (us : List ℕ) → afters front (links us walked rest) ≡ links us (front ++ walked) rest
afters_links [] walked rest us = refl
afters_links (f ∷ front) walked rest us = ap (after f) (afters_links front walked rest us)

-- the walk from a tree along a path is at another tree, from which the rest leads on
pub record Reached (t : Resource) (path : List ℕ) (u : Resource) (at : ℕ) : Type 0 where
  pub front : List (List ℕ)
  pub whole : front ++ steps_of (drop at path) ≡ steps_of path
  pub walks : walk t (steps_of path) ≡ afters front (walk u (steps_of (drop at path)))
  pub filled : AreFilled (steps_of (drop at path))

pub reached_first : (t : Resource) (path : List ℕ) → AreFilled (steps_of path) → Reached t path t 0
reached_first t path h = record { front = []; whole = refl; walks = refl; filled = h }

pub reached_next : (t u v : Resource) (path : List ℕ) (at k next : ℕ) → Reached t path u at → (kind_of u ≡ kind.Alias → ⊥) → at < length path
    → k ≡ position_or_len is_separator (drop at path) → enter (take k (drop at path)) u ≡ Some v → next ≡ at + (k + 1)
    → Reached t path v next
reached_next t u v path at k next r a h e some is =
    let rest = drop at path in
    let long : 0 < length rest = omega (arith, length-drop at path) in
    let first : steps_of rest ≡ take k rest ∷ steps_of (drop (k + 1) rest) = first_at rest k long r.filled e in
    let further : drop (k + 1) rest ≡ drop next path = drop-drop (k + 1) at path ∙ ap (λ (j : ℕ). drop j path) (sym is) in
    let onto : steps_of rest ≡ take k rest ∷ steps_of (drop next path) = first ∙ ap (λ (p : List ℕ). take k rest ∷ steps_of p) further in
    let one : walk u (steps_of rest) ≡ after (take k rest) (walk v (steps_of (drop next path))) =
    ap (walk u) onto ∙ walks.walk_on u (take k rest) (steps_of (drop next path)) a
    ∙ ap (onward (take k rest) (λ x. walk x (steps_of (drop next path)))) some in
    record {
      front = r.front ++ take k rest ∷ [];
      whole = append_assoc r.front (take k rest ∷ []) (steps_of (drop next path)) ∙ ap (λ (l : List (List ℕ)). r.front ++ l) (sym onto) ∙ r.whole;
      walks = r.walks ∙ ap (afters r.front) one ∙ sym (afters_more r.front (take k rest) (walk v (steps_of (drop next path))));
      filled = All-tail (λ (s : List ℕ). 0 < length s) (take k rest) (steps_of (drop next path)) (subst AreFilled onto r.filled);
    }

pub reached_gone : (t u : Resource) (path : List ℕ) (at k : ℕ) → Reached t path u at → (kind_of u ≡ kind.Alias → ⊥) → at < length path
    → k ≡ position_or_len is_separator (drop at path) → enter (take k (drop at path)) u ≡ None → walk t (steps_of path) ≡ gone
reached_gone t u path at k r a h e none =
    let rest = drop at path in
    let long : 0 < length rest = omega (arith, length-drop at path) in
    let first : steps_of rest ≡ take k rest ∷ steps_of (drop (k + 1) rest) = first_at rest k long r.filled e in
    let one : walk u (steps_of rest) ≡ gone =
    ap (walk u) first ∙ walks.walk_on u (take k rest) (steps_of (drop (k + 1) rest)) a
    ∙ ap (onward (take k rest) (λ x. walk x (steps_of (drop (k + 1) rest)))) none in
    r.walks ∙ ap (afters r.front) one ∙ afters_gone r.front

walk_none : (u : Resource) → (kind_of u ≡ kind.Alias → ⊥) → walk u [] ≡ ends u
walk_none (alias us) k = absurd (k refl)
walk_none _ k = refl

pub reached_end : (t u : Resource) (path : List ℕ) (at : ℕ) → Reached t path u at → (kind_of u ≡ kind.Alias → ⊥) → length path ≤ at
    → walk t (steps_of path) ≡ ends u
reached_end t u path at r a h =
    let over : steps_of (drop at path) ≡ [] = ap steps_of (drop_all at path h) in
    r.walks ∙ ap (λ (ss : List (List ℕ)). afters r.front (walk u ss)) over ∙ ap (afters r.front) (walk_none u a) ∙ afters_ends r.front u

record Alias (u : Resource) : Type 0 where
  units : List ℕ
  is : u ≡ alias units

alias_of : (u : Resource) → kind_of u ≡ kind.Alias → Alias u
alias_of (alias us) k = record { units = us; is = refl }
alias_of _ k = absurd cc

left_over : (path : List ℕ) (at left : ℕ) → left ≡ length path - at → drop (length path - left) path ≡ drop at path
left_over path at left e = by (nat_lt at (length path)) refl
  where
    by : (b : Bool) → nat_lt at (length path) ≡ b → drop (length path - left) path ≡ drop at path
    by true h =
        let lt : at < length path = ltb-true _ _ h in
        ap (λ (j : ℕ). drop j path) (let same : length path - left ≡ at = omega arith in same)
    by false h =
        let le : length path ≤ at = ltb-false _ _ h in
        drop_all (length path - left) path (omega arith) ∙ sym (drop_all at path le)

pub reached_link : (t u : Resource) (path : List ℕ) (at left : ℕ) → Reached t path u at → kind_of u ≡ kind.Alias → left ≡ length path - at
    → IsLink u path left (walk t (steps_of path))
reached_link t u path at left r k e =
    let a = alias_of u k in
    let rest = steps_of (drop at path) in
    record {
      units = a.units;
      walked = r.front;
      rest = rest;
      is = r.walks ∙ ap (λ (x : Resource). afters r.front (walk x rest)) a.is ∙ afters_links r.front [] rest a.units
          ∙ ap (λ (l : List (List ℕ)). links a.units l rest) (append-nil r.front);
      tree = a.is;
      whole = r.whole;
      beyond = ap steps_of (sym (left_over path at left e));
    }
