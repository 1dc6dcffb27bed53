-- The edits of a release, one after another.
use Rattle.std.proofs.Common.{◌≡◌, ◌<◌, ◌≤◌, ◌+◌, ℕ, List, [], ◌∷◌, ◌++◌, Some, None, length, take, get_or, refl, sym, ◌∙◌, ap, subst, arith}
use Rattle.std.specs.Prelude.{map}
use Rattle.std.proofs.Math.ListN.{set, length-set}
use Rattle.std.proofs.Math.Seq.{map-set_same}
use Rattle.std.proofs.lemmas.List.{get_or-map, get_or-set_same, get_or-set_other, length-map, take_all, take_more}
use borrow.Author.Count.{below_more}
use Rattle.std.proofs.lemmas.Option.{slice_get-get_or}
use Rattle.rb_packages.specs.Release.{Drafted}
use Rattle.resb.specs.Releases.{Change, HaveNoBundles, Takes, IsFirstRefused, change_number, change_of, locales_of, with_change}
use Rattle.resb.specs.declared.edit.Edit.{Edit}

-- a draft takes one change more
takes_more : (first mid : Drafted) (cs : List Change) (c : Change) → Takes first cs mid → change_number mid c.0 c.1 ≡ 0
    → Takes first (cs ++ c ∷ []) (with_change c.0 c.1 mid)
takes_more first mid [] c e n =
    (subst (λ (d : Drafted). change_number d c.0 c.1 ≡ 0) e n, ap (λ (d : Drafted). with_change c.0 c.1 d) e)
takes_more first mid (x ∷ cs) c e n = (e.0, takes_more (with_change x.0 x.1 first) mid cs c e.1 n)

-- the first edits were added to a draft
pub record SoFar (first : Drafted) (before : List Edit) (i : ℕ) (draft : Drafted) (edits : List Edit) : Type 0 where
  pub app : draft.app ≡ first.app
  pub count : length edits ≡ length before
  pub takes : Takes first (take i (map change_of before)) draft
  pub rest : (k : ℕ) → i ≤ k → (d : Edit) → get_or edits k d ≡ get_or before k d
  pub none : (k : ℕ) → k < i → (d : Edit) → (get_or edits k d).bundle.file ≡ None
  pub locales : locales_of edits ≡ locales_of before

pub begin : (first : Drafted) (before : List Edit) → SoFar first before 0 first before
begin first before = record {
  app = refl;
  count = refl;
  takes = refl;
  rest = λ k later d. refl;
  none = λ k early d. absurd (omega arith);
  locales = refl;
}

-- the change of the next edit
next_change : (first : Drafted) (before : List Edit) (i : ℕ) (draft : Drafted) (edits : List Edit) (d old : Edit) → SoFar first before i draft edits
    → i < length edits → old ≡ get_or edits i d → get_or (map change_of before) i (change_of old) ≡ change_of old
next_change first before i draft edits d old so h is =
    let inside : i < length before = rw (← so.count) h in
    get_or-map change_of before i d (change_of old) inside ∙ ap change_of (sym (so.rest i (omega arith) d) ∙ sym is)

changes_more : (first : Drafted) (before : List Edit) (i : ℕ) (draft : Drafted) (edits : List Edit) (d old : Edit) → SoFar first before i draft edits
    → i < length edits → old ≡ get_or edits i d
    → take (i + 1) (map change_of before) ≡ take i (map change_of before) ++ change_of old ∷ []
changes_more first before i draft edits d old so h is =
    let cs = map change_of before in
    let inside : i < length cs = rw (length-map, ← so.count) h in
    take_more cs i (change_of old) inside
    ∙ ap (λ (c : Change). take i cs ++ c ∷ []) (next_change first before i draft edits d old so h is)

pub same_locales : (first : Drafted) (before : List Edit) (i : ℕ) (draft : Drafted) (edits : List Edit) (d old new : Edit)
    → SoFar first before i draft edits → i < length edits → old ≡ get_or edits i d → new.locale.now ≡ old.locale.now
    → locales_of (set edits i new) ≡ locales_of before
same_locales first before i draft edits d old new so h is locale =
    map-set_same (λ (e : Edit). e.locale.now) edits i new d (locale ∙ ap (λ (e : Edit). e.locale.now) is) ∙ so.locales

pub one_more : (first : Drafted) (before : List Edit) (i : ℕ) (draft next : Drafted) (edits : List Edit) (d old new : Edit)
    → SoFar first before i draft edits → i < length edits → old ≡ get_or edits i d
    → change_number draft (change_of old).0 (change_of old).1 ≡ 0 → next ≡ with_change (change_of old).0 (change_of old).1 draft
    → next.app ≡ draft.app → new.bundle.file ≡ None → new.locale.now ≡ old.locale.now → SoFar first before (i + 1) next (set edits i new)
one_more first before i draft next edits d old new so h is taken made app none locale = record {
  app = app ∙ so.app;
  count = length-set edits i new ∙ so.count;
  takes = subst (λ (cs : List Change). Takes first cs next) (sym (changes_more first before i draft edits d old so h is))
      (subst (λ (d : Drafted). Takes first (take i (map change_of before) ++ change_of old ∷ []) d) (sym made)
      (takes_more first draft (take i (map change_of before)) (change_of old) so.takes taken));
  rest = λ k later x. get_or-set_other edits i k new x (λ e. absurd (omega arith)) ∙ so.rest k (omega arith) x;
  none = below_more (λ (k : ℕ). (x : Edit) → (get_or (set edits i new) k x).bundle.file ≡ None) i
      (λ k low x. subst (λ (e : Edit). e.bundle.file ≡ None) (sym (get_or-set_other edits i k new x (λ e. absurd (omega arith)))) (so.none k low x))
      (λ x. subst (λ (e : Edit). e.bundle.file ≡ None) (sym (get_or-set_same edits i new x h)) none);
  locales = same_locales first before i draft edits d old new so h is locale;
}

-- the next edit is refused
pub refuses : (first : Drafted) (before : List Edit) (i : ℕ) (draft : Drafted) (edits : List Edit) (d old : Edit) (n : ℕ) → SoFar first before i draft edits
    → i < length edits → old ≡ get_or edits i d → n ≡ change_number draft (change_of old).0 (change_of old).1
    → IsFirstRefused first (map change_of before) n i
refuses first before i draft edits d old n so h is number = (
  change_of old,
  slice_get-get_or (map change_of before) i (change_of old) (rw (length-map, ← so.count) h)
      ∙ ap (λ (c : Change). Some c) (next_change first before i draft edits d old so h is),
  draft,
  so.takes,
  number,
)

-- all edits were added
pub takes_all : (first : Drafted) (before : List Edit) (i : ℕ) (draft : Drafted) (edits : List Edit) → SoFar first before i draft edits
    → i ≡ length edits → Takes first (map change_of before) draft
takes_all first before i draft edits so all =
    subst (λ (cs : List Change). Takes first cs draft) (take_all i (map change_of before) (rw (length-map, ← so.count, ← all) (omega arith))) so.takes

-- and none has a bundle
pub no_bundles : (first : Drafted) (before : List Edit) (i : ℕ) (draft : Drafted) (edits : List Edit) → SoFar first before i draft edits
    → i ≡ length edits → HaveNoBundles edits
no_bundles first before i draft edits so all k d h = so.none k (omega arith) d
