-- The longest front of a path that leads somewhere.
use Rattle.std.proofs.Common.{◌≡◌, ◌+◌, ◌<◌, ◌≤◌, ◌⊎◌, ℕ, zero, suc, List, [], ◌∷◌, ◌++◌, Bool, true, false, nat_lt}
use Rattle.std.proofs.Common.{length, slice_index, take, Option, Some, None, inl, inr, arith, refl, ap, sym, ◌∙◌, subst}
use Rattle.std.proofs.lemmas.Bool.{ltb-true, ltb-false}
use Rattle.std.specs.List.{list_all, slice_split}
use Rattle.rb_tree.specs.Path.{is_filled, is_plain, is_slash, segments}
use Rattle.rb_tree.specs.Resource.{Resource, string, int, ints, binary, alias, array, table}
use Rattle.rb_tree.specs.Walk.{Walked, ends, links, gone, after, enter, onward, walk}
use Rattle.rb_locales.proofs.Canonical.{both_true}
use Rattle.rb_locales.proofs.Parts.{split_append}
use Rattle.rb_inspect.specs.inner.Reached.{IsFront, IsReach, is_somewhere, leads}

-- ---- a front of a path that leads somewhere does too
after_somewhere : (s : List ℕ) (w : Walked) → is_somewhere (after s w) ≡ is_somewhere w
after_somewhere s (ends t) = refl
after_somewhere s (links us walked rest) = refl
after_somewhere s gone = refl

here_somewhere : (t : Resource) → is_somewhere (walk t []) ≡ true
here_somewhere (string us) = refl
here_somewhere (int n) = refl
here_somewhere (ints zs) = refl
here_somewhere (binary bs) = refl
here_somewhere (alias us) = refl
here_somewhere (array ts) = refl
here_somewhere (table es) = refl

onward_somewhere : (s : List ℕ) (f g : Resource → Walked) (o : Option Resource)
    → ((u : Resource) → is_somewhere (f u) ≡ true → is_somewhere (g u) ≡ true)
    → is_somewhere (onward s f o) ≡ true → is_somewhere (onward s g o) ≡ true
onward_somewhere s f g None h e = e
onward_somewhere s f g (Some u) h e =
    after_somewhere s (g u) ∙ h u (sym (after_somewhere s (f u)) ∙ e)

front_somewhere : (t : Resource) (ss more : List (List ℕ)) → is_somewhere (walk t (ss ++ more)) ≡ true
    → is_somewhere (walk t ss) ≡ true
front_somewhere t [] more e = here_somewhere t
front_somewhere (string us) (s ∷ ss) more e = e
front_somewhere (int n) (s ∷ ss) more e = e
front_somewhere (ints zs) (s ∷ ss) more e = e
front_somewhere (binary bs) (s ∷ ss) more e = e
front_somewhere (alias us) (s ∷ ss) more e = refl
front_somewhere (array ts) (s ∷ ss) more e =
    onward_somewhere s (λ u. walk u (ss ++ more)) (λ u. walk u ss) (enter s (array ts))
    (λ u. front_somewhere u ss more) e
front_somewhere (table es) (s ∷ ss) more e =
    onward_somewhere s (λ u. walk u (ss ++ more)) (λ u. walk u ss) (enter s (table es))
    (λ u. front_somewhere u ss more) e

front_all : {A : Type 0} (f : A → Bool) (xs ys : List A) → list_all f (xs ++ ys) ≡ true → list_all f xs ≡ true
front_all f [] ys e = refl
front_all f (x ∷ xs) ys e =
    let both = both_true (f x) (list_all f (xs ++ ys)) e in
    rw (both.0, front_all f xs ys both.1) refl

front_leads : (t : Resource) (a ys : List ℕ) → leads t (a ++ 47 ∷ ys) ≡ true → leads t a ≡ true
front_leads t [] ys e = here_somewhere t
front_leads t (b ∷ bs) ys e =
    let a = b ∷ bs in
    let cut : segments (a ++ 47 ∷ ys) ≡ segments a ++ slice_split is_slash ys = split_append is_slash 47 a ys refl in
    let path = both_true _ (is_somewhere (walk t (segments (a ++ 47 ∷ ys)))) e in
    let parts = both_true (list_all is_plain (a ++ 47 ∷ ys)) (list_all is_filled (segments (a ++ 47 ∷ ys))) path.0 in
    let plain = front_all is_plain a (47 ∷ ys) parts.0 in
    let filled = front_all is_filled (segments a) (slice_split is_slash ys)
    (sym (ap (list_all is_filled) cut) ∙ parts.1) in
    let there = front_somewhere t (segments a) (slice_split is_slash ys)
    (sym (ap (λ ss. is_somewhere (walk t ss)) cut) ∙ path.1) in
    rw (plain, filled, there) refl

-- the first k bytes are the first i, the byte at i and further bytes
front_of : (i k : ℕ) (p : List ℕ) → i < k → k < length p
    → (ys : List ℕ) × (take k p ≡ take i p ++ slice_index p i ∷ ys)
front_of i k [] h l = absurd (omega arith)
front_of i zero (x ∷ xs) h l = absurd (omega arith)
front_of zero (suc k) (x ∷ xs) h l = (take k xs, refl)
front_of (suc i) (suc k) (x ∷ xs) h l =
    let more = front_of i k xs (omega arith) (omega arith) in
    (more.0, ap (λ ys. x ∷ ys) more.1)

-- ---- the longest front, byte by byte

-- the longest front of fewer bytes than so many
pub record IsReachWithin (t : Resource) (path : List ℕ) (i r : ℕ) : Type 0 where
  pub front : (r ≡ 0) ⊎ IsFront t path r
  pub longest : (k : ℕ) → r < k → k < i → IsFront t path k → ⊥

pub reach_none : (t : Resource) (path : List ℕ) → IsReachWithin t path 0 0
reach_none t path = record { front = inl refl; longest = λ k l h f. absurd (omega arith) }

pub reach_more : (t : Resource) (path : List ℕ) (i r : ℕ) → i < length path → slice_index path i ≡ 47
    → leads t (take i path) ≡ true
    → IsReachWithin t path (i + 1) i
reach_more t path i r h slash there = record {
  front = inr (record { within = h; slash = slash; leads = there });
  longest = λ k l b f. absurd (omega arith);
}

-- the byte after them ends no front
pub reach_same : (t : Resource) (path : List ℕ) (i r : ℕ) → IsReachWithin t path i r → (IsFront t path i → ⊥)
    → IsReachWithin t path (i + 1) r
reach_same t path i r far other = record {
  front = far.front;
  longest = λ k l b f. by k l b f (nat_lt k i) refl;
}
  where
    by : (k : ℕ) → r < k → k < i + 1 → IsFront t path k → (b : Bool) → nat_lt k i ≡ b → ⊥
    by k l b f true e = far.longest k l (ltb-true k i e) f
    by k l b f false e =
        let last : i ≤ k = ltb-false k i e in
        let same : k ≡ i = omega arith in
        other (subst (IsFront t path) same f)

-- so no longer front leads anywhere than one that leads nowhere
pub reach_ends : (t : Resource) (path : List ℕ) (i r : ℕ) → IsReachWithin t path i r → slice_index path i ≡ 47
    → leads t (take i path) ≡ false → IsReach t path r
reach_ends t path i r far slash none = record {
  front = far.front;
  longest = λ k l f. by k l f (nat_lt k i) refl (nat_lt i k) refl;
}
  where
    longer : (k : ℕ) → IsFront t path k → i < k → ⊥
    longer k f l =
        let more = front_of i k path l f.within in
        let joined : take k path ≡ take i path ++ 47 ∷ more.0 =
        more.1 ∙ ap (λ b. take i path ++ b ∷ more.0) slash in
        let never : true ≡ false =
        sym (front_leads t (take i path) more.0 (sym (ap (leads t) joined) ∙ f.leads)) ∙ none in
        cc

    by : (k : ℕ) → r < k → IsFront t path k → (b : Bool) → nat_lt k i ≡ b → (c : Bool) → nat_lt i k ≡ c → ⊥
    by k l f true e c g = far.longest k l (ltb-true k i e) f
    by k l f false e true g = longer k f (ltb-true i k g)
    by k l f false e false g =
        let low : i ≤ k = ltb-false k i e in
        let high : k ≤ i = ltb-false i k g in
        let same : k ≡ i = omega arith in
        let never : true ≡ false = sym (subst (λ j. leads t (take j path) ≡ true) same f.leads) ∙ none in
        cc

pub reach_whole : (t : Resource) (path : List ℕ) (i r : ℕ) → length path ≤ i → IsReachWithin t path i r
    → IsReach t path r
reach_whole t path i r h far = record {
  front = far.front;
  longest = λ k l f. let b : k < length path = f.within in far.longest k l (omega arith) f;
}

pub no_slash : (t : Resource) (path : List ℕ) (i : ℕ) → (slice_index path i ≡ 47 → ⊥) → IsFront t path i → ⊥
no_slash t path i h f = h f.slash

pub ruleset reach_steps = (reach_none, reach_more, reach_same, reach_whole, no_slash)
