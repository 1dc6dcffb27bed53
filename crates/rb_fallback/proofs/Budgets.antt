-- The steps of a search, level by level, and what is left of them.
use Rattle.std.proofs.Common.{◌≡◌, IfSome, ◌+◌, ◌*◌, ◌-◌, ◌<◌, ◌≤◌, ◌==◌, ℕ, zero, suc, List, [], ◌∷◌, length, Bool, true, false, cond, nat_lt, Option, Some, None, Result, Ok, Err}
use Rattle.std.proofs.Common.{refl, ap, subst, ◌∙◌, arith}
use Rattle.std.proofs.lemmas.Bool.{ltb-true, ltb-false, lt-ltb, le-ltb}
use Rattle.std.specs.List.{count_by}
use Rattle.std.proofs.lemmas.List.Splits.{length-slice_split}
use Rattle.rb_tree.specs.Path.{is_slash, segments}
use Rattle.rb_parents.specs.Trail.{Trail}
use Rattle.rb_fallback.specs.Search.{Hit, Setting, Step, bundles_of, is_long, level, step}
use Rattle.rb_fallback.specs.Steps.{go_steps, level_steps, search_steps, searched, trail_length, within}
use Rattle.rb_fallback.specs.inner.Budget.{spend}
use Rattle.rb_fallback.specs.declared.fault.BoundedError.{BoundedError}
use Rattle.rb_fallback.specs.declared.fault.BoundedError.TheVariants as bounded
use Rattle.rb_fallback.specs.declared.fault.LookError.{LookError}

-- ---- the steps of one level more
abbrev pub steps_at : Setting → Bool → List ℕ → List (List ℕ) → ℕ
steps_at s in_icu n ss = level_steps (bundles_of s.own s.icu in_icu) s.parents n ss

-- the step of a level
abbrev pub step_at : Setting → Bool → List ℕ → List (List ℕ) → Result Step LookError
step_at s in_icu n ss = step in_icu s.valid (level (bundles_of s.own s.icu in_icu) s.parents n ss)

pub steps_on : (k j : ℕ) (s : Setting) (in_icu : Bool) (n : List ℕ) (ss : List (List ℕ)) → k ≡ suc j → is_long ss ≡ false
    → search_steps k s in_icu n ss ≡ steps_at s in_icu n ss + go_steps (λ p m ts. search_steps j s p m ts) (step_at s in_icu n ss)
unfolding search_steps
steps_on zero j s in_icu n ss e f = cc
steps_on (suc k) j s in_icu n ss e f =
    let same : k ≡ j = cc in
    ap (λ b. cond b 0 (steps_at s in_icu n ss + go_steps (λ p m ts. search_steps k s p m ts) (step_at s in_icu n ss))) f
    ∙ ap (λ i. steps_at s in_icu n ss + go_steps (λ p m ts. search_steps i s p m ts) (step_at s in_icu n ss)) same

pub steps_long : (k : ℕ) (s : Setting) (in_icu : Bool) (n : List ℕ) (ss : List (List ℕ)) → is_long ss ≡ true → search_steps k s in_icu n ss ≡ 0
unfolding search_steps
steps_long zero s in_icu n ss f = refl
steps_long (suc k) s in_icu n ss f =
    ap (λ b. cond b 0 (steps_at s in_icu n ss + go_steps (λ p m ts. search_steps k s p m ts) (step_at s in_icu n ss))) f

pub steps_end : (k : ℕ) (s : Setting) (in_icu : Bool) (n : List ℕ) (ss : List (List ℕ)) → k ≡ 0 → search_steps k s in_icu n ss ≡ 0
unfolding search_steps
steps_end zero s in_icu n ss e = refl
steps_end (suc k) s in_icu n ss e = cc

-- ---- a level's steps, as the program counts them
pub segments_count : (p : List ℕ) → (length p == 0) ≡ false → length (segments p) ≡ count_by is_slash p + 1
segments_count [] h = cc
segments_count (b ∷ bs) h = length-slice_split is_slash (b ∷ bs)

pub always : {A B : Type 0} (o : Option B) → A → IfSome o (λ _. A)
always None a = tt
always (Some x) a = a

-- a limit needs the count of the names
pub spent_at : (left : Option ℕ) (t : Trail) (names : ℕ) {r : Result (Option ℕ) BoundedError} {q p : List ℕ} → IfSome left (λ _. names ≡ trail_length t) → q ≡ p
    → r ≡ spend left (names * (1 + length (segments q))) → r ≡ spend left (trail_length t * (1 + length (segments p)))
spent_at None t names counted same e = e
spent_at (Some k) t names {q = q} counted same e =
    e
    ∙ ap (λ (m : ℕ). spend (Some k) (m * (1 + length (segments q)))) counted
    ∙ ap (λ (x : List ℕ). spend (Some k) (trail_length t * (1 + length (segments x)))) same

-- what a limit needs it still has after some steps
pub still : (A : Type 0) (left later : Option ℕ) (steps : ℕ) → Ok later ≡ spend left steps → IfSome left (λ _. A) → IfSome later (λ _. A)
still A None later steps e a = let same : None ≡ later = cc in subst (λ (o : Option ℕ). IfSome o (λ _. A)) same tt
still A (Some k) later steps e a = always later a

-- nor is more than that spent
pub spend_never : (left : Option ℕ) (steps : ℕ) (f : BoundedError) → Err f ≡ spend left steps → f ≡ bounded.TooManySteps
spend_never None steps f e = cc
spend_never (Some k) steps f e = by (nat_lt k steps) e
  where
    by : (c : Bool) → Err f ≡ cond c (Err bounded.TooManySteps) (Ok (Some (k - steps))) → f ≡ bounded.TooManySteps
    by true g = cc
    by false g = cc

-- ---- what is left
abbrev on : Option ℕ → Result (Option ℕ) BoundedError
on later = Ok later

abbrev out : Result (Option ℕ) BoundedError
out = Err bounded.TooManySteps

-- no more steps are taken
pub within_none : (left : Option ℕ) (x : Result Hit LookError) → within left 0 x ≡ searched x
within_none None x = refl
within_none (Some k) x = ap (λ b. cond b (Err bounded.TooManySteps) (searched x)) (le-ltb k 0 (omega arith))

less_left : (k a b : ℕ) → a ≤ k → nat_lt k (a + b) ≡ nat_lt (k - a) b
less_left k a b h = by (nat_lt (k - a) b) refl
  where
    by : (c : Bool) → nat_lt (k - a) b ≡ c → nat_lt k (a + b) ≡ c
    by true e = let l : k - a < b = ltb-true (k - a) b e in lt-ltb k (a + b) (omega arith)
    by false e = let l : b ≤ k - a = ltb-false (k - a) b e in le-ltb k (a + b) (omega arith)

-- a level's steps are there
pub within_after : (left later : Option ℕ) (a b : ℕ) (x : Result Hit LookError) → Ok later ≡ spend left a → within left (a + b) x ≡ within later b x
within_after None None a b x e = refl
within_after None (Some l) a b x e = cc
within_after (Some k) later a b x e = by (nat_lt k a) refl
  where
    by : (c : Bool) → nat_lt k a ≡ c → within (Some k) (a + b) x ≡ within later b x
    by true t = let no : on later ≡ out = e ∙ ap (λ c. cond c (Err bounded.TooManySteps) (Ok (Some (k - a)))) t in cc
    by false t =
        let is : on later ≡ on (Some (k - a)) = e ∙ ap (λ c. cond c (Err bounded.TooManySteps) (Ok (Some (k - a)))) t in
        let same : Some (k - a) ≡ later = cc in
        ap (λ c. cond c (Err bounded.TooManySteps) (searched x)) (less_left k a b (ltb-false k a t)) ∙ ap (λ l. within l b x) same

-- or they are not
pub within_less : (left : Option ℕ) (a b : ℕ) (x : Result Hit LookError) (f : BoundedError) → Err f ≡ spend left a → within left (a + b) x ≡ Err f
within_less None a b x f e = cc
within_less (Some k) a b x f e = by (nat_lt k a) refl
  where
    by : (c : Bool) → nat_lt k a ≡ c → within (Some k) (a + b) x ≡ Err f
    by true t =
        let is : Err f ≡ out = e ∙ ap (λ c. cond c (Err bounded.TooManySteps) (Ok (Some (k - a)))) t in
        let same : bounded.TooManySteps ≡ f = cc in
        let l : k < a = ltb-true k a t in
        ap (λ c. cond c (Err bounded.TooManySteps) (searched x)) (lt-ltb k (a + b) (omega arith)) ∙ ap Err same
    by false t = let no : Err f ≡ on (Some (k - a)) = e ∙ ap (λ c. cond c (Err bounded.TooManySteps) (Ok (Some (k - a)))) t in cc
