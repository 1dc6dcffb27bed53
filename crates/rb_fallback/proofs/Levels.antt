-- A search, level by level.
use Rattle.std.proofs.Common.{◌≡◌, ◌≢◌, ◌+◌, ◌*◌, ◌-◌, ◌<◌, ◌≤◌, ◌==◌, ℕ, zero, suc, List, length, Bool, true, false, cond, Option, Result, Ok, Err}
use Rattle.std.proofs.Common.{IfSome, IsErrAnd, refl, ap, sym, ◌∙◌, arith}
use Rattle.std.proofs.lemmas.Bool.{le-ltb, eqb-true, eqb-false}
use Rattle.rb_tree.specs.Resource.{Resource}
use Rattle.rb_tree.specs.Path.{segments, IsPath}
use Rattle.rb_parents.specs.Trail.{Bundles, ParentsOf, trail}
use Rattle.rb_fallback.specs.Search.{Hit, Setting, Step, found, goes, search, is_long, go_on, bundles_of, setting}
use Rattle.rb_fallback.specs.Steps.{go_steps, search_steps, trail_length, within}
use Rattle.rb_fallback.specs.inner.Budget.{after_step, search_within, spend}
use Rattle.rb_fallback.specs.inner.Steps.{GoesOn, GoesLong, IsOutcome}
use Rattle.rb_fallback.specs.declared.fault.BoundedError.{BoundedError}
use Rattle.rb_fallback.specs.declared.fault.BoundedError.TheVariants as bounded
use Rattle.rb_fallback.specs.declared.fault.LookError.{LookError}
use Rattle.rb_fallback.specs.declared.fault.LookError.TheVariants as fault
use Rattle.rb_fallback.specs.declared.search.SearchState.{SearchState}
use Rattle.rb_fallback.specs.declared.search.Outcome.{Outcome}
use Rattle.rb_fallback.proofs.Budgets.{spent_at, step_at, steps_at, steps_end, steps_long, steps_on, within_after, within_less, within_none}
use Rattle.rb_fallback.proofs.Paths.{long_is}

search_on : (k j : ℕ) (s : Setting) (in_icu : Bool) (n : List ℕ) (ss : List (List ℕ)) → k ≡ suc j → is_long ss ≡ false
    → search k s in_icu n ss ≡ go_on (λ p m ts. search j s p m ts) (step_at s in_icu n ss)
unfolding search
search_on zero j s in_icu n ss e f = cc
search_on (suc k) j s in_icu n ss e f =
    let same : k ≡ j = cc in
    ap (λ b. cond b (Err fault.PathTooLong) (go_on (λ p m ts. search k s p m ts) (step_at s in_icu n ss))) f
    ∙ ap (λ i. go_on (λ p m ts. search i s p m ts) (step_at s in_icu n ss)) same

search_long : (k j : ℕ) (s : Setting) (in_icu : Bool) (n : List ℕ) (ss : List (List ℕ)) → k ≡ suc j → is_long ss ≡ true
    → search k s in_icu n ss ≡ Err fault.PathTooLong
unfolding search
search_long zero j s in_icu n ss e f = cc
search_long (suc k) j s in_icu n ss e f = ap (λ b. cond b (Err fault.PathTooLong) (go_on (λ p m ts. search k s p m ts) (step_at s in_icu n ss))) f

search_end : (k : ℕ) (s : Setting) (in_icu : Bool) (n : List ℕ) (ss : List (List ℕ)) → k ≡ 0 → search k s in_icu n ss ≡ Err fault.TooManyAliases
unfolding search
search_end zero s in_icu n ss e = refl
search_end (suc k) s in_icu n ss e = cc

short_is : (p : List ℕ) → length p ≤ 1024 → is_long (segments p) ≡ false
short_is p h = long_is p ∙ le-ltb 1024 (length p) h

-- a search that has reached a level, with `left` steps remaining, has this answer
pub record ComesTo (left : Option ℕ) (most i : ℕ) (s : Setting) (in_icu : Bool) (n p : List ℕ) (answer : Result Hit BoundedError) : Type 0 where
  pub path : IsPath p
  pub same : search_within left (most - i) s in_icu n (segments p) ≡ answer

-- a lookup has come to its first level
pub start : (left : Option ℕ) (own icu : Bundles) (parents : ParentsOf) (n p : List ℕ) → IsPath p
    → ComesTo left 256 0 (setting own icu parents n) false n p (search_within left 256 (setting own icu parents n) false n (segments p))
start left own icu parents n p path = record { path = path; same = refl }

-- if the next path is too long, the search ends
long_end : (most i : ℕ) (s : Setting) (in_icu : Bool) (n : List ℕ) (rest : List (List ℕ)) (f : LookError) → i < most → is_long rest ≡ true
    → f ≡ cond (i + 1 == most) fault.TooManyAliases fault.PathTooLong → search (most - (i + 1)) s in_icu n rest ≡ Err f
long_end most i s in_icu n rest f h l e = by (i + 1 == most) refl
  where
    fault_at : (b : Bool) → (i + 1 == most) ≡ b → cond b fault.TooManyAliases fault.PathTooLong ≡ f
    fault_at b t = sym (e ∙ ap (λ c. cond c fault.TooManyAliases fault.PathTooLong) t)

    by : (b : Bool) → (i + 1 == most) ≡ b → search (most - (i + 1)) s in_icu n rest ≡ Err f
    by true t =
        let last : i + 1 ≡ most = eqb-true (i + 1) most t in
        search_end (most - (i + 1)) s in_icu n rest (omega arith) ∙ ap Err (fault_at true t)
    by false t =
        let other : i + 1 ≢ most = eqb-false (i + 1) most t in
        search_long (most - (i + 1)) (most - (i + 2)) s in_icu n rest (omega arith) l ∙ ap Err (fault_at false t)

-- a level on
module _ {left : Option ℕ} {most i : ℕ} {s : Setting} {in_icu : Bool} {n p : List ℕ} {answer : Result Hit BoundedError}
    (at : ComesTo left most i s in_icu n p answer) (more : i < most) (short : length p ≤ 1024) where
  level_within : within left (steps_at s in_icu n (segments p) + go_steps (λ q m ts. search_steps (most - (i + 1)) s q m ts) (step_at s in_icu n (segments p)))
      (go_on (λ q m ts. search (most - (i + 1)) s q m ts) (step_at s in_icu n (segments p))) ≡ answer
  level_within =
      ap (λ x. within left x (go_on (λ q m ts. search (most - (i + 1)) s q m ts) (step_at s in_icu n (segments p))))
      (sym (steps_on (most - i) (most - (i + 1)) s in_icu n (segments p) (omega arith) (short_is p short)))
      ∙ ap (within left (search_steps (most - i) s in_icu n (segments p)))
      (sym (search_on (most - i) (most - (i + 1)) s in_icu n (segments p) (omega arith) (short_is p short)))
      ∙ at.same

  -- if the steps don't suffice
  pub level_less : {f : BoundedError} (names : ℕ) {q : List ℕ} → IfSome left (λ _. names ≡ trail_length (trail (bundles_of s.own s.icu in_icu) s.parents n)) → q ≡ p
      → Err f ≡ spend left (names * (1 + length (segments q))) → Err f ≡ answer
  level_less {f = f} names counted same less = sym (within_less left _ _ _ f (spent_at left (trail (bundles_of s.own s.icu in_icu) s.parents n) names counted same less)) ∙ level_within

  -- and if they do
  module _ {later : Option ℕ} (names : ℕ) {q : List ℕ} (counted : IfSome left (λ _. names ≡ trail_length (trail (bundles_of s.own s.icu in_icu) s.parents n))) (same : q ≡ p)
      (spent : Ok later ≡ spend left (names * (1 + length (segments q)))) where
    level_answer : {r : Result Step LookError} → step_at s in_icu n (segments p) ≡ r
        → within later (go_steps (λ q m ts. search_steps (most - (i + 1)) s q m ts) r) (go_on (λ q m ts. search (most - (i + 1)) s q m ts) r) ≡ answer
    level_answer e =
        ap (λ x. within later (go_steps (λ q m ts. search_steps (most - (i + 1)) s q m ts) x) (go_on (λ q m ts. search (most - (i + 1)) s q m ts) x)) (sym e)
        ∙ sym (within_after left later (steps_at s in_icu n (segments p)) _ _ (spent_at left (trail (bundles_of s.own s.icu in_icu) s.parents n) names counted same spent))
        ∙ level_within

    pub found_answer : {hit : Hit} → step_at s in_icu n (segments p) ≡ Ok (found hit) → Ok hit ≡ answer
    found_answer {hit = hit} e = sym (within_none later (Ok hit)) ∙ level_answer e

    pub err_answer : {f : LookError} → step_at s in_icu n (segments p) ≡ Err f → Err (bounded.Search f) ≡ answer
    err_answer {f = f} e = sym (within_none later (Err f)) ∙ level_answer e

    -- an alias leads on
    pub next_level : (to : SearchState) → GoesOn to (step_at s in_icu n (segments p)) → ComesTo later most (i + 1) s to.icudata to.name to.path answer
    next_level to on = record { path = on.path; same = level_answer on.onto }

    -- or to a path that is too long
    pub long_answer : {f : LookError} → GoesLong (step_at s in_icu n (segments p)) → f ≡ cond (i + 1 == most) fault.TooManyAliases fault.PathTooLong
        → Err (bounded.Search f) ≡ answer
    long_answer {f = f} long e =
        sym (within_none later (Err f))
        ∙ ap (λ x. within later x (Err f)) (sym (steps_long (most - (i + 1)) s long.in_icu long.name long.rest long.long))
        ∙ ap (within later (search_steps (most - (i + 1)) s long.in_icu long.name long.rest))
        (sym (long_end most i s long.in_icu long.name long.rest f more long.long e))
        ∙ level_answer long.onto

    -- what follows the step of the first level
    pub rest_answer : {r : Result Step LookError} → step_at s in_icu n (segments p) ≡ r
        → within later (go_steps (λ q m ts. search_steps (most - (i + 1)) s q m ts) r) (go_on (λ q m ts. search (most - (i + 1)) s q m ts) r) ≡ answer
    rest_answer e = level_answer e

-- no level is left
pub within_end : (left : Option ℕ) (k : ℕ) (s : Setting) (in_icu : Bool) (n : List ℕ) (ss : List (List ℕ)) → k ≡ 0
    → search_within left k s in_icu n ss ≡ Err (bounded.Search fault.TooManyAliases)
within_end left k s in_icu n ss e =
    ap (λ x. within left x (search k s in_icu n ss)) (steps_end k s in_icu n ss e)
    ∙ ap (within left 0) (search_end k s in_icu n ss e)
    ∙ within_none left (Err fault.TooManyAliases)

-- the path of a lookup is too long
pub within_long : (left : Option ℕ) (k j : ℕ) (s : Setting) (in_icu : Bool) (n : List ℕ) (ss : List (List ℕ)) → k ≡ suc j → is_long ss ≡ true
    → search_within left k s in_icu n ss ≡ Err (bounded.Search fault.PathTooLong)
within_long left k j s in_icu n ss e f =
    ap (λ x. within left x (search k s in_icu n ss)) (steps_long k s in_icu n ss f)
    ∙ ap (within left 0) (search_long k j s in_icu n ss e f)
    ∙ within_none left (Err fault.PathTooLong)

-- ---- the first level, once its step is known
module _ (left : Option ℕ) (s : Setting) (r : Result Step LookError) where
  pub after_found : (hit : Hit) → r ≡ Ok (found hit) → Ok hit ≡ after_step left s r
  after_found hit e = sym (within_none left (Ok hit)) ∙ ap (after_step left s) (sym e)

  pub after_err : (f : LookError) → r ≡ Err f → Err (bounded.Search f) ≡ after_step left s r
  after_err f e = sym (within_none left (Err f)) ∙ ap (after_step left s) (sym e)

  pub after_next : (in_icu : Bool) (n : List ℕ) (ss : List (List ℕ)) → r ≡ Ok (goes in_icu n ss)
      → search_within left 255 s in_icu n ss ≡ after_step left s r
  after_next in_icu n ss e = ap (after_step left s) (sym e)

  pub after_long : GoesLong r → Err (bounded.Search fault.PathTooLong) ≡ after_step left s r
  after_long g = sym (within_long left 255 254 s g.in_icu g.name g.rest (omega arith) g.long) ∙ ap (after_step left s) (sym g.onto)

-- an error that a `?` returns
pub is_err : {A E : Type 0} (x : Result A E) (f : E) → IsErrAnd x (λ e. e ≡ f) → x ≡ Err f
is_err (Ok y) f h = absurd h
is_err (Err e) f h = ap Err h

pub outcome_err : {N : Type 0} (tree : N → Resource) (stop : ℕ → Option (List ℕ × Resource)) (x : Result (Outcome N) LookError) (f : LookError) (p : SearchState)
    (r : Result Step LookError) → IsErrAnd x (λ e. e ≡ f) → r ≡ Err f → IsOutcome tree stop x p r
outcome_err tree stop (Ok y) f p r h k = absurd h
outcome_err tree stop (Err e) f p r h k = k ∙ ap Err (sym h)
