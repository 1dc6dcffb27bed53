-- The most steps that a lookup of a path takes.
use Rattle.std.proofs.Common.{◌≡◌, ◌+◌, ◌*◌, ◌<◌, ◌≤◌, ℕ, zero, suc, List, [], ◌∷◌, ◌++◌, length, drop, Bool, true, false, cond, Some, None}
use Rattle.std.proofs.Common.{All, Result, Ok, Err, refl, ap, sym, ◌∙◌, subst, arith, length-append}
use Rattle.std.proofs.Math.Nat.{mul-le-mul}
use Rattle.std.proofs.lemmas.Bool.{ltb-false}
use Rattle.std.proofs.lemmas.List.{drop_at}
use Rattle.std.proofs.lemmas.List.Elements.{All-append, All-drop}
use Rattle.std.specs.List.{join_with_byte}
use Rattle.rb_tree.specs.Path.{segments}
use Rattle.rb_tree.specs.Walk.{Walked, ends, links, gone}
use Rattle.rb_parents.specs.Trail.{Bundles, ParentsOf, Next, goes_to, end, bad, next, Trail, names, chain, bad_parent, begins, onward, trail, trail_within}
use Rattle.rb_fallback.specs.Alias.{Aim, aims, no_text, no_package, aim, target_of}
use Rattle.rb_fallback.specs.Search.{Decided, Setting, Step, found, goes, bundles_of, follow, is_long, level, setting, step, step_of}
use Rattle.rb_fallback.specs.Steps.{HasFewSteps, go_steps, level_steps, search_steps, trail_length}
use Rattle.rb_fallback.specs.declared.fault.LookError.{LookError}
use Rattle.rb_fallback.specs.inner.LevelResult.{Whole}
use Rattle.rb_fallback.proofs.Budgets.{step_at, steps_at}
use Rattle.rb_fallback.proofs.Follows.{filled_all}
use Rattle.rb_fallback.proofs.Links.{level_is, walk_of_whole}
use Rattle.rb_fallback.proofs.Paths.{aim_is_filled}

-- ---- the names of a trail
begins_length : (n : List ℕ) (t : Trail) → trail_length (begins n t) ≤ suc (trail_length t)
begins_length n (names ns) = omega arith
begins_length n chain = omega arith
begins_length n bad_parent = omega arith

onward_length : (k : ℕ) (go : List ℕ → Trail) (x : Next) → ((m : List ℕ) → trail_length (go m) ≤ k) → trail_length (onward go x) ≤ k
onward_length k go (goes_to m) h = h m
onward_length k go end h = omega arith
onward_length k go bad h = omega arith

pub within_length : (k : ℕ) (bundles : Bundles) (parents : ParentsOf) (n : List ℕ) → trail_length (trail_within k bundles parents n) ≤ k
unfolding trail_within
within_length zero bundles parents n = omega arith
within_length (suc k) bundles parents n =
    let go = λ (m : List ℕ). trail_within k bundles parents m in
    let x = next bundles parents n in
    let later : trail_length (onward go x) ≤ k = onward_length k go x (λ m. within_length k bundles parents m) in
    omega (arith, begins_length n (onward go x))

-- ---- the segments of a path
abbrev AreFilled : List (List ℕ) → Type 0
AreFilled ss = All (λ s. 0 < length s) ss

first_filled : (s : List ℕ) (ss : List (List ℕ)) → AreFilled (s ∷ ss) → 0 < length s
first_filled s ss h = h 0 [] (omega arith)

rest_filled : (s : List ℕ) (ss : List (List ℕ)) → AreFilled (s ∷ ss) → AreFilled ss
rest_filled s ss h = All-drop (λ p. 0 < length p) 1 (s ∷ ss) h

-- a segment takes at least two bytes, with the slash before it
joined_length : (ss : List (List ℕ)) → AreFilled ss → 2 * length ss ≤ length (join_with_byte 47 ss) + 1
joined_length [] h = omega arith
joined_length (s ∷ []) h = let some = first_filled s [] h in omega arith
joined_length (s ∷ t ∷ ss) h =
    let some = first_filled s (t ∷ ss) h in
    let rest = joined_length (t ∷ ss) (rest_filled s (t ∷ ss) h) in
    omega (arith, length-append s (47 ∷ join_with_byte 47 (t ∷ ss)))

segment_count : (ss : List (List ℕ)) → AreFilled ss → is_long ss ≡ false → length ss ≤ 512
segment_count ss h e = let short = ltb-false 1024 (length (join_with_byte 47 ss)) e in omega (arith, joined_length ss h)

-- ---- no segment of the paths of later levels is empty
abbrev GoesFilled : Result Step LookError → Type 0
GoesFilled (Ok (goes in_icu n ss)) = AreFilled ss
GoesFilled r = Unit {0}

follow_filled : (us valid : List ℕ) (in_icu : Bool) (walked rest ss : List (List ℕ)) → walked ++ rest ≡ ss → AreFilled ss → (x : Aim) → aim us valid ≡ x
    → GoesFilled (follow rest (target_of x in_icu walked))
follow_filled us valid in_icu walked rest ss whole h (aims icu n None) e = subst AreFilled (sym whole) h
follow_filled us valid in_icu walked rest ss whole h (aims icu n (Some ts)) e =
    let left : AreFilled rest = subst AreFilled (ap (drop (length walked)) (sym whole) ∙ drop_at walked rest (length walked) refl)
    (All-drop (λ s. 0 < length s) (length walked) ss h) in
    All-append (λ s. 0 < length s) ts rest (filled_all ts (aim_is_filled us valid n icu ts e)) left
follow_filled us valid in_icu walked rest ss whole h no_text e = tt
follow_filled us valid in_icu walked rest ss whole h no_package e = tt

walked_filled : (in_icu : Bool) (valid n : List ℕ) (ss : List (List ℕ)) (w : Walked) → Whole w ss → AreFilled ss → GoesFilled (step_of in_icu valid n w)
walked_filled in_icu valid n ss (ends t) whole h = tt
walked_filled in_icu valid n ss (links us walked rest) whole h = follow_filled us valid in_icu walked rest ss whole h (aim us valid) refl
walked_filled in_icu valid n ss gone whole h = tt

level_filled : (bundles : Bundles) (parents : ParentsOf) (n : List ℕ) (ss : List (List ℕ)) (in_icu : Bool) (valid : List ℕ) → AreFilled ss
    → (r : Result Decided LookError) → level bundles parents n ss ≡ r → GoesFilled (step in_icu valid r)
level_filled bundles parents n ss in_icu valid h (Err f) e = tt
level_filled bundles parents n ss in_icu valid h (Ok d) e =
    let whole : Whole d.walked ss =
    subst (λ w. Whole w ss) (level_is bundles (trail bundles parents n) ss d e) (walk_of_whole (bundles d.stop) ss) in
    walked_filled in_icu valid d.stop ss d.walked whole h

-- ---- the steps of all levels
level_few : (bundles : Bundles) (parents : ParentsOf) (n : List ℕ) (ss : List (List ℕ)) → AreFilled ss → is_long ss ≡ false
    → level_steps bundles parents n ss ≤ 16416
level_few bundles parents n ss h e =
    let few = segment_count ss h e in
    let more : 1 + length ss ≤ 513 = omega arith in
    mul-le-mul (within_length 32 bundles parents n) more

go_few : (go : Bool → List ℕ → List (List ℕ) → ℕ) (most : ℕ) (r : Result Step LookError)
    → ((p : Bool) (m : List ℕ) (ts : List (List ℕ)) → AreFilled ts → go p m ts ≤ most) → GoesFilled r → go_steps go r ≤ most
go_few go most (Err f) g h = omega arith
go_few go most (Ok (found hit)) g h = omega arith
go_few go most (Ok (goes p m ts)) g h = g p m ts h

search_few : (k : ℕ) (s : Setting) (in_icu : Bool) (n : List ℕ) (ss : List (List ℕ)) → AreFilled ss → search_steps k s in_icu n ss ≤ k * 16416
unfolding search_steps
search_few zero s in_icu n ss h = omega arith
search_few (suc k) s in_icu n ss h = by (λ p m ts f. search_few k s p m ts f) (is_long ss) refl
  where
    by : ((p : Bool) (m : List ℕ) (ts : List (List ℕ)) → AreFilled ts → search_steps k s p m ts ≤ k * 16416) → (b : Bool) → is_long ss ≡ b
        → cond b 0 (steps_at s in_icu n ss + go_steps (λ p m ts. search_steps k s p m ts) (step_at s in_icu n ss)) ≤ suc k * 16416
    by g true e = omega arith
    by g false e =
        let bundles = bundles_of s.own s.icu in_icu in
        let here = level_few bundles s.parents n ss h e in
        let later = go_few (λ p m ts. search_steps k s p m ts) (k * 16416) (step_at s in_icu n ss) g
        (level_filled bundles s.parents n ss in_icu s.valid h (level bundles s.parents n ss) refl) in
        omega arith

pub few_steps : HasFewSteps
few_steps own icu parents n p path = search_few 256 (setting own icu parents n) false n (segments p) path.filled
