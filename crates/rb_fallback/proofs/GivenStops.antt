-- Lookups from stops that were read before.
use Rattle.std.proofs.Common.{◌≡◌, ◌≤◌, ℕ, List, length, false, Option, Some, None, unwrap_or, Result, Ok, Err, IfOk, IfSome, refl, ap, sym, subst, arith}
use Rattle.std.proofs.lemmas.Option.{IfSome_then}
use Rattle.rb_tree.specs.Resource.{Resource}
use Rattle.rb_tree.specs.Path.{IsPath, segments}
use Rattle.rb_parents.specs.Trail.{Bundles, ParentsOf, Trail, names, trail}
use Rattle.rb_fallback.specs.Search.{Decided, Hit, by_trail, first_in, first_stop, level, look_up, step}
use Rattle.rb_fallback.specs.Steps.{searched, trail_length}
use Rattle.rb_fallback.specs.Stops.{AreStopsOf, CountsTrail}
use Rattle.rb_fallback.specs.declared.steps.TrailNames.{TrailNames}
use Rattle.rb_fallback.specs.inner.LevelResult.{IsLevel}
use Rattle.rb_fallback.specs.inner.Reached.{Decides, IsReachedLevel, IsSomeReached, named, stop_name}
use Rattle.rb_fallback.specs.declared.fault.BoundedError.TheVariants as bounded
use Rattle.rb_fallback.specs.declared.fault.LookError.{LookError}
use Rattle.rb_fallback.specs.declared.fault.LookError.TheVariants as fault
use Rattle.rb_fallback.specs.declared.level.LevelResult.{LevelResult}
use Rattle.rb_fallback.specs.declared.stops.Reached.{Reached}
use Rattle.rb_fallback.proofs.FewSteps.{within_length}
use Rattle.rb_fallback.proofs.Levels.{err_answer, start}

few_names : (ns : List (List ℕ)) (b : Bundles) (ps : ParentsOf) (n : List ℕ) → trail b ps n ≡ names ns → length ns ≤ 32
few_names ns b ps n e = omega (arith, within_length 32 b ps n, ap trail_length e)

-- what the stops of a name's trail give is its level
abbrev named_level : {N : Type 0} → (ℕ → Option (List ℕ × Resource)) → Result (Reached N) LookError → Result (LevelResult N) LookError
named_level stop (Ok d) = Ok (named stop (stop_name stop 0) d)
named_level stop (Err e) = Err e

pub level_given : {N : Type 0} (tree : N → Resource) (x : Result (Reached N) LookError) (path : List ℕ) (stop : ℕ → Option (List ℕ × Resource))
    (b : Bundles) (ps : ParentsOf) (n : List ℕ) → AreStopsOf stop b ps n → Decides tree stop path x
    → IsLevel tree (named_level stop x) path (level b ps n (segments path)) (first_stop b ps n)
level_given tree (Ok d) path stop b ps n a k =
    subst (λ (t : Trail). IsLevel tree (Ok (named stop (stop_name stop 0) d)) path (by_trail b t (segments path)) (first_in b t)) (sym a.trail)
    (k.level b a.ns (few_names a.ns b ps n a.trail) a.stops)
level_given tree (Err e) path stop b ps n a k =
    subst (λ (t : Trail). by_trail b t (segments path) ≡ Err e) (sym a.trail) (k.level b a.ns (few_names a.ns b ps n a.trail) a.stops)

-- and so whatever the first stop is
pub level_reached : {N : Type 0} (tree : N → Resource) (x : Result (Reached N) LookError) (path : List ℕ) (stop : ℕ → Option (List ℕ × Resource))
    (r : Result Decided LookError) (head : Option (List ℕ)) → IsLevel tree (named_level stop x) path r head → IsReachedLevel tree stop x path r
level_reached tree (Ok d) path stop r head h = record { first = stop_name stop 0; head = head; level = h }
level_reached tree (Err e) path stop r head h = h

pub decided_walk : {N : Type 0} (tree : N → Resource) (x : Result (Reached N) LookError) (path : List ℕ) (stop : ℕ → Option (List ℕ × Resource))
    → Decides tree stop path x → IfOk x (λ d. IsSomeReached tree stop d path)
decided_walk tree (Ok d) path stop k = k.walk
decided_walk tree (Err e) path stop k = tt

pub decided_never : {N : Type 0} (tree : N → Resource) (x : Result (Reached N) LookError) (path : List ℕ) (stop : ℕ → Option (List ℕ × Resource))
    → Decides tree stop path x → x ≡ Err fault.BadPath → ⊥
decided_never tree (Ok d) path stop k h = cc
decided_never tree (Err e) path stop k h = let same : e ≡ fault.BadPath = cc in k.never same

pub ok_always : {A B E : Type 0} (x : Result B E) → A → IfOk x (λ _. A)
ok_always (Ok y) a = a
ok_always (Err e) a = tt

-- ---- the names of a trail, which a limit counts
pub counted_all : (counts : TrailNames) (b : Bundles) (ps : ParentsOf) (n : List ℕ) (left : Option ℕ) → IfSome left (λ _. CountsTrail counts b ps n)
    → IfSome left (λ _. counts.all ≡ trail_length (trail b ps n))
counted_all counts b ps n left h = IfSome_then left h (λ _ k. k.all)

pub counted_valid : (counts : TrailNames) (b : Bundles) (ps : ParentsOf) (n v : List ℕ) (left : Option ℕ) → first_stop b ps n ≡ Some v
    → IfSome left (λ _. CountsTrail counts b ps n) → IfSome left (λ _. counts.from_valid ≡ trail_length (trail b ps v))
counted_valid counts b ps n v left e h =
    IfSome_then left h (λ _ k. subst (λ o. IfSome o (λ (m : List ℕ). counts.from_valid ≡ trail_length (trail b ps m))) e k.from_valid)

searched_err : (a : Result Hit LookError) (f : LookError) → Err (bounded.Search f) ≡ searched a → Err f ≡ a
searched_err (Ok h) f e = cc
searched_err (Err g) f e = let same : f ≡ g = cc in ap Err same

-- the error of a first level is that of the lookup
pub fault_look : (own icu : Bundles) (ps : ParentsOf) (n path : List ℕ) → IsPath path → length path ≤ 1024 → (f : LookError)
    → level own ps n (segments path) ≡ Err f → Err f ≡ look_up own icu ps n (segments path)
fault_look own icu ps n path is_path short f e =
    searched_err (look_up own icu ps n (segments path)) f
    (err_answer (start None own icu ps n path is_path) (omega arith) short 0 tt refl refl (ap (step false (unwrap_or (first_stop own ps n) n)) e))
