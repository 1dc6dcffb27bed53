-- When applications changed last.
use Rattle.std.proofs.Common.{◌≡◌, ◌≢◌, ◌<◌, ◌≤◌, ◌+◌, ◌*◌, ◌%◌, ◌^◌, ◌==◌, ◌⊎◌, ℕ, zero, suc, List, [], ◌∷◌, Bool, true, false, length, replicate, set, refl, sym, ◌∙◌, subst, arith, inl, inr}
use Rattle.std.proofs.Math.Nat.{mod-lt}
use Rattle.std.proofs.lemmas.Bool.{eqb-false, eqb-true}
use Rattle.std.proofs.lemmas.Grind.{get_or-set_at}
use Rattle.std.proofs.lemmas.List.{get_or-set_other, length-replicate, length-set}
use Rattle.std.specs.Prelude.{fold, get_or}
use Rattle.rb_engine.specs.Version.{last_version, next_version}
use Rattle.rb_packages.specs.Packages.{Stored}
use Rattle.rb_engine.specs.inner.LastChanges.{AreUpTo, HasChanged, group_of, version_in}
use Rattle.rb_engine.specs.declared.request.Reply.{Reply}
use Rattle.rb_engine.specs.declared.request.Reply.TheVariants.{Done}
use Rattle.rb_engine.specs.declared.versions.Versions.{Versions}

small_from : (group : ℕ) (bytes : List ℕ) → group < 256 → fold (λ g b. (g * 31 % 2 ^ 8 + b) % 2 ^ 8) group bytes < 256
small_from group [] l = l
small_from group (b ∷ bs) l = small_from ((group * 31 % 2 ^ 8 + b) % 2 ^ 8) bs (mod-lt (group * 31 % 2 ^ 8 + b) (omega arith))

pub group_small : (app : List ℕ) → group_of app < 256
group_small app = small_from 0 app (omega arith)

pub same_or : (a b : ℕ) → (a ≡ b) ⊎ (a ≢ b)
same_or a b = by (a == b) refl
  where
    by : (t : Bool) → (a == b) ≡ t → (a ≡ b) ⊎ (a ≢ b)
    by true e = inl (eqb-true a b e)
    by false e = inr (eqb-false a b e)

zeros : (n i : ℕ) → get_or (replicate n zero) i zero ≡ zero
zeros zero i = refl
zeros (suc n) zero = refl
zeros (suc n) (suc i) = zeros n i

pub first_up_to : (groups : List ℕ) (latest : ℕ) → groups ≡ replicate 256 0 → AreUpTo groups latest
first_up_to groups latest e = subst (λ (gs : List ℕ). AreUpTo gs latest) (sym e) (record {
  all = length-replicate {A = ℕ} 256 0;
  past = λ group l. omega (arith, zeros 256 group);
})

pub version_past : (version : ℕ) (groups : List ℕ) (latest : ℕ) (app : List ℕ) → version ≡ version_in groups app → AreUpTo groups latest
    → version < last_version → version ≤ latest
version_past version groups latest app e u l = omega (arith, e, u.past (group_of app) (omega (arith, e, l)))

-- the versions after a change of an application
module _ (versions : List ℕ) (app : List ℕ) (w : ℕ) where
  pub version_same : (other : List ℕ) → length versions ≡ 256 → group_of other ≡ group_of app
      → version_in (set versions (group_of app) w) other ≡ w
  version_same other all same =
      get_or-set_at versions (group_of app) (group_of other) w 0 same (omega (arith, all, group_small app))

  pub version_other : (other : List ℕ) → group_of other ≢ group_of app
      → version_in (set versions (group_of app) w) other ≡ version_in versions other
  version_other other n = get_or-set_other versions (group_of app) (group_of other) w 0 n

  pub up_to_change : (v : ℕ) → w ≡ next_version v → AreUpTo versions v → AreUpTo (set versions (group_of app) w) w
  up_to_change v e u = record {
    all = length-set versions (group_of app) w ∙ u.all;
    past = λ group l. by group l (same_or group (group_of app));
  }
    where
      by : (group : ℕ) → get_or (set versions (group_of app) w) group 0 < last_version → (group ≡ group_of app) ⊎ (group ≢ group_of app)
          → get_or (set versions (group_of app) w) group 0 ≤ w
      by group l (inl same) =
          let is : get_or (set versions (group_of app) w) group 0 ≡ w =
          get_or-set_at versions (group_of app) group w 0 same (omega (arith, u.all, group_small app)) in
          omega (arith, is)
      by group l (inr n) =
          let is : get_or (set versions (group_of app) w) group 0 ≡ get_or versions group 0 = get_or-set_other versions (group_of app) group w 0 n in
          let low : get_or versions group 0 < last_version = omega (arith, is, l) in
          omega (arith, is, low, u.past group low, e)

pub up_to_after : (p q : Stored) (x y : Versions) → HasChanged p q x y → AreUpTo x.groups x.latest → AreUpTo y.groups y.latest
up_to_after p q x y h u = subst (λ (gs : List ℕ). AreUpTo gs y.latest) (sym h.groups) (up_to_change x.groups h.app y.latest x.latest h.latest u)

-- a call changes something if and only if its reply says so
pub up_to_reply : (p q : Stored) (x y : Versions) (r : Reply) → (r ≡ Done → HasChanged p q x y) → (r ≢ Done → (q ≡ p) × (y ≡ x))
    → AreUpTo x.groups x.latest → AreUpTo y.groups y.latest
up_to_reply p q x y Done f g u = up_to_after p q x y (f refl) u
up_to_reply p q x y r f g u = subst (λ (z : Versions). AreUpTo z.groups z.latest) (sym (g (λ e. cc)).1) u
