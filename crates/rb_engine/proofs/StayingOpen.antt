-- An open locale stays one while nothing changes.
use Rattle.std.proofs.Common.{◌≡◌, ◌<◌, ◌≤◌, ◌==◌, ◌&&◌, ℕ, List, [], ◌∷◌, Bool, true, false, nat_lt, ap, sym, ◌∙◌, subst, refl, arith, inl, inr}
use Rattle.std.proofs.lemmas.Bool.{eqb-true, ltb-false, ltb-true}
use Rattle.rb_engine.specs.Kept.{Kept}
use Rattle.rb_engine.specs.OpenLocale.{CountsNames, Follows, IsOpenLocale, IsReached, StaysCounted, StaysOpen}
use Rattle.rb_engine.specs.Version.{is_current, last_version}

-- the states are the same, or the version is greater, or the last one
data Course (first last : Kept) : Type 0 where
  same : last ≡ first → Course first last
  greater : first.version < last.version → Course first last
  over : last_version ≤ last.version → Course first last

step : (first mid : Kept) → Follows first mid → Course first mid
step first mid (inl e) = same e
step first mid (inr e) = by (nat_lt first.version last_version) refl
  where
    by : (b : Bool) → nat_lt first.version last_version ≡ b → Course first mid
    by true t = let l = ltb-true first.version last_version t in greater (omega (arith, e))
    by false t = let l = ltb-false first.version last_version t in over (omega (arith, e))

after : (first mid last : Kept) → Course first mid → Course mid last → Course first last
after first mid last (same e) c = subst (λ (k : Kept). Course k last) e c
after first mid last (greater g) (same e) = greater (omega (arith, g, ap (λ (k : Kept). k.version) e))
after first mid last (greater g) (greater h) = greater (omega arith)
after first mid last (greater g) (over h) = over h
after first mid last (over g) (same e) = over (omega (arith, g, ap (λ (k : Kept). k.version) e))
after first mid last (over g) (greater h) = over (omega arith)
after first mid last (over g) (over h) = over h

course : (first last : Kept) (between : List Kept) → IsReached first between last → Course first last
course first last [] f = step first last f
course first last (mid ∷ later) f = after first mid last (step first mid f.0) (course mid last later f.1)

pub current_is : (v w : ℕ) → is_current v w ≡ true → (v ≡ w) × (w < last_version)
current_is v w e = by (v == w) (nat_lt w last_version) refl refl e
  where
    by : (a b : Bool) → (v == w) ≡ a → nat_lt w last_version ≡ b → (a && b) ≡ true → (v ≡ w) × (w < last_version)
    by true true f g h = (eqb-true v w f, ltb-true w last_version g)
    by true false f g h = cc
    by false b f g h = cc

-- the engine is the same while a version is current
unchanged : (read : ℕ) (first last : Kept) (between : List Kept) → read ≡ first.version → IsReached first between last
    → is_current read last.version ≡ true → last ≡ first
unchanged read first last between was reached current =
    let c = current_is read last.version current in
    let equal : first.version ≡ last.version = sym was ∙ c.0 in
    by (course first last between reached) equal c.1
  where
    by : Course first last → first.version ≡ last.version → last.version < last_version → last ≡ first
    by (same e) q l = e
    by (greater g) q l = absurd (omega arith)
    by (over g) q l = absurd (omega arith)

pub stays_open : StaysOpen
stays_open opened app locale first last between there was reached current =
    subst (λ (k : Kept). IsOpenLocale opened k app locale) (sym (unchanged opened.version first last between was reached current)) there

pub stays_counted : StaysCounted
stays_counted opened app locale first last between there was reached current =
    subst (λ (k : Kept). CountsNames opened k app locale) (sym (unchanged opened.version first last between was reached current)) there
