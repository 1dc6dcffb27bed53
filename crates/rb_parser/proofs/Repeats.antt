-- Proves that repeated keys found by index are those met in order.
use Rattle.std.proofs.Common.{◌≡◌, ◌≢◌, ℕ, zero, suc, ◌+◌, ◌<◌, ◌≤◌, ◌||◌, Bool, true, false, List, [], ◌∷◌, ◌++◌, length, get_or, take, refl, sym, ap, ◌∙◌}
use Rattle.std.proofs.Common.{subst, arith, nat_eq, inl, inr, ◌⊎◌}
use Rattle.std.proofs.Math.Nat.{eq-or-lt_of_le}
use Rattle.std.proofs.lemmas.List.{map-append, length-map, length_push, get_or_push, get_or_append_left, take-append-le, take_all}
use Rattle.std.proofs.lemmas.Slice.Eq.{bytes_eq-Decides}
use Rattle.std.specs.Cmp.Lexicographic.{pointwise}
use Rattle.rb_tree.specs.Table.{keys_in, NoRepeat, IsFirstRepeat}
use Rattle.rb_tree.specs.declared.tree.Tree.{Tree}
use Rattle.rb_grammar.specs.Reading.{is_among}
use Rattle.rb_parser.specs.inner.Rows.{Pair, keys_after}

is_same : (q k : List ℕ) → q ≡ k → pointwise nat_eq q k ≡ true
is_same q k e = (bytes_eq-Decides q k).1 e

not_same : (q k : List ℕ) → q ≢ k → pointwise nat_eq q k ≡ false
not_same q k other = by (pointwise nat_eq q k) refl
  where
    by : (b : Bool) → pointwise nat_eq q k ≡ b → pointwise nat_eq q k ≡ false
    by true e = absurd (other ((bytes_eq-Decides q k).0 e))
    by false e = e

still : (ps : List Pair) (ks : List (List ℕ)) (q : List ℕ) → is_among ks q ≡ true → is_among (keys_after ps ks) q ≡ true
still [] ks q e = e
still (p ∷ ps) ks q e = still ps (p.0 ∷ ks) q (by (pointwise nat_eq q p.0) e)
  where
    by : (b : Bool) → is_among ks q ≡ true → (b || is_among ks q) ≡ true
    by true h = refl
    by false h = h

-- a key at an index was met
pub met_at : (ps : List Pair) (ks : List (List ℕ)) (q : List ℕ) (i : ℕ) → i < length ps → get_or (keys_in ps) i [] ≡ q → is_among (keys_after ps ks) q ≡ true
met_at [] ks q i h e = absurd (omega arith)
met_at (p ∷ ps) ks q zero h e = still ps (p.0 ∷ ks) q (rw (is_same q p.0 (sym e)) refl)
met_at (p ∷ ps) ks q (suc i) h e = met_at ps (p.0 ∷ ks) q i (omega arith) e

-- a key at no index wasn't
pub met_none : (ps : List Pair) (ks : List (List ℕ)) (q : List ℕ) → ((i : ℕ) → i < length ps → get_or (keys_in ps) i [] ≢ q) → is_among ks q ≡ false
    → is_among (keys_after ps ks) q ≡ false
met_none [] ks q none e = e
met_none (p ∷ ps) ks q none e =
    met_none ps (p.0 ∷ ks) q (λ i h. none (suc i) (omega arith)) (rw (not_same q p.0 (λ s. none 0 (omega arith) (sym s))) e)

keys_push : (ps : List Pair) (k : List ℕ) (t : Tree) → keys_in (ps ++ (k, t) ∷ []) ≡ keys_in ps ++ k ∷ []
keys_push ps k t = map-append (λ (x : Pair). x.0) ps ((k, t) ∷ [])

keys_len : (ps : List Pair) → length (keys_in ps) ≡ length ps
keys_len ps = length-map ps (λ (x : Pair). x.0)

-- ---- one more key

module _ (ps : List Pair) (k : List ℕ) (t : Tree) where
  before : (i : ℕ) → i < length ps → get_or (keys_in ps ++ k ∷ []) i [] ≡ get_or (keys_in ps) i []
  before i h = get_or_append_left (keys_in ps) (k ∷ []) [] i (omega (arith, keys_len ps))

  last : get_or (keys_in ps ++ k ∷ []) (length ps) [] ≡ k
  last = get_or_push (keys_in ps) k [] (length ps) (keys_len ps)

  apart_before : NoRepeat (keys_in ps ++ k ∷ []) → NoRepeat (keys_in ps)
  apart_before apart i j h l =
      λ e. apart i j h (omega (arith, length_push (keys_in ps) k, l))
      (before i (omega (arith, keys_len ps, l)) ∙ e ∙ sym (before j (omega (arith, keys_len ps, l))))

  new_key : NoRepeat (keys_in ps ++ k ∷ []) → is_among (keys_after ps []) k ≡ false
  new_key apart = met_none ps [] k
      (λ i h e. apart i (length ps) h (omega (arith, length_push (keys_in ps) k, keys_len ps)) (before i h ∙ e ∙ sym last)) refl

  pub apart_push : NoRepeat (keys_in (ps ++ (k, t) ∷ [])) → NoRepeat (keys_in ps) × (is_among (keys_after ps []) k ≡ false)
  apart_push apart = let a = subst NoRepeat (keys_push ps k t) apart in (apart_before a, new_key a)

  repeats : (i : ℕ) → IsFirstRepeat (keys_in ps ++ k ∷ []) i
      → ((i < length ps) × IsFirstRepeat (keys_in ps) i)
      ⊎ ((i ≡ length ps) × (0 < length ps) × NoRepeat (keys_in ps) × (is_among (keys_after ps []) k ≡ true))
  repeats i r = by (eq-or-lt_of_le (let w = r.within in let z : i ≤ length ps = omega (arith, w, length_push (keys_in ps) k, keys_len ps) in z))
    where
      j : ℕ
      j = r.repeats.0

      low : j < i
      low = r.repeats.1

      by : (i ≡ length ps) ⊎ (i < length ps)
          → ((i < length ps) × IsFirstRepeat (keys_in ps) i)
          ⊎ ((i ≡ length ps) × (0 < length ps) × NoRepeat (keys_in ps) × (is_among (keys_after ps []) k ≡ true))
      by (inl e) =
          let all : take i (keys_in ps ++ k ∷ []) ≡ keys_in ps =
          take-append-le i (keys_in ps) (k ∷ []) (omega (arith, keys_len ps)) ∙ take_all i (keys_in ps) (omega (arith, keys_len ps)) in
          inr (
            e,
            omega (arith, low),
            subst NoRepeat all r.first,
            met_at ps [] k j (omega (arith, low)) (sym (before j (omega (arith, low))) ∙ r.repeats.2 ∙ ap (λ n. get_or (keys_in ps ++ k ∷ []) n []) e ∙ last),
          )
      by (inr h) =
          let front : take i (keys_in ps ++ k ∷ []) ≡ take i (keys_in ps) = take-append-le i (keys_in ps) (k ∷ []) (omega (arith, keys_len ps)) in
          inl (
            h,
            record {
              within = omega (arith, keys_len ps);
              repeats = (j, low, sym (before j (omega (arith, low))) ∙ r.repeats.2 ∙ before i h);
              first = subst NoRepeat front r.first;
            },
          )

  pub repeat_push : (i : ℕ) → IsFirstRepeat (keys_in (ps ++ (k, t) ∷ [])) i
      → ((i < length ps) × IsFirstRepeat (keys_in ps) i)
      ⊎ ((i ≡ length ps) × (0 < length ps) × NoRepeat (keys_in ps) × (is_among (keys_after ps []) k ≡ true))
  repeat_push i r = repeats i (subst (λ (ks : List (List ℕ)). IsFirstRepeat ks i) (keys_push ps k t) r)

pub first_none : (i : ℕ) → IsFirstRepeat (keys_in []) i → ⊥
first_none i r = let w = r.within in omega arith

-- ---- a key that is looked for

pair_key : (ps : List Pair) (i : ℕ) (p : Pair) → i < length ps → p ≡ get_or ps i p → get_or (keys_in ps) i [] ≡ p.0
pair_key [] i p h e = absurd (omega arith)
pair_key (x ∷ ps) zero p h e = ap (λ (z : Pair). z.0) (sym e)
pair_key (x ∷ ps) (suc i) p h e = pair_key ps i p (omega arith) e

pub met_pair : (ps : List Pair) (q : List ℕ) (i : ℕ) (p : Pair) → i < length ps → p ≡ get_or ps i p → p.0 ≡ q → is_among (keys_after ps []) q ≡ true
met_pair ps q i p h e same = met_at ps [] q i h (pair_key ps i p h e ∙ same)

pub not_met : (ps : List Pair) (q : List ℕ) (i : ℕ) → ((j : ℕ) → j < i → get_or (keys_in ps) j [] ≢ q) → length ps ≤ i → is_among (keys_after ps []) q ≡ false
not_met ps q i none h = met_none ps [] q (λ j l. none j (omega arith)) refl

pub none_more : (ps : List Pair) (q : List ℕ) (i : ℕ) (p : Pair) → ((j : ℕ) → j < i → get_or (keys_in ps) j [] ≢ q) → i < length ps → p ≡ get_or ps i p
    → p.0 ≢ q → (j : ℕ) → j < i + 1 → get_or (keys_in ps) j [] ≢ q
none_more ps q i p none h e other j l = by (eq-or-lt_of_le (let z : j ≤ i = omega arith in z))
  where
    by : (j ≡ i) ⊎ (j < i) → get_or (keys_in ps) j [] ≢ q
    by (inl same) = λ s. other (sym (pair_key ps i p h e) ∙ ap (λ n. get_or (keys_in ps) n []) (sym same) ∙ s)
    by (inr low) = none j low

pub differ : (p q : List ℕ) → pointwise nat_eq p q ≡ false → p ≢ q
differ p q h = λ e. let y = is_same p q e in cc

pub same_key : (p q : List ℕ) → pointwise nat_eq p q ≡ true → p ≡ q
same_key p q h = (bytes_eq-Decides p q).0 h
