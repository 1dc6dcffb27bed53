-- Digits one at a time.
use Rattle.std.proofs.Common.{◌≡◌, ℕ, zero, suc, ◌+◌, ◌-◌, ◌*◌, ◌^◌, ◌<◌, ◌≤◌, true, false, List, [], ◌∷◌, length, refl, sym, ap, ◌∙◌, arith, pow-suc}
use Rattle.std.proofs.Common.{mul-le-mul_left, add-zero, add-one, zero-add, lit≤}
use Rattle.std.proofs.Math.Nat.{pow-le-pow_right}
use Rattle.std.specs.Char.{is_digit, digit_value}
use Rattle.std.specs.Str.Parse.{digits_value, digits_value_after}
use Rattle.rb_lexer.specs.Escapes.{digits_at}

-- the value of the digits that were read, followed by the remaining ones
pub record SoFar (radix most : ℕ) (text : List ℕ) (value count : ℕ) (rest : List ℕ) : Type 0 where
  pub value_is : digits_value_after radix value (digits_at radix (most - count) rest).0 ≡ digits_value radix (digits_at radix most text).0
  pub count_is : count + length (digits_at radix (most - count) rest).0 ≡ length (digits_at radix most text).0
  pub rest_is : (digits_at radix (most - count) rest).1 ≡ (digits_at radix most text).1
  pub fits : value < 16 ^ count
  pub few : count ≤ most

pub record Done (radix most : ℕ) (text : List ℕ) (value count : ℕ) (rest : List ℕ) : Type 0 where
  pub is_value : value ≡ digits_value radix (digits_at radix most text).0
  pub is_count : count ≡ length (digits_at radix most text).0
  pub is_rest : rest ≡ (digits_at radix most text).1
  pub below : value < 16 ^ most
  pub no_more : count ≤ most

pub none_left : (radix n : ℕ) → digits_at radix n [] ≡ ([], [])
unfolding digits_at
none_left radix zero = refl
none_left radix (suc n) = refl

pub none_here : (radix n c : ℕ) (cs : List ℕ) → is_digit c radix ≡ false → digits_at radix n (c ∷ cs) ≡ ([], c ∷ cs)
unfolding digits_at
none_here radix zero c cs no_digit = refl
none_here radix (suc n) c cs no_digit = rw no_digit refl

pub none_wanted : (radix : ℕ) (cs : List ℕ) → digits_at radix 0 cs ≡ ([], cs)
unfolding digits_at
none_wanted radix cs = refl

pub one_more : (radix n c : ℕ) (cs : List ℕ) → is_digit c radix ≡ true
    → digits_at radix (suc n) (c ∷ cs) ≡ (c ∷ (digits_at radix n cs).0, (digits_at radix n cs).1)
unfolding digits_at
one_more radix n c cs digit = rw digit refl

pub begins_so : (radix most : ℕ) (text : List ℕ) → SoFar radix most text 0 0 text
begins_so radix most text =
    let e : most - 0 ≡ most = omega arith in
    record { value_is = rw e refl; count_is = rw (e, zero-add) refl; rest_is = rw e refl; fits = omega arith; few = omega arith }

module _ (radix most : ℕ) (text : List ℕ) (value count : ℕ) (rest : List ℕ) (so_far : SoFar radix most text value count rest) where
  pub stops_so : digits_at radix (most - count) rest ≡ ([], rest) → Done radix most text value count rest
  stops_so e = record {
    is_value = sym (ap (λ (x : List ℕ × List ℕ). digits_value_after radix value x.0) e) ∙ so_far.value_is;
    is_count = sym (add-zero count) ∙ sym (ap (λ (x : List ℕ × List ℕ). count + length x.0) e) ∙ so_far.count_is;
    is_rest = sym (ap (λ (x : List ℕ × List ℕ). x.1) e) ∙ so_far.rest_is;
    below = let powers : 16 ^ count ≤ 16 ^ most = pow-le-pow_right (lit≤ {m = 1} tt) so_far.few in omega (arith, so_far.fits);
    no_more = so_far.few;
  }

  pub ends_so : rest ≡ [] → Done radix most text value count rest
  ends_so e = stops_so (rw e (none_left radix (most - count)))

  pub no_digit_so : (c : ℕ) (cs : List ℕ) → rest ≡ c ∷ cs → is_digit c radix ≡ false → Done radix most text value count rest
  no_digit_so c cs e no_digit = stops_so (rw e (none_here radix (most - count) c cs no_digit))

  pub full_so : most ≤ count → Done radix most text value count rest
  full_so full = let e : most - count ≡ 0 = omega arith in stops_so (rw e (none_wanted radix rest))

  pub product_so : radix ≤ 16 → value * radix ≤ value * 16
  product_so small = mul-le-mul_left value small

  pub power_so : count < most → most ≤ 8 → 16 ^ suc count ≤ 16 ^ 8
  power_so more few = let up : suc count ≤ 8 = omega arith in pow-le-pow_right (lit≤ {m = 1} tt) up

  pub no_wrap : radix ≤ 16 → count < most → most ≤ 8 → (d : ℕ) → d < 16 → value * radix + d < 2 ^ 32
  no_wrap small more few d digit = omega (arith, product_so small, power_so more few, pow-suc 16 count, so_far.fits)

  pub goes_on_so : (c : ℕ) (cs : List ℕ) → rest ≡ c ∷ cs → digit_value c < radix → is_digit c radix ≡ true → radix ≤ 16 → count < most
      → SoFar radix most text (value * radix + digit_value c) (count + 1) cs
  goes_on_so c cs e below digit small more =
      let left : most - count ≡ suc (most - (count + 1)) = omega arith in
      let step : digits_at radix (most - count) rest ≡ (c ∷ (digits_at radix (most - (count + 1)) cs).0, (digits_at radix (most - (count + 1)) cs).1) =
      rw (left, e) (one_more radix (most - (count + 1)) c cs digit) in
      record {
        value_is = sym (ap (λ (x : List ℕ × List ℕ). digits_value_after radix value x.0) step) ∙ so_far.value_is;
        count_is = omega (arith, ap (λ (x : List ℕ × List ℕ). length x.0) step, so_far.count_is);
        rest_is = sym (ap (λ (x : List ℕ × List ℕ). x.1) step) ∙ so_far.rest_is;
        fits = omega (arith, product_so small, pow-suc 16 count, so_far.fits, below, ap (λ k. 16 ^ k) (add-one count));
        few = omega arith;
      }
