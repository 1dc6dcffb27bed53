-- Proves that a text spells at most one number and at most one list of bytes.
use Rattle.std.proofs.Common.{◌≡◌, ℕ, ℤ, ◌<◌, ◌≤◌, Bool, true, false, List, [], ◌∷◌, refl, sym, ap, subst, ◌∙◌, arith}
use Rattle.std.specs.Prelude.{◌==◌, ◌+◌, ◌*◌, if◌then◌else◌}
use Rattle.std.specs.Char.{digit_value}
use Rattle.std.proofs.lemmas.Bool.{eqb-true, ne_eqb}
use Rattle.rb_grammar.specs.Numeral.{Sign, bare, plus, minus, Numeral, hexadecimal, octal, decimal, sign_units, numeral_units, IsNumeral, numeral_value}
use Rattle.rb_grammar.specs.Numeral.{is_minus, Writes, IsIntText, int_kept, IsElementText, element_kept, pairs_digits, pairs_bytes, IsHexText}
use Rattle.rb_grammar.specs.Shape.{shape, after_0, sign_of, unsigned_of}
use Rattle.rb_grammar.specs.Tests.{numeral_of}

-- ---- the numeral that some units can be

apart : (d u : ℕ) → (d ≡ u → ⊥) → (d == u) ≡ false
apart d u other = ne_eqb d u other

digit_not : (d u radix : ℕ) → digit_value d < radix → radix ≤ digit_value u → (d == u) ≡ false
digit_not d u radix below above = apart d u (λ e. let same : digit_value d ≡ digit_value u = ap digit_value e in absurd (omega arith))

-- a numeral is the shape of its units
pub shape_is : (n : Numeral) → IsNumeral n → shape (numeral_units n) ≡ n
shape_is (hexadecimal true ds) good = refl
shape_is (hexadecimal false ds) good = refl
shape_is (octal []) good = refl
shape_is (octal (d ∷ ds)) good = rw (digit_not d 0x58 8 good.0 (omega arith), digit_not d 0x78 8 good.0 (omega arith)) refl
shape_is (decimal []) good = absurd good.0
shape_is (decimal (d ∷ ds)) good = rw (apart d 0x30 (λ e. let same : digit_value d ≡ 0 = ap digit_value e in absurd (omega (arith, good.0)))) refl

-- no numeral begins with a sign
unsigned_numeral : (n : Numeral) → IsNumeral n → (sign_of (numeral_units n) ≡ bare) × (unsigned_of (numeral_units n) ≡ numeral_units n)
unsigned_numeral (hexadecimal upper ds) good = (refl, refl)
unsigned_numeral (octal ds) good = (refl, refl)
unsigned_numeral (decimal []) good = absurd good.0
unsigned_numeral (decimal (d ∷ ds)) good =
    let no_plus = digit_not d 0x2B 10 good.1.0 (omega arith) in
    let no_minus = digit_not d 0x2D 10 good.1.0 (omega arith) in
    (rw (no_plus, no_minus) refl, rw (no_plus, no_minus) refl)

pub sign_is : (s : Sign) (n : Numeral) → IsNumeral n → (sign_of (sign_units s (numeral_units n)) ≡ s) × (numeral_of (sign_units s (numeral_units n)) ≡ n)
sign_is bare n good = let u = unsigned_numeral n good in (u.0, ap shape u.1 ∙ shape_is n good)
sign_is plus n good = (refl, shape_is n good)
sign_is minus n good = (refl, shape_is n good)

pub record Shaped (units : List ℕ) (negative : Bool) (size : ℕ) : Type 0 where
  pub good : IsNumeral (numeral_of units)
  pub negative_is : negative ≡ is_minus (sign_of units)
  pub size_is : size ≡ numeral_value (numeral_of units)

pub shaped : (units : List ℕ) (negative : Bool) (size : ℕ) → Writes units negative size → Shaped units negative size
shaped units negative size w =
    let s = sign_is w.sign w.numeral w.good in
    let sign : sign_of units ≡ w.sign = ap sign_of w.spelled ∙ s.0 in
    let numeral : numeral_of units ≡ w.numeral = ap numeral_of w.spelled ∙ s.1 in
    record {
      good = subst IsNumeral (sym numeral) w.good;
      negative_is = w.negative_is ∙ ap is_minus (sym sign);
      size_is = w.size_is ∙ ap numeral_value (sym numeral);
    }

-- units are those of their sign and shape
after_units : (us : List ℕ) → numeral_units (after_0 us) ≡ 0x30 ∷ us
after_units [] = refl
after_units (u ∷ us) = by (u == 0x58) (u == 0x78) refl refl where
  by : (b c : Bool) → (u == 0x58) ≡ b → (u == 0x78) ≡ c → numeral_units
      (if b then hexadecimal true us else (if c then hexadecimal false us else octal (u ∷ us))) ≡ 0x30 ∷ u ∷ us
  by true c e f = ap (λ x. 0x30 ∷ x ∷ us) (sym (eqb-true u 0x58 e))
  by false true e f = ap (λ x. 0x30 ∷ x ∷ us) (sym (eqb-true u 0x78 f))
  by false false e f = refl

shape_units : (us : List ℕ) → numeral_units (shape us) ≡ us
shape_units [] = refl
shape_units (u ∷ us) = by (u == 0x30) refl where
  by : (b : Bool) → (u == 0x30) ≡ b → numeral_units (if b then after_0 us else decimal (u ∷ us)) ≡ u ∷ us
  by true e = after_units us ∙ ap (λ x. x ∷ us) (sym (eqb-true u 0x30 e))
  by false e = refl

sign_back : (us : List ℕ) → sign_units (sign_of us) (unsigned_of us) ≡ us
sign_back [] = refl
sign_back (u ∷ us) = by (u == 0x2B) (u == 0x2D) refl refl where
  by : (b c : Bool) → (u == 0x2B) ≡ b → (u == 0x2D) ≡ c → sign_units (if b then plus else (if c then minus else bare))
      (if b then us else (if c then us else u ∷ us)) ≡ u ∷ us
  by true c e f = ap (λ x. x ∷ us) (sym (eqb-true u 0x2B e))
  by false true e f = ap (λ x. x ∷ us) (sym (eqb-true u 0x2D f))
  by false false e f = refl

pub written : (us : List ℕ) → IsNumeral (numeral_of us) → Writes us (is_minus (sign_of us)) (numeral_value (numeral_of us))
written us good = record {
  sign = sign_of us;
  numeral = numeral_of us;
  good = good;
  spelled = sym (ap (sign_units (sign_of us)) (shape_units (unsigned_of us)) ∙ sign_back us);
  negative_is = refl;
  size_is = refl;
}

-- ---- one value

two : {A : Type 0} (kept : Bool → ℕ → A) (a b : Bool) (m n : ℕ) → a ≡ b → m ≡ n → kept a m ≡ kept b n
two kept a b m n p q = ap (λ x. kept x m) p ∙ ap (kept b) q

pub int_one : (s : List ℕ) (m n : ℕ) → IsIntText s m → IsIntText s n → m ≡ n
int_one s m n p q =
    let a = shaped s p.0 p.1 p.2 in
    let b = shaped s q.0 q.1 q.2 in
    p.4 ∙ two int_kept p.0 q.0 p.1 q.1 (a.negative_is ∙ sym b.negative_is) (a.size_is ∙ sym b.size_is) ∙ sym q.4

pub element_one : (s : List ℕ) (y z : ℤ) → IsElementText s y → IsElementText s z → y ≡ z
element_one s y z p q =
    let a = shaped s p.0 p.1 p.2 in
    let b = shaped s q.0 q.1 q.2 in
    p.4 ∙ two element_kept p.0 q.0 p.1 q.1 (a.negative_is ∙ sym b.negative_is) (a.size_is ∙ sym b.size_is) ∙ sym q.4

digits_one : (ps qs : List (ℕ × ℕ)) → pairs_digits ps ≡ pairs_digits qs → pairs_bytes ps ≡ pairs_bytes qs
digits_one [] [] e = refl
digits_one [] (q ∷ qs) e = absurd cc
digits_one (p ∷ ps) [] e = absurd cc
digits_one (p ∷ ps) (q ∷ qs) e =
    let first : p.0 ≡ q.0 = cc in
    let second : p.1 ≡ q.1 = cc in
    let rest = digits_one ps qs cc in
    two (λ (b : Bool) (d : ℕ). (16 * digit_value d + digit_value p.1) ∷ pairs_bytes ps) true true p.0 q.0 refl first
    ∙ ap (λ d. (16 * digit_value q.0 + digit_value d) ∷ pairs_bytes ps) second ∙ ap (λ bs. (16 * digit_value q.0 + digit_value q.1) ∷ bs) rest

pub bytes_one : (s bs cs : List ℕ) → IsHexText s bs → IsHexText s cs → bs ≡ cs
bytes_one s bs cs p q = p.3 ∙ digits_one p.0 q.0 (sym p.2 ∙ q.2) ∙ sym q.3
