-- Proves that the function reads exactly the escapes.
use Rattle.std.proofs.Common.{◌≡◌, ◌≢◌, ℕ, zero, suc, ◌<◌, ◌≤◌, ◌||◌, ◌⊎◌, inl, inr, ⊎_elim, Bool, true, false, cond, eqb, ltb, not, nat_lt, List, [], ◌∷◌}
use Rattle.std.proofs.Common.{◌++◌, length, Option, Some, None, refl, sym, ap, ◌∙◌, arith, lt-ltb, le-ltb, ltb-false, eqb-true, IsTrue}
use Rattle.std.proofs.lemmas.Bool.Decides.{nat_tests}
use Rattle.std.specs.Char.{is_digit}
use Rattle.std.specs.List.{AllByRecursion}
use Rattle.std.specs.Str.Parse.{digits_value}
use Rattle.rb_lexer.specs.Lexeme.{Escape, four, eight, hex, octal, letter, escape_chars, escape_value, letter_value, IsEscape, begins}
use Rattle.rb_lexer.specs.Escapes.{digits_at, at_least, code_point, escape_at}
use Rattle.rb_lexer.proofs.Digits.{none_left, none_here, none_wanted, one_more}

abbrev pub Good : List ℕ → ℕ → List ℕ → Type 0
Good text value rest = (value ≤ 0x10FFFF) × ((e : Escape) × (escape_at text ≡ Some (e, rest)) × (value ≡ escape_value e))

pub enough : (least : ℕ) (kind : List ℕ → Escape) (x : List ℕ × List ℕ) → least ≤ length x.0 → at_least least kind x ≡ Some (kind x.0, x.1)
enough least kind x h = rw (le-ltb (length x.0) least h) refl

pub too_few : (least : ℕ) (kind : List ℕ → Escape) (x : List ℕ × List ℕ) → length x.0 < least → at_least least kind x ≡ None
too_few least kind x h = rw (lt-ltb (length x.0) least h) refl

octal_only : (c : ℕ) → is_digit c 8 ≡ true → (48 ≤ c) × (c ≤ 55)
octal_only c h = grind (arith, nat_tests)

pub nothing_read : escape_at [] ≡ None
unfolding escape_at
nothing_read = refl

module _ (cs : List ℕ) where
  pub u_read : escape_at (0x75 ∷ cs) ≡ at_least 4 four (digits_at 16 4 cs)
  unfolding escape_at
  u_read = refl

  pub long_read : escape_at (0x55 ∷ cs) ≡ code_point (digits_at 16 8 cs)
  unfolding escape_at
  long_read = refl

  pub x_read : escape_at (0x78 ∷ cs) ≡ at_least 1 hex (digits_at 16 2 cs)
  unfolding escape_at
  x_read = refl

  pub c_read : escape_at (0x63 ∷ cs) ≡ None
  unfolding escape_at
  c_read = refl

  pub octal_read : (c : ℕ) → is_digit c 8 ≡ true → escape_at (c ∷ cs) ≡ at_least 1 octal (digits_at 8 3 (c ∷ cs))
  unfolding escape_at
  octal_read c h =
      let k = octal_only c h in
      let u : eqb c 0x75 ≡ false = grind (arith, nat_tests) in
      let l : eqb c 0x55 ≡ false = grind (arith, nat_tests) in
      let x : eqb c 0x78 ≡ false = grind (arith, nat_tests) in
      rw (u, l, x, h) refl

  pub letter_read : (c : ℕ) → eqb c 0x75 ≡ false → eqb c 0x55 ≡ false → eqb c 0x78 ≡ false → is_digit c 8 ≡ false → eqb c 0x63 ≡ false
      → escape_at (c ∷ cs) ≡ Some (letter c, cs)
  unfolding escape_at
  letter_read c u l x o k = rw (u, l, x, o, k) refl

-- ---- what the code answers
module _ (text cs : List ℕ) (value count : ℕ) (rest : List ℕ) where
  pub u_found : text ≡ 0x75 ∷ cs → value ≡ digits_value 16 (digits_at 16 4 cs).0 → count ≡ length (digits_at 16 4 cs).0 → value < 65536
      → rest ≡ (digits_at 16 4 cs).1 → count ≡ 4 → Good text value rest
  u_found e is_value is_count below is_rest all =
      (omega arith, (four (digits_at 16 4 cs).0, rw (e, is_rest) (u_read cs ∙ enough 4 four (digits_at 16 4 cs) (omega arith)), is_value))

  pub u_missed : text ≡ 0x75 ∷ cs → count ≡ length (digits_at 16 4 cs).0 → count ≤ 4 → count ≢ 4 → escape_at text ≡ None
  u_missed e is_count few not_all = rw e (u_read cs ∙ too_few 4 four (digits_at 16 4 cs) (omega arith))

  pub long_found : text ≡ 0x55 ∷ cs → value ≡ digits_value 16 (digits_at 16 8 cs).0 → count ≡ length (digits_at 16 8 cs).0 → rest ≡ (digits_at 16 8 cs).1
      → count ≡ 8 → value ≤ 0x10FFFF → Good text value rest
  long_found e is_value is_count is_rest all below =
      let digits : ltb (length (digits_at 16 8 cs).0) 8 ≡ false = le-ltb (length (digits_at 16 8 cs).0) 8 (omega arith) in
      let small : ltb 0x10FFFF (digits_value 16 (digits_at 16 8 cs).0) ≡ false = le-ltb 0x10FFFF (digits_value 16 (digits_at 16 8 cs).0) (omega arith) in
      (below, (eight (digits_at 16 8 cs).0, rw (e, is_rest) (long_read cs ∙ rw (digits, small) refl), is_value))

  pub long_short : text ≡ 0x55 ∷ cs → count ≡ length (digits_at 16 8 cs).0 → count ≤ 8 → count ≢ 8 → escape_at text ≡ None
  long_short e is_count few not_all = rw e (long_read cs ∙ rw (lt-ltb (length (digits_at 16 8 cs).0) 8 (omega arith)) refl)

  pub long_large : text ≡ 0x55 ∷ cs → value ≡ digits_value 16 (digits_at 16 8 cs).0 → count ≡ length (digits_at 16 8 cs).0 → count ≡ 8 → 0x10FFFF < value
      → escape_at text ≡ None
  long_large e is_value is_count all large =
      let digits : ltb (length (digits_at 16 8 cs).0) 8 ≡ false = le-ltb (length (digits_at 16 8 cs).0) 8 (omega arith) in
      let above : ltb 0x10FFFF (digits_value 16 (digits_at 16 8 cs).0) ≡ true = lt-ltb 0x10FFFF (digits_value 16 (digits_at 16 8 cs).0) (omega arith) in
      rw e (long_read cs ∙ rw (digits, above) refl)

  pub x_found : text ≡ 0x78 ∷ cs → value ≡ digits_value 16 (digits_at 16 2 cs).0 → count ≡ length (digits_at 16 2 cs).0 → value < 256
      → rest ≡ (digits_at 16 2 cs).1 → 0 < count → Good text value rest
  x_found e is_value is_count below is_rest all =
      (omega arith, (hex (digits_at 16 2 cs).0, rw (e, is_rest) (x_read cs ∙ enough 1 hex (digits_at 16 2 cs) (omega arith)), is_value))

  pub x_missed : text ≡ 0x78 ∷ cs → count ≡ length (digits_at 16 2 cs).0 → count ≤ 0 → escape_at text ≡ None
  x_missed e is_count none = rw e (x_read cs ∙ too_few 1 hex (digits_at 16 2 cs) (omega arith))

  pub octal_found : (c : ℕ) → text ≡ c ∷ cs → is_digit c 8 ≡ true → value ≡ digits_value 8 (digits_at 8 3 text).0 → value < 4096 → rest ≡ (digits_at 8 3 text).1
      → Good text value rest
  octal_found c e digit is_value below is_rest =
      let some : 1 ≤ length (digits_at 8 3 (c ∷ cs)).0 = rw (one_more 8 2 c cs digit) (omega arith) in (
        omega arith,
        (
          octal (digits_at 8 3 (c ∷ cs)).0,
          rw (is_rest, e) (octal_read cs c digit ∙ enough 1 octal (digits_at 8 3 (c ∷ cs)) some),
          is_value
              ∙ rw e refl,
        ),
      )

  pub letter_found : (c : ℕ) → text ≡ c ∷ cs → c ≤ 0x10FFFF → c ≢ 0x75 → c ≢ 0x55 → c ≢ 0x78 → is_digit c 8 ≡ false → c ≢ 0x63 → value ≡ letter_value c
      → Good text value cs
  letter_found c e scalar u l x o k is_value =
      let read = letter_read cs c (grind (arith, nat_tests)) (grind (arith, nat_tests)) (grind (arith, nat_tests)) o (grind (arith, nat_tests)) in
      (rw is_value (letter_small c scalar), (letter c, rw e read, is_value))
    where
      letter_small : (c : ℕ) → c ≤ 0x10FFFF → letter_value c ≤ 0x10FFFF
      letter_small c h = grind (arith, nat_tests)

-- ---- what is read is an escape
abbrev AllDigits : ℕ → List ℕ → Type 0
AllDigits radix ds = AllByRecursion (λ c. IsTrue (is_digit c radix)) ds

record Run (radix n : ℕ) (cs ds rest : List ℕ) : Type 0 where
  spelled : cs ≡ ds ++ rest
  digits : AllDigits radix ds
  few : length ds ≤ n
  all : length ds < n → IsTrue (not (begins (λ c. is_digit c radix) rest))

run_step : (radix n c : ℕ) (cs : List ℕ) → Run radix n cs (digits_at radix n cs).0 (digits_at radix n cs).1 → (b : Bool) → is_digit c radix ≡ b
    → Run radix (suc n) (c ∷ cs) (digits_at radix (suc n) (c ∷ cs)).0 (digits_at radix (suc n) (c ∷ cs)).1
run_step radix n c cs r true e =
    rw (one_more radix n c cs e) (record {
      spelled = ap (λ (xs : List ℕ). c ∷ xs) r.spelled;
      digits = (e, r.digits);
      few = omega (arith, r.few);
      all = λ h. r.all (omega arith);
    })
run_step radix n c cs r false e = rw (none_here radix (suc n) c cs e) (record { spelled = refl; digits = tt; few = omega arith; all = λ h. rw e refl })

run_of : (radix n : ℕ) (cs : List ℕ) → Run radix n cs (digits_at radix n cs).0 (digits_at radix n cs).1
run_of radix zero cs = rw (none_wanted radix cs) (record { spelled = refl; digits = tt; few = omega arith; all = λ h. absurd (omega arith) })
run_of radix (suc n) [] = rw (none_left radix (suc n)) (record { spelled = refl; digits = tt; few = omega arith; all = λ h. refl })
run_of radix (suc n) (c ∷ cs) = run_step radix n c cs (run_of radix n cs) (is_digit c radix) refl

run_again : (radix n : ℕ) (ds rest : List ℕ) → AllDigits radix ds → length ds ≤ n → (length ds < n → IsTrue (not (begins (λ c. is_digit c radix) rest)))
    → digits_at radix n (ds ++ rest) ≡ (ds, rest)
run_again radix zero [] rest digits few all = none_wanted radix rest
run_again radix zero (d ∷ ds) rest digits few all = absurd (omega arith)
run_again radix (suc n) [] [] digits few all = none_left radix (suc n)
run_again radix (suc n) [] (c ∷ rest) digits few all = none_here radix (suc n) c rest (not_true (is_digit c radix) (all (omega arith)))
  where
    not_true : (b : Bool) → not b ≡ true → b ≡ false
    not_true true e = cc
    not_true false e = refl
run_again radix (suc n) (d ∷ ds) rest digits few all =
    let again = run_again radix n ds rest digits.1 (omega arith) (λ h. all (omega arith)) in
    one_more radix n d (ds ++ rest) digits.0 ∙ rw again refl

chosen : {A : Type 0} (b : Bool) (x y z : A) → cond b x y ≡ z → ((b ≡ true) × (x ≡ z)) ⊎ ((b ≡ false) × (y ≡ z))
chosen true x y z e = inl (refl, e)
chosen false x y z e = inr (refl, e)

escape_or : Escape → Option (Escape × List ℕ) → Escape
escape_or e None = e
escape_or e (Some x) = x.0

rest_or : List ℕ → Option (Escape × List ℕ) → List ℕ
rest_or r None = r
rest_or r (Some x) = x.1

some_same : {a b : Escape} {r s : List ℕ} → ◌≡◌ {A = Option (Escape × List ℕ)} (Some (a, r)) (Some (b, s)) → (a ≡ b) × (r ≡ s)
unfolding escape_or rest_or
some_same {a} {b} {r} {s} q = (ap (escape_or a) q, ap (rest_or r) q)

no_some : {y : Escape × List ℕ} → ◌≡◌ {A = Option (Escape × List ℕ)} None (Some y) → ⊥
no_some q = cc

kept : (least : ℕ) (kind : List ℕ → Escape) (x : List ℕ × List ℕ) (e : Escape) (rest : List ℕ) → at_least least kind x ≡ Some (e, rest)
    → (least ≤ length x.0) × (e ≡ kind x.0) × (rest ≡ x.1)
kept least kind x e rest h =
    ⊎_elim (λ k. absurd (no_some k.1)) (λ k. (ltb-false (length x.0) least k.0, sym (some_same k.1).0, sym (some_same k.1).1))
    (chosen (nat_lt (length x.0) least) None (Some (kind x.0, x.1)) (Some (e, rest)) h)

abbrev Takes : List ℕ → Escape → List ℕ → Type 0
Takes cs e rest = (cs ≡ escape_chars e rest) × IsEscape e rest

u_takes : (cs : List ℕ) (e : Escape) (rest : List ℕ) → at_least 4 four (digits_at 16 4 cs) ≡ Some (e, rest) → Takes (0x75 ∷ cs) e rest
u_takes cs e rest h =
    let k = kept 4 four (digits_at 16 4 cs) e rest h in
    let r = run_of 16 4 cs in
    rw (k.1, k.2) (ap (λ (xs : List ℕ). 0x75 ∷ xs) r.spelled, record { digits = r.digits; least_len = k.0; most_len = r.few; all = r.all })

x_takes : (cs : List ℕ) (e : Escape) (rest : List ℕ) → at_least 1 hex (digits_at 16 2 cs) ≡ Some (e, rest) → Takes (0x78 ∷ cs) e rest
x_takes cs e rest h =
    let k = kept 1 hex (digits_at 16 2 cs) e rest h in
    let r = run_of 16 2 cs in
    rw (k.1, k.2) (ap (λ (xs : List ℕ). 0x78 ∷ xs) r.spelled, record { digits = r.digits; least_len = k.0; most_len = r.few; all = r.all })

octal_takes : (cs : List ℕ) (e : Escape) (rest : List ℕ) → at_least 1 octal (digits_at 8 3 cs) ≡ Some (e, rest) → Takes cs e rest
octal_takes cs e rest h =
    let k = kept 1 octal (digits_at 8 3 cs) e rest h in
    let r = run_of 8 3 cs in
    rw (k.1, k.2) (r.spelled, record { digits = r.digits; least_len = k.0; most_len = r.few; all = r.all })

long_with : (cs : List ℕ) (e : Escape) (rest : List ℕ) → ltb (length (digits_at 16 8 cs).0) 8 ≡ false
    → ltb 0x10FFFF (digits_value 16 (digits_at 16 8 cs).0) ≡ false → (eight (digits_at 16 8 cs).0 ≡ e) × ((digits_at 16 8 cs).1 ≡ rest)
    → Takes (0x55 ∷ cs) e rest
long_with cs e rest enough small same =
    let r = run_of 16 8 cs in
    rw (sym same.0, sym same.1) (
      ap (λ (xs : List ℕ). 0x55 ∷ xs) r.spelled,
      (
        record { digits = r.digits; least_len = ltb-false (length (digits_at 16 8 cs).0) 8 enough; most_len = r.few; all = r.all },
        ltb-false 0x10FFFF (digits_value 16 (digits_at 16 8 cs).0) small,
      ),
    )

long_takes : (cs : List ℕ) (e : Escape) (rest : List ℕ) → code_point (digits_at 16 8 cs) ≡ Some (e, rest) → Takes (0x55 ∷ cs) e rest
long_takes cs e rest h =
    let x = digits_at 16 8 cs in
    ⊎_elim (λ k. absurd (no_some k.1))
    (λ k. ⊎_elim (λ m. absurd (no_some m.1))
    (λ m. long_with cs e rest k.0 m.0 (some_same m.1))
    (chosen (nat_lt 0x10FFFF (digits_value 16 x.0)) None (Some (eight x.0, x.1)) (Some (e, rest)) k.1))
    (chosen (nat_lt (length x.0) 8) None (cond (nat_lt 0x10FFFF (digits_value 16 x.0)) None (Some (eight x.0, x.1))) (Some (e, rest)) h)

none_of : (a b c d f : Bool) → a ≡ false → b ≡ false → c ≡ false → d ≡ false → f ≡ false → IsTrue (not (((((a || b) || c)) || d) || f))
none_of a b c d f ha hb hc hd hf = rw (ha, hb, hc, hd, hf) refl

all_false : (a b c d f : Bool) → IsTrue (not ((((a || b) || c) || d) || f)) → (a ≡ false) × (b ≡ false) × (c ≡ false) × (d ≡ false) × (f ≡ false)
all_false false false false false false h = (refl, refl, refl, refl, refl)
all_false true b c d f h = cc
all_false false true c d f h = cc
all_false false false true d f h = cc
all_false false false false true f h = cc
all_false false false false false true h = cc

letter_with : (c : ℕ) (cs : List ℕ) (e : Escape) (rest : List ℕ) → (letter c ≡ e) × (cs ≡ rest) → IsEscape (letter c) cs → Takes (c ∷ cs) e rest
letter_with c cs e rest same good = rw (sym same.0, sym same.1) (refl, good)

-- The function reads only escapes.
pub escape_takes : (cs : List ℕ) (e : Escape) (rest : List ℕ) → escape_at cs ≡ Some (e, rest) → Takes cs e rest
unfolding escape_at
escape_takes [] e rest h = absurd (no_some h)
escape_takes (c ∷ cs) e rest h =
    ⊎_elim (λ k. rw (eqb-true c 0x75 k.0) (u_takes cs e rest k.1))
    (λ u. ⊎_elim (λ k. rw (eqb-true c 0x55 k.0) (long_takes cs e rest k.1))
    (λ l. ⊎_elim (λ k. rw (eqb-true c 0x78 k.0) (x_takes cs e rest k.1))
    (λ x. ⊎_elim (λ k. octal_takes (c ∷ cs) e rest k.1)
    (λ o. ⊎_elim (λ k. absurd (no_some k.1))
    (λ k. letter_with c cs e rest (some_same k.1) (none_of _ _ _ _ _ o.0 u.0 l.0 x.0 k.0))
    (chosen (eqb c 0x63) _ _ _ o.1))
    (chosen (is_digit c 8) _ _ _ x.1))
    (chosen (eqb c 0x78) _ _ _ l.1))
    (chosen (eqb c 0x55) _ _ _ u.1))
    (chosen (eqb c 0x75) _ _ _ h)

-- An escape is read.
pub escape_again : (e : Escape) (rest : List ℕ) → IsEscape e rest → escape_at (escape_chars e rest) ≡ Some (e, rest)
escape_again (four ds) rest h = u_read (ds ++ rest) ∙ rw (run_again 16 4 ds rest h.digits h.most_len h.all) (enough 4 four (ds, rest) h.least_len)
escape_again (eight ds) rest h =
    long_read (ds ++ rest) ∙ rw (
      run_again 16 8 ds rest h.0.digits h.0.most_len h.0.all,
      le-ltb (length ds) 8 h.0.least_len,
      le-ltb 0x10FFFF (digits_value 16 ds) h.1,
    ) refl
escape_again (hex ds) rest h = x_read (ds ++ rest) ∙ rw (run_again 16 2 ds rest h.digits h.most_len h.all) (enough 1 hex (ds, rest) h.least_len)
escape_again (octal []) rest h = absurd (omega (arith, h.least_len))
escape_again (octal (d ∷ ds)) rest h =
    octal_read (ds ++ rest) d h.digits.0 ∙ rw (run_again 8 3 (d ∷ ds) rest h.digits h.most_len h.all) (enough 1 octal (d ∷ ds, rest) h.least_len)
escape_again (letter c) rest h =
    let k = all_false (is_digit c 8) (eqb c 0x75) (eqb c 0x55) (eqb c 0x78) (eqb c 0x63) h in
    letter_read rest c k.1 k.2 k.3 k.0 k.4

pub escape_one : (e f : Escape) (r s : List ℕ) → IsEscape e r → IsEscape f s → escape_chars e r ≡ escape_chars f s → (e ≡ f) × (r ≡ s)
escape_one e f r s good other same = some_same (sym (escape_again e r good) ∙ ap escape_at same ∙ escape_again f s other)

pub no_escape : (cs : List ℕ) → escape_at cs ≡ None → (e : Escape) (rest : List ℕ) → cs ≡ escape_chars e rest → IsEscape e rest → ⊥
no_escape cs none e rest same good = no_some (sym none ∙ ap escape_at same ∙ escape_again e rest good)
