-- The columns of a text.
use Rattle.std.proofs.Common.{◌≡◌, ℕ, ◌+◌, ◌<◌, Bool, false, List, ◌++◌, length, get_or, drop, Option, ap, sym, ◌∙◌, arith, length-append}
use Rattle.std.specs.Char.Utf16.{is_high_surrogate}
use Rattle.rb_printer.specs.Sign.{first_unit, unit_chars, units_chars, text_chars}
use Rattle.rb_printer.proofs.Loops.{units_next}

-- with the units from one on, a text has these columns, which are less than a line's
pub record Measured (us : List ℕ) (width i : ℕ) (after : Bool) : Type 0 where
  pub columns : width + length (units_chars (drop i us) after) ≡ length (text_chars false us)
  pub few : width < 100

wider : (us : List ℕ) (width i u n : ℕ) (next : Option ℕ) (after high : Bool) → Measured us width i after → i < length us → u ≡ get_or us i 0
    → next ≡ first_unit (drop (i + 1) us) → high ≡ is_high_surrogate u → n ≡ length (unit_chars after u next)
    → width + n + length (units_chars (drop (i + 1) us) high) ≡ length (text_chars false us)
wider us width i u n next after high m h e f g w =
    let later = units_chars (drop (i + 1) us) high in
    let left : units_chars (drop i us) after ≡ unit_chars after u next ++ later =
    units_next us i after h ∙ ap (λ (x : ℕ). unit_chars after x (first_unit (drop (i + 1) us)) ++ units_chars (drop (i + 1) us) (is_high_surrogate x)) (sym e)
    ∙ ap (λ (b : Bool). unit_chars after u (first_unit (drop (i + 1) us)) ++ units_chars (drop (i + 1) us) b) (sym g)
    ∙ ap (λ (o : Option ℕ). unit_chars after u o ++ later) (sym f) in
    omega (arith, m.columns, ap length left, length-append (unit_chars after u next) later, w)

pub measure_more : (us : List ℕ) (width i u n : ℕ) (next : Option ℕ) (after high : Bool) → Measured us width i after → i < length us → u ≡ get_or us i 0
    → next ≡ first_unit (drop (i + 1) us) → high ≡ is_high_surrogate u → n ≡ length (unit_chars after u next) → width + n < 100
    → Measured us (width + n) (i + 1) high
measure_more us width i u n next after high m h e f g w few = record { columns = wider us width i u n next after high m h e f g w; few = few }
