use Rattle.std.proofs.Common.{◌≡◌, ◌<◌, ◌+◌, ◌*◌, false, rules, lt-ltb, le-ltb, arith, ℕ, ◌^◌, ◌≤◌}
use Rattle.std.specs.Str.{chars}
use Rattle.std.specs.Char.{is_digit, digit_value}
use Rattle.rb_lexer.proofs.Digits.{Done, begins_so, ends_so, no_digit_so, full_so, no_wrap, goes_on_so}
use Rattle.rb_lexer.proofs.escape.digits.Goals as goal

not_digit : (c radix : ℕ) → radix ≤ digit_value c → is_digit c radix ≡ false
not_digit c radix h = le-ltb (digit_value c) radix h

pub digits-init : goal.digits-init
digits-init c = record { text = c.utf8.text; so_far = begins_so c.args.radix c.args.most (chars c.args.text.now); no_longer = omega arith }

pub returns-in_default : goal.returns-in_default
returns-in_default c =
    let d : Done c.args.radix c.args.most (chars c.args.text.now) c.digits.value c.digits.count (chars c.digits.rest.now) =
    ends_so _ _ _ _ _ _ c.digits.invariant.so_far c.in_default.ensures.taken in
    record { value = d.is_value; count = d.is_count; below = d.below; few = d.no_more; no_longer = omega arith; rest = d.is_rest }

pub returns-in_default-to_digit : goal.returns-in_default-to_digit
returns-in_default-to_digit c =
    let d : Done c.args.radix c.args.most (chars c.args.text.now) c.digits.value c.digits.count (chars c.digits.rest.now) =
    no_digit_so _ _ _ _ _ _ c.digits.invariant.so_far c.in-Some.c _ c.in-Some.ensures.taken
    (not_digit c.in-Some.c c.args.radix (omega (arith, c.in_default-to_digit.ensures.value))) in
    record { value = d.is_value; count = d.is_count; below = d.below; few = d.no_more; no_longer = omega arith; rest = d.is_rest }

pub overflow_mul-value : goal.overflow_mul-value
overflow_mul-value c = let h : c.digits.value * c.args.radix + 0 < 2 ^ 32 =
    no_wrap _ _ _ _ _ _ c.digits.invariant.so_far c.requires.most_radix c.digits-test.true c.requires.most 0 (omega arith) in omega arith

pub overflow_add-value : goal.overflow_add-value
overflow_add-value c = let h : c.digits.value * c.args.radix + c.in-Some-to_digit.digit < 2 ^ 32 =
    no_wrap _ _ _ _ _ _ c.digits.invariant.so_far c.requires.most_radix c.digits-test.true c.requires.most c.in-Some-to_digit.digit
    (omega (arith, c.in-Some-to_digit.ensures.value)) in omega arith

pub digits-preserved : goal.digits-preserved
digits-preserved c =
    let below : digit_value c.in-Some.c < c.args.radix = c.in-Some-to_digit.ensures.value.0 in
    let h =
    goes_on_so _ _ _ _ _ _ c.digits.invariant.so_far c.in-Some.c _ c.in-Some.ensures.taken below (lt-ltb (digit_value c.in-Some.c) c.args.radix below)
    c.requires.most_radix c.digits-test.true in
    record { text = search rules; so_far = rw c.in-Some-to_digit.ensures.value.1 h; no_longer = omega (arith, c.in-Some.ensures.shorter) }

pub returns : goal.returns
returns c =
    let d : Done c.args.radix c.args.most (chars c.args.text.now) c.digits.value c.digits.count (chars c.digits.rest.now) =
    full_so _ _ _ _ _ _ c.digits.invariant.so_far c.digits-test.false in
    record { value = d.is_value; count = d.is_count; below = d.below; few = d.no_more; no_longer = omega arith; rest = d.is_rest }
