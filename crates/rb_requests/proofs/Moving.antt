-- Runs of bytes that are moved from a reader's buffer onto a line.
use Rattle.std.proofs.Common.{◌≡◌, ◌<◌, ◌≤◌, ◌+◌, ℕ, zero, suc, Bool, true, false, cond, eqb, eqb-true, List, [], ◌∷◌, ◌++◌, length, take, get_or}
use Rattle.std.proofs.Common.{Option, refl, sym, ap, subst, ◌∙◌, arith, append-nil, get_or-take, take-take, length-take-le, length-append}
use Rattle.std.proofs.lemmas.List.{take_more}
use Rattle.std.specs.Io.KnownBytes.{Consumes}
use Rattle.memchr.specs.Find.{Nowhere, NoneBefore, Passes, is_byte}
use Rattle.rb_requests.specs.Lines.{feeds}
use Rattle.rb_requests.specs.Runs.{Moves}

no_feed : (b : Bool) (m : ℕ) → (b ≡ true → ⊥) → cond b 1 0 + m ≡ m
no_feed true m h = absurd (h refl)
no_feed false m h = omega arith

feeds_none : (xs : List ℕ) (e : ℕ) → Nowhere (Passes (is_byte 10) xs) 0 e → feeds (take e xs) ≡ 0
feeds_none xs zero h = refl
feeds_none [] (suc e) h = refl
feeds_none (x ∷ xs) (suc e) h =
    no_feed (eqb x 10) (feeds (take e xs)) (λ p. h 0 (omega arith) (omega arith) p)
    ∙ feeds_none xs e (λ k low high p. h (suc k) (omega arith) (omega arith) p)

pub moves_feed : (old new : Option (List ℕ)) (line line' held : List ℕ) (m most e : ℕ) → m ≤ most → m ≤ length held
    → NoneBefore (Passes (is_byte 10) (take m held)) 0 (length (take m held)) e → Passes (is_byte 10) (take m held) e
    → Consumes old new (take (e + 1) held) → line' ≡ line ++ take e (take m held) → Moves old new line line' most (10 ∷ [])
moves_feed old new line line' held m most e small within none here read moved =
    let long : length (take m held) ≡ m = length-take-le m held within in
    let below : e < m = omega (arith, none.high, long) in
    let front : take e (take m held) ≡ take e held = take-take e m held (omega arith) in
    let byte : get_or held e 0 ≡ 10 = sym (get_or-take m held e 0 below) ∙ eqb-true _ _ here in
    let all : take (e + 1) held ≡ take e (take m held) ++ 10 ∷ [] = take_more held e 0 (omega arith) ∙ rw (byte, front) refl in
    record {
      bytes = take e (take m held);
      read = subst (Consumes old new) all read;
      plain = feeds_none (take m held) e none.before;
      short = omega (arith, length-take-le e (take m held) (omega arith));
      moved = moved;
    }

pub moves_part : (old new : Option (List ℕ)) (line line' held : List ℕ) (m most : ℕ) → m ≤ most → m ≤ length held → 0 < m
    → Nowhere (Passes (is_byte 10) (take m held)) 0 (length (take m held))
    → Consumes old new (take m held) → line' ≡ line ++ take m held → Moves old new line line' most [] × (length line < length line')
moves_part old new line line' held m most small within some none read moved =
    let long : length (take m held) ≡ m = length-take-le m held within in
    let whole : take m (take m held) ≡ take m held = take-take m m held (omega arith) in (
      record {
        bytes = take m held;
        read = subst (Consumes old new) (sym (append-nil (take m held))) read;
        plain = ap feeds (sym whole) ∙ feeds_none (take m held) m (subst (Nowhere (Passes (is_byte 10) (take m held)) 0) long none);
        short = omega arith;
        moved = moved;
      },
      omega (arith, ap length moved, length-append line (take m held)),
    )
