-- Runs of plain units.
use Rattle.std.proofs.Common.{◌≡◌, ◌+◌, ◌<◌, ℕ, ◌≤◌, Bool, true, false, ◌&&◌, List, [], ◌∷◌, ◌++◌, take, drop, length, get_or, set, refl, sym, ap, subst, ◌∙◌, arith}
use Rattle.std.proofs.Common.{append_assoc}
use Rattle.std.specs.List.{list_all}
use Rattle.std.proofs.lemmas.Bool.{lt-ltb, ltb-true}
use Rattle.std.proofs.lemmas.List.{take_more_set, take_more, get_or-drop, take-append-drop, drop-drop, length-drop, length-take-le}
use Rattle.std.proofs.lemmas.List.Folds.{list_all-append}
use Rattle.rb_lexer.specs.Lexeme.{quote}
use Rattle.rb_printer.specs.Sign.{is_shown, is_ascii, units_chars}
use Rattle.rb_printer.specs.Sound.{AreUnits}
use Rattle.rb_printer.specs.inner.Growth.{Adds}
use Rattle.rb_printer.specs.inner.Run.{IsRun, is_plain}
use Rattle.rb_printer.proofs.Tests.{and_left, and_right}
use Rattle.rb_printer.proofs.Growths.{owes_step}
use Rattle.rb_printer.proofs.Texts.{shown_next}
use Rattle.rb_printer.proofs.Puts.{ascii_encoded}
use Rattle.rb_printer.proofs.Loops.{UnitsPut, owes_as}

pub no_run : (block us : List ℕ) (at : ℕ) → IsRun block us at 0
no_run block us at = record { plain = refl; is = refl }

one_plain : (u : ℕ) → is_shown u ≡ true → u < 128 → list_all is_plain (u ∷ []) ≡ true
one_plain u e low = rw (e, lt-ltb u 128 low) refl

-- a unit more
pub run_more : (block us : List ℕ) (at i u : ℕ) → IsRun block us at i → i < length block → at + i < length us → u ≡ get_or us (at + i) 0
    → is_shown u ≡ true → u < 128 → IsRun (set block i u) us at (i + 1)
run_more block us at i u r h inside e shown low =
    let there : get_or (drop at us) i 0 ≡ u = get_or-drop at us i 0 ∙ sym e in
    let stored = take_more_set block i u h in
    let left : i < length (drop at us) = omega (arith, length-drop at us) in
    record {
      plain = ap (list_all is_plain) stored ∙ list_all-append is_plain (take i block) (u ∷ [])
          ∙ ap (λ (b : Bool). b && list_all is_plain (u ∷ [])) r.plain ∙ one_plain u shown low;
      is = stored ∙ ap (λ (xs : List ℕ). xs ++ u ∷ []) r.is ∙ ap (λ (x : ℕ). take i (drop at us) ++ x ∷ []) (sym there) ∙ sym (take_more (drop at us) i 0 left);
    }

plain_ascii : (bs : List ℕ) → list_all is_plain bs ≡ true → list_all is_ascii bs ≡ true
plain_ascii [] e = refl
plain_ascii (b ∷ bs) e =
    let here = and_left (is_plain b) (list_all is_plain bs) e in
    rw (and_right (is_shown b) (is_ascii b) here, plain_ascii bs (and_right (is_plain b) (list_all is_plain bs) e)) refl

plain_chars : (b : ℕ) (bs rest : List ℕ) (after : Bool) → list_all is_plain (b ∷ bs) ≡ true
    → units_chars (b ∷ (bs ++ rest)) after ≡ b ∷ (bs ++ units_chars rest false)
plain_chars b bs rest after e =
    shown_next b (bs ++ rest) after (and_left (is_shown b) (is_ascii b) (and_left (is_plain b) (list_all is_plain bs) e))
    ∙ ap (λ (cs : List ℕ). b ∷ cs) (later bs (and_right (is_plain b) (list_all is_plain bs) e)) where
      later : (bs : List ℕ) → list_all is_plain bs ≡ true → units_chars (bs ++ rest) false ≡ bs ++ units_chars rest false
      later [] e = refl
      later (b ∷ bs) e =
          shown_next b (bs ++ rest) false (and_left (is_shown b) (is_ascii b) (and_left (is_plain b) (list_all is_plain bs) e))
          ∙ ap (λ (cs : List ℕ). b ∷ cs) (later bs (and_right (is_plain b) (list_all is_plain bs) e))

plain_units : (bs rest : List ℕ) → list_all is_plain bs ≡ true → AreUnits rest → AreUnits (bs ++ rest)
plain_units [] rest e h = h
plain_units (b ∷ bs) rest e h =
    let low = ltb-true b 128 (and_right (is_shown b) (is_ascii b) (and_left (is_plain b) (list_all is_plain bs) e)) in
    (omega (arith, low), plain_units bs rest (and_right (is_plain b) (list_all is_plain bs) e) h)

put_some : (old now new us bs : List ℕ) (at n : ℕ) (after : Bool) → UnitsPut old now us at after → drop at us ≡ bs ++ drop (at + n) us
    → list_all is_plain bs ≡ true → 0 < length bs → new ≡ now ++ bs → UnitsPut old new us (at + n) false
put_some old now new us [] at n after m cut e some put = absurd (omega arith)
put_some old now new us (b ∷ bs) at n after m cut e some put =
    let rest = drop (at + n) us in
    let chars : units_chars (drop at us) after ++ quote ∷ [] ≡ (b ∷ bs) ++ (units_chars rest false ++ quote ∷ []) =
    ap (λ (cs : List ℕ). cs ++ quote ∷ []) (ap (λ (xs : List ℕ). units_chars xs after) cut ∙ plain_chars b bs rest after e)
    ∙ append_assoc (b ∷ bs) (units_chars rest false) (quote ∷ []) in
    let added : Adds now new (b ∷ bs) = record { is = put ∙ ap (λ (t : List ℕ). now ++ t) (sym (ascii_encoded (b ∷ bs) (plain_ascii (b ∷ bs) e))) } in
    record {
      owes = owes_step (units_chars rest false ++ quote ∷ []) (owes_as m.owes chars) added;
      sound = λ (k : AreUnits rest). m.sound (subst AreUnits (sym cut) (plain_units (b ∷ bs) rest e k));
    }

-- a run of the units is written
pub run_put : (old now new us block : List ℕ) (at n : ℕ) (after : Bool) → UnitsPut old now us at after → IsRun block us at n → 0 < n → n ≤ length block
    → new ≡ now ++ take n block → UnitsPut old new us (at + n) false
run_put old now new us block at n after m run some fits put =
    let cut : drop at us ≡ take n block ++ drop (at + n) us =
    sym (take-append-drop n (drop at us)) ∙ ap (λ (xs : List ℕ). xs ++ drop n (drop at us)) (sym run.is)
    ∙ ap (λ (xs : List ℕ). take n block ++ xs) (drop-drop n at us) in
    put_some old now new us (take n block) at n after m cut run.plain (omega (arith, length-take-le n block fits)) put
