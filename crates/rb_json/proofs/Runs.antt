-- Runs of ASCII units.
use Rattle.std.proofs.Common.{◌≡◌, ◌+◌, ◌<◌, ℕ, zero, suc, List, [], ◌∷◌, ◌++◌, take, drop, length, get_or, set, encode_utf8_all, refl, sym, ap, subst, ◌∙◌, arith}
use Rattle.std.specs.Str.{IsAscii}
use Rattle.std.specs.Char.Utf16.{utf16_lossy_chars}
use Rattle.std.proofs.lemmas.List.{take_more_set, take_more, get_or-drop, take-append-drop, drop-drop, length-drop}
use Rattle.std.proofs.lemmas.Str.{IsAscii-append}
use Rattle.std.proofs.lemmas.Str.Ascii.{IsAscii-nil}
use Rattle.rb_json.specs.inner.Run.{IsRun}
use Rattle.rb_json.proofs.Surrogates.{ReadSoFar, Reads, ascii_read}

pub no_run : (block us : List ℕ) (at : ℕ) → IsRun block us at 0
no_run block us at = record { ascii = IsAscii-nil; is = refl }

one_ascii : (u : ℕ) → u < 128 → IsAscii (u ∷ [])
one_ascii u low zero = low
one_ascii u low (suc i) = omega arith

-- a unit more
pub run_more : (block us : List ℕ) (at i u : ℕ) → IsRun block us at i → i < length block → at + i < length us → u ≡ get_or us (at + i) 0 → u < 128
    → IsRun (set block i u) us at (i + 1)
run_more block us at i u r h inside e low =
    let there : get_or (drop at us) i 0 ≡ u = get_or-drop at us i 0 ∙ sym e in
    let stored = take_more_set block i u h in
    let left : i < length (drop at us) = omega (arith, length-drop at us) in
    record {
      ascii = subst IsAscii (sym stored) (IsAscii-append (take i block) (u ∷ []) r.ascii (one_ascii u low));
      is = stored ∙ ap (λ (xs : List ℕ). xs ++ u ∷ []) r.is ∙ ap (λ (x : ℕ). take i (drop at us) ++ x ∷ []) (sym there) ∙ sym (take_more (drop at us) i 0 left);
    }

-- what is left from a run on
cut : (us block : List ℕ) (at n : ℕ) → IsRun block us at n → drop at us ≡ take n block ++ drop (at + n) us
cut us block at n run =
    sym (take-append-drop n (drop at us)) ∙ ap (λ (xs : List ℕ). xs ++ drop n (drop at us)) (sym run.is)
    ∙ ap (λ (xs : List ℕ). take n block ++ xs) (drop-drop n at us)

-- a run is put after a text
pub run_read : (text more us block : List ℕ) (at n : ℕ) → ReadSoFar text us at → IsRun block us at n → more ≡ text ++ take n block → ReadSoFar more us (at + n)
run_read text more us block at n so_far run put =
    let bytes = take n block in
    subst (λ (t : List ℕ). ReadSoFar t us (at + n)) (sym put)
    (ascii_read text bytes (drop (at + n) us) us (subst (λ (xs : List ℕ). Reads text xs us) (cut us block at n run) so_far) run.ascii)

-- a run is the text of its units
pub run_front : (us block : List ℕ) (at n : ℕ) → IsRun block us at n
    → encode_utf8_all (utf16_lossy_chars (drop at us)) ≡ take n block ++ encode_utf8_all (utf16_lossy_chars (drop (at + n) us))
run_front us block at n run =
    let left = drop at us in
    let rest = drop (at + n) us in
    let whole : Reads [] left left = (refl, refl) in
    sym (ascii_read [] (take n block) rest left (subst (λ (xs : List ℕ). Reads [] xs left) (cut us block at n run) whole) run.ascii).0
