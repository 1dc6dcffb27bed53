-- Characters of UTF-16, unit by unit.
use Rattle.std.proofs.Common.{◌≡◌, ◌+◌, ◌<◌, ◌≤◌, ℕ, suc, List, [], ◌∷◌, ◌++◌, true, Option, Some, None, drop, length, get_or, encode_utf8}
use Rattle.std.proofs.Common.{encode_utf8_all, ap, sym, ◌∙◌, subst, append_assoc, append-nil, arith}
use Rattle.std.specs.Prelude.{IsSome, not}
use Rattle.std.specs.Option.{SomeIff}
use Rattle.std.specs.Char.Utf16.{utf16_chars, lone_unit_char, surrogate_pair_char, utf16_lossy_chars, has_unpaired_surrogate}
use Rattle.std.specs.Str.{IsAscii}
use Rattle.std.proofs.lemmas.Str.{utf16_chars_lone, encode_ascii}
use Rattle.std.proofs.str.Utf16.{lone_unit_char_low}
use Rattle.std.proofs.str.Utf16.{IsPair, utf16_chars-drop_lone, utf16_chars-drop_pair, utf16_chars-drop_all}

pub is_value : (r : Option ℕ) (P : Type 0) (v : ℕ) → SomeIff r P v → IsSome r → Some v ≡ r
is_value None P v h some = cc
is_value (Some x) P v h some = ap Some (sym h.1)

pub lone : (us : List ℕ) (at u : ℕ) (o : Option ℕ) → u ≡ get_or us at 0 → at < length us → (IsPair u (get_or us (at + 1) 0) → ⊥)
    → lone_unit_char u ≡ o → utf16_chars (drop at us) ≡ o ∷ utf16_chars (drop (at + 1) us)
lone us at u o e h apart l =
    utf16_chars-drop_lone us at h (subst (λ (x : ℕ). IsPair x (get_or us (at + 1) 0) → ⊥) e apart)
    ∙ ap (λ (x : Option ℕ). x ∷ utf16_chars (drop (at + 1) us)) (ap lone_unit_char (sym e) ∙ l)

pub paired : (us : List ℕ) (at u v : ℕ) (o : Option ℕ) → u ≡ get_or us at 0 → v ≡ get_or us (at + 1) 0 → at + 1 < length us
    → IsPair u v → Some (surrogate_pair_char u v) ≡ o → utf16_chars (drop at us) ≡ o ∷ utf16_chars (drop (at + 2) us)
paired us at u v o e f h pair l =
    let first = ap (λ (x : ℕ). Some (surrogate_pair_char x (get_or us (at + 1) 0))) (sym e) in
    let second = ap (λ (y : ℕ). Some (surrogate_pair_char u y)) (sym f) in
    utf16_chars-drop_pair us at h (subst (λ (x : ℕ). IsPair x (get_or us (at + 1) 0)) e (subst (λ (y : ℕ). IsPair u y) f pair))
    ∙ ap (λ (x : Option ℕ). x ∷ utf16_chars (drop (at + 2) us)) (first ∙ second ∙ l)

-- a text, with that of the units from an index on, is the text of all units, and of these none has lost its partner so far
abbrev pub Reads : List ℕ → List ℕ → List ℕ → Type 0
Reads text left us =
    (text ++ encode_utf8_all (utf16_lossy_chars left) ≡ encode_utf8_all (utf16_lossy_chars us))
    × (has_unpaired_surrogate left ≡ has_unpaired_surrogate us)

abbrev pub ReadSoFar : List ℕ → List ℕ → ℕ → Type 0
ReadSoFar text us at = Reads text (drop at us) us

-- an ASCII unit is a character of one byte
pub ascii_read : (text bs rest us : List ℕ) → Reads text (bs ++ rest) us → IsAscii bs → Reads (text ++ bs) rest us
ascii_read text [] rest us r h = subst (λ (t : List ℕ). Reads t rest us) (sym (append-nil text)) r
ascii_read text (b ∷ bs) rest us r h =
    let low : b < 128 = h 0 in
    let alone : lone_unit_char b ≡ Some b = lone_unit_char_low b (omega arith) in
    let step : utf16_chars (b ∷ (bs ++ rest)) ≡ Some b ∷ utf16_chars (bs ++ rest) =
    utf16_chars_lone b (bs ++ rest) (λ (pair : IsPair b (get_or (bs ++ rest) 0 0)). omega (arith, pair.0))
    ∙ ap (λ (o : Option ℕ). o ∷ utf16_chars (bs ++ rest)) alone in
    let byte : encode_utf8 b ≡ b ∷ [] = encode_ascii b low in
    let one : Reads (text ++ b ∷ []) (bs ++ rest) us = (rw (append_assoc) (rw (step, byte) at r.0), rw step at r.1) in
    subst (λ (t : List ℕ). Reads t rest us) (append_assoc text (b ∷ []) bs) (ascii_read (text ++ b ∷ []) bs rest us one (λ (i : ℕ). h (suc i)))

pub all_read : (text us : List ℕ) (at : ℕ) → ReadSoFar text us at → length us ≤ at
    → (true ≡ not (has_unpaired_surrogate us)) × (text ≡ encode_utf8_all (utf16_lossy_chars us))
all_read text us at so_far h =
    let none = utf16_chars-drop_all us at h in
    (ap not (rw none at so_far.1), sym (append-nil text) ∙ rw none at so_far.0)
