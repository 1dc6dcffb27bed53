-- Bytes that a string of JSON has as they are.
use Rattle.std.proofs.Common.{◌≡◌, ◌+◌, ◌<◌, ◌≤◌, ℕ, List, [], ◌∷◌, ◌++◌, Bool, true, false, take, length, get_or, set, encode_utf8, encode_utf8_all, refl, ap, sym, subst, ◌∙◌, append-nil, arith}
use Rattle.std.specs.Prelude.{not}
use Rattle.std.specs.Char.Utf16.{has_unpaired_surrogate, utf16_lossy_chars}
use Rattle.std.proofs.lemmas.List.{take_more, take_more_set}
use Rattle.std.proofs.lemmas.Str.{encode_ascii}
use Rattle.json.specs.Print.{escape, escape_byte}
use Rattle.rb_json.specs.inner.Run.{IsRun}
use Rattle.rb_json.proofs.Latin.{encodes-append}
use Rattle.rb_json.proofs.Runs.{run_read}
use Rattle.rb_json.proofs.Spelling.{escape-append}
use Rattle.rb_json.proofs.Surrogates.{ReadSoFar, all_read}

-- a plain byte after plain ones
after_plain : (front : List ℕ) (u : ℕ) → escape front ≡ front → escape_byte u ≡ u ∷ [] → escape (front ++ u ∷ []) ≡ front ++ u ∷ []
after_plain front u h e =
    escape-append front (u ∷ []) ∙ ap (λ (xs : List ℕ). xs ++ escape (u ∷ [])) h
    ∙ ap (λ (xs : List ℕ). front ++ xs) (append-nil (escape_byte u) ∙ e)

-- a plain byte is stored after a block's first ones
pub stored_plain : (block : List ℕ) (i u : ℕ) → escape (take i block) ≡ take i block → i < length block → escape_byte u ≡ u ∷ []
    → escape (take (i + 1) (set block i u)) ≡ take (i + 1) (set block i u)
stored_plain block i u h inside e =
    let stored = take_more_set block i u inside in
    ap escape stored ∙ after_plain (take i block) u h e ∙ sym stored

-- one more of the bytes is plain
pub more_plain : (bytes : List ℕ) (i : ℕ) → escape (encode_utf8_all (take i bytes)) ≡ take i bytes → i < length bytes
    → get_or bytes i 0 < 128 → escape_byte (get_or bytes i 0) ≡ get_or bytes i 0 ∷ []
    → escape (encode_utf8_all (take (i + 1) bytes)) ≡ take (i + 1) bytes
more_plain bytes i h inside low e =
    let u = get_or bytes i 0 in
    let more : take (i + 1) bytes ≡ take i bytes ++ u ∷ [] = take_more bytes i 0 inside in
    let text = encode_utf8_all (take i bytes) in
    ap (λ (xs : List ℕ). escape (encode_utf8_all xs)) more
    ∙ ap escape (encodes-append (take i bytes) u)
    ∙ escape-append text (encode_utf8 u)
    ∙ ap (λ (xs : List ℕ). xs ++ escape (encode_utf8 u)) h
    ∙ ap (λ (xs : List ℕ). take i bytes ++ xs) (ap escape (encode_ascii u low) ∙ append-nil (escape_byte u) ∙ e)
    ∙ sym more

is_false : (b : Bool) → true ≡ not b → b ≡ false
is_false false h = refl
is_false true h = absurd cc

-- a run of all units
whole_run : (us block : List ℕ) (n : ℕ) → IsRun block us 0 n → length us ≤ n
    → (true ≡ not (has_unpaired_surrogate us)) × (take n block ≡ encode_utf8_all (utf16_lossy_chars us))
whole_run us block n run over =
    let all : 0 + n ≡ n = omega arith in
    let read = run_read [] (take n block) us block 0 n (refl, refl) run refl in
    all_read (take n block) us n (subst (λ (m : ℕ). ReadSoFar (take n block) us m) all read) over

pub whole_units : (us block : List ℕ) (n : ℕ) → IsRun block us 0 n → length us ≤ n → has_unpaired_surrogate us ≡ false
whole_units us block n run over = is_false (has_unpaired_surrogate us) (whole_run us block n run over).0

pub whole_text : (us block : List ℕ) (n : ℕ) → IsRun block us 0 n → length us ≤ n → escape (take n block) ≡ take n block
    → take n block ≡ escape (encode_utf8_all (utf16_lossy_chars us))
whole_text us block n run over plain = sym plain ∙ ap escape (whole_run us block n run over).1
