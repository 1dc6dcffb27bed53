-- The contents of a JSON string, piece by piece.
use Rattle.std.proofs.Common.{◌≡◌, ◌≤◌, ◌<◌, ◌+◌, ◌/◌, ◌%◌, ℕ, suc, List, [], ◌∷◌, ◌++◌, length, take, drop, get_or, refl, ap, sym, subst, ◌∙◌, append_assoc, append-nil, arith, zero-le}
use Rattle.std.proofs.Common.{encode_utf8, encode_utf8_all}
use Rattle.std.proofs.lemmas.Bool.{lt-ltb, le-ltb}
use Rattle.std.proofs.lemmas.Grind.{flat_map-append}
use Rattle.std.proofs.Math.Seq.{take-add}
use Rattle.std.specs.Char.{digit_char}
use Rattle.std.specs.Char.Utf16.{utf16_lossy_chars}
use Rattle.std.proofs.str.Utf16.{utf16_chars-drop_all}
use Rattle.hex.specs.Hex.{lower_digits, encode_lower}
use Rattle.rb_json.proofs.Hex.{digits_cut, digits_of, no_digits, one_more}
use Rattle.rb_json.proofs.Latin.{character_more}
use Rattle.rb_json.specs.inner.Spelled.{Spells}
use Rattle.json.specs.Print.{escape, escape_byte, escape_letter, quoted}

pub by_letter : (x l : ℕ) → escape_letter x ≡ l → 0 < l → escape_byte x ≡ 92 ∷ l ∷ []
unfolding escape_byte
by_letter x l e h = rw (e, lt-ltb 0 l h)

pub by_code : (x : ℕ) → escape_letter x ≡ 0 → x < 32 → escape_byte x ≡ 92 ∷ 117 ∷ 48 ∷ 48 ∷ digit_char (x / 16) ∷ digit_char (x % 16) ∷ []
unfolding escape_byte
by_code x e h = rw (e, lt-ltb x 32 h)

pub by_itself : (x : ℕ) → escape_letter x ≡ 0 → 32 ≤ x → escape_byte x ≡ x ∷ []
unfolding escape_byte
by_itself x e h = rw (e, le-ltb x 32 h)

pub escape-append : (a b : List ℕ) → escape (a ++ b) ≡ escape a ++ escape b
escape-append a b = flat_map-append escape_byte a b

module _ {S : Type 0} (Takes : S → S → List ℕ → Type 0) (joined : (x y z : S) (a b : List ℕ) → Takes x y a → Takes y z b → Takes x z (a ++ b)) where
  pub then_escaped : (x y z : S) (a b : List ℕ) → Takes x y (escape a) → Takes y z (escape b) → Takes x z (escape (a ++ b))
  then_escaped x y z a b h k = subst (Takes x z) (sym (escape-append a b)) (joined x y z (escape a) (escape b) h k)

  -- some first bytes, and then some of the others
  pub front_more : (x y z : S) (bytes : List ℕ) (at n : ℕ) → Takes x y (escape (take at bytes)) → Takes y z (escape (take n (drop at bytes)))
      → Takes x z (escape (take (at + n) bytes))
  front_more x y z bytes at n h k =
      subst (λ (b : List ℕ). Takes x z (escape b)) (sym (take-add at n bytes)) (then_escaped x y z (take at bytes) (take n (drop at bytes)) h k)

  -- between quotation marks
  pub in_quotes : (w x y z : S) (s : List ℕ) → Takes w x (34 ∷ []) → Takes x y (escape s) → Takes y z (34 ∷ []) → Takes w z (quoted s)
  in_quotes w x y z s a b c = joined w x z (34 ∷ []) (escape s ++ 34 ∷ []) a (joined x y z (escape s) (34 ∷ []) b c)

  -- the characters of a first units, and then those of the next ones
  pub spells_more : (x y z : S) (us : List ℕ) (at next : ℕ) → Spells (Takes x y) us 0 at → Spells (Takes y z) us at next → Spells (Takes x z) us 0 next
  spells_more x y z us at next h k = record {
    text = h.text ++ k.text;
    taken = then_escaped x y z h.text k.text h.taken k.taken;
    front = h.front ∙ (ap (λ (ys : List ℕ). h.text ++ ys) k.front ∙ sym (append_assoc h.text k.text (encode_utf8_all (utf16_lossy_chars (drop next us)))));
  }

  -- the outlet needed more
  pub spells_on : (x y z : S) (us : List ℕ) (at next : ℕ) → Takes x y [] → Spells (Takes y z) us at next → Spells (Takes x z) us at next
  spells_on x y z us at next h k = record { text = k.text; taken = joined x y z [] (escape k.text) h k.taken; front = k.front }

  pub spells_all : (x y : S) (us : List ℕ) (at : ℕ) → Spells (Takes x y) us 0 at → length us ≤ at → Takes x y (escape (encode_utf8_all (utf16_lossy_chars us)))
  spells_all x y us at h over =
      let whole : encode_utf8_all (utf16_lossy_chars us) ≡ h.text = rw (utf16_chars-drop_all us at over, append-nil) at h.front in
      subst (λ (s : List ℕ). Takes x y (escape s)) (sym whole) h.taken

  -- a character more
  pub each_more : (x y z : S) (bytes : List ℕ) (i c d : ℕ) → Takes x y (escape (encode_utf8_all (take i bytes))) → Takes y z (escape (encode_utf8 c))
      → c ≡ get_or bytes i d → i < length bytes → Takes x z (escape (encode_utf8_all (take (i + 1) bytes)))
  each_more x y z bytes i c d h k same inside =
      let front = encode_utf8_all (take i bytes) in
      subst (λ (s : List ℕ). Takes x z (escape s)) (character_more front (front ++ encode_utf8 c) bytes i c d refl refl same inside)
      (then_escaped x y z front (encode_utf8 c) h k)

  pub no_pairs : (x : S) (bytes : List ℕ) → Takes x x [] → Takes x x (escape (encode_lower (take 0 bytes)))
  no_pairs x bytes h = subst (λ (s : List ℕ). Takes x x (escape s)) (no_digits lower_digits bytes) h

  -- two digits more
  pub pairs_more : (x y z : S) (bytes : List ℕ) (i : ℕ) → Takes x y (escape (encode_lower (take i bytes)))
      → Takes y z (escape (digits_of lower_digits (get_or bytes i 0))) → i < length bytes → Takes x z (escape (encode_lower (take (i + 1) bytes)))
  pairs_more x y z bytes i h k inside =
      let n : suc i ≡ i + 1 = omega arith in
      let front = encode_lower (take i bytes) in
      let two = digits_of lower_digits (get_or bytes i 0) in
      let same : front ++ two ≡ encode_lower (take (i + 1) bytes) =
      sym (one_more lower_digits bytes i inside) ∙ ap (λ (m : ℕ). encode_lower (take m bytes)) n in
      subst (λ (s : List ℕ). Takes x z (escape s)) same (then_escaped x y z front two h k)

  -- the outlet needs no more digits
  pub pairs_skipped : (x y z : S) (bytes : List ℕ) (i : ℕ) → Takes x y (escape (encode_lower (take i bytes)))
      → ((text : List ℕ) → 0 ≤ length text → Takes y z text) → Takes x z (escape (encode_lower bytes))
  pairs_skipped x y z bytes i h skips =
      let rest = encode_lower (drop i bytes) in
      subst (λ (s : List ℕ). Takes x z (escape s)) (digits_cut lower_digits bytes i)
      (then_escaped x y z (encode_lower (take i bytes)) rest h (skips (escape rest) zero-le))
