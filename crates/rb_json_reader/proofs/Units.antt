-- The units of characters are read as those characters.
use Rattle.std.proofs.Common.{◌≡◌, ◌≤◌, ◌<◌, ◌+◌, ◌-◌, ◌/◌, ◌%◌, ◌∷◌, [], ◌++◌, ◌⊎◌, inl, inr, ℕ, List, length, Bool, true, false, cond, Some, refl, sym, ap, ◌∙◌, get_or, encode_utf8, encode_utf8_all, nat_lt, nat_le, append_assoc, append-nil, arith}
use Rattle.std.specs.Prelude.{◌&&◌}
use Rattle.std.specs.Char.{IsScalar}
use Rattle.std.specs.Char.Escape.{encode_utf16}
use Rattle.std.specs.Char.Utf16.{utf16_chars, utf16_lossy_chars, has_unpaired_surrogate, lone_unit_char, surrogate_pair_char}
use Rattle.std.proofs.lemmas.Bool.{ltb-true, ltb-false, leb-true}
use Rattle.std.proofs.lemmas.Str.{utf16_chars-nil, utf16_chars_lone, utf16_chars_pair}
use Rattle.std.proofs.str.Utf16.{IsPair, lone_unit_char_low, lone_unit_char_high}
use Rattle.rb_json.proofs.SameValues.{units_for}

abbrev Range : ℕ → Type 0
Range c = (c < 0xD800) ⊎ ((0xE000 ≤ c) × (c < 0x11_0000))

split : (a b : Bool) → (a && b) ≡ true → (a ≡ true) × (b ≡ true)
split true true h = (refl, refl)
split true false h = absurd cc
split false b h = absurd cc

range_by : (c : ℕ) (t : Bool) → nat_lt c 0xD800 ≡ t → cond t true (nat_le 0xE000 c && nat_lt c 0x11_0000) ≡ true → Range c
range_by c true e h = inl (ltb-true c 0xD800 e)
range_by c false e h = let parts = split _ _ h in inr (leb-true 0xE000 c parts.0, ltb-true c 0x11_0000 parts.1)

range_of : (c : ℕ) → IsScalar c → Range c
range_of c s = range_by c (nat_lt c 0xD800) refl s

lone_is : (c : ℕ) → Range c → lone_unit_char c ≡ Some c
lone_is c (inl low) = lone_unit_char_low c low
lone_is c (inr high) = lone_unit_char_high c high.0

apart : (c v : ℕ) → Range c → IsPair c v → ⊥
apart c v (inl low) pair = omega (arith, low, pair.0)
apart c v (inr high) pair = omega (arith, high.0, pair.1)

abbrev high_of : ℕ → ℕ
high_of c = 0xD800 + (c - 0x1_0000) / 0x400

abbrev low_of : ℕ → ℕ
low_of c = 0xDC00 + (c - 0x1_0000) % 0x400

pair_of : (c : ℕ) → 0x1_0000 ≤ c → c < 0x11_0000 → IsPair (high_of c) (low_of c)
pair_of c from below = (omega arith, omega arith, omega arith, omega arith)

pair_is : (c : ℕ) → 0x1_0000 ≤ c → surrogate_pair_char (high_of c) (low_of c) ≡ c
pair_is c from = omega arith

below_all : (c : ℕ) → Range c → c < 0x11_0000
below_all c (inl low) = omega (arith, low)
below_all c (inr high) = high.1

char_by : (c : ℕ) (us : List ℕ) (t : Bool) → nat_lt c 0x1_0000 ≡ t → Range c
    → utf16_chars (cond t (c ∷ []) (high_of c ∷ low_of c ∷ []) ++ us) ≡ Some c ∷ utf16_chars us
char_by c us true e r = utf16_chars_lone c us (apart c (get_or us 0 0) r) ∙ ap (λ o. o ∷ utf16_chars us) (lone_is c r)
char_by c us false e r =
    let from = ltb-false c 0x1_0000 e in
    utf16_chars_pair (high_of c) (low_of c) us (pair_of c from (below_all c r)) ∙ ap (λ x. Some x ∷ utf16_chars us) (pair_is c from)

char_read : (c : ℕ) (us : List ℕ) → IsScalar c → utf16_chars (encode_utf16 c ++ us) ≡ Some c ∷ utf16_chars us
char_read c us s = char_by c us (nat_lt c 0x1_0000) refl (range_of c s)

abbrev pub Scalars : List ℕ → Type 0
Scalars [] = Unit {0}
Scalars (c ∷ cs) = IsScalar c × Scalars cs

pub paired : (cs : List ℕ) → Scalars cs → has_unpaired_surrogate (units_for cs) ≡ false
paired [] s = rw utf16_chars-nil refl
paired (c ∷ cs) s = rw (char_read c (units_for cs) s.0) (paired cs s.1)

pub characters : (cs : List ℕ) → Scalars cs → utf16_lossy_chars (units_for cs) ≡ cs
characters [] s = rw utf16_chars-nil refl
characters (c ∷ cs) s = rw (char_read c (units_for cs) s.0) (ap (λ ds. c ∷ ds) (characters cs s.1))

pub scalars_push : (cs : List ℕ) (c : ℕ) → Scalars cs → IsScalar c → Scalars (cs ++ c ∷ [])
scalars_push [] c s h = (h, tt)
scalars_push (d ∷ cs) c s h = (s.0, scalars_push cs c s.1 h)

pub units_push : (cs : List ℕ) (c : ℕ) → units_for (cs ++ c ∷ []) ≡ units_for cs ++ encode_utf16 c
units_push [] c = append-nil (encode_utf16 c)
units_push (d ∷ cs) c = ap (λ us. encode_utf16 d ++ us) (units_push cs c) ∙ sym (append_assoc (encode_utf16 d) (units_for cs) (encode_utf16 c))

pub bytes_push : (cs : List ℕ) (c : ℕ) → encode_utf8_all (cs ++ c ∷ []) ≡ encode_utf8_all cs ++ encode_utf8 c
bytes_push [] c = append-nil (encode_utf8 c)
bytes_push (d ∷ cs) c = ap (λ bs. encode_utf8 d ++ bs) (bytes_push cs c) ∙ sym (append_assoc (encode_utf8 d) (encode_utf8_all cs) (encode_utf8 c))

-- these units are those of the characters that are no longer in the rest of the text
abbrev pub SoFar : (text rest units : List ℕ) → Type 0
SoFar text rest units = (cs : List ℕ) × (text ≡ encode_utf8_all cs ++ rest) × (units ≡ units_for cs) × Scalars cs

pub one_more : (text rest units : List ℕ) (c : ℕ) (next more : List ℕ) → SoFar text rest units → rest ≡ encode_utf8 c ++ next
    → more ≡ units ++ encode_utf16 c → IsScalar c → SoFar text next more
one_more text rest units c next more s r u h = (
  s.0 ++ c ∷ [],
  s.1 ∙ ap (λ bs. encode_utf8_all s.0 ++ bs) r ∙ sym (append_assoc (encode_utf8_all s.0) (encode_utf8 c) next) ∙ ap (λ bs. bs ++ next) (sym (bytes_push s.0 c)),
  u ∙ ap (λ us. us ++ encode_utf16 c) s.2 ∙ sym (units_push s.0 c),
  scalars_push s.0 c s.3 h,
)

empty : (xs : List ℕ) → length xs ≡ 0 → xs ≡ []
empty [] h = refl
empty (x ∷ xs) h = absurd cc

pub all_paired : (text rest units : List ℕ) → SoFar text rest units → has_unpaired_surrogate units ≡ false
all_paired text rest units s = ap has_unpaired_surrogate s.2 ∙ paired s.0 s.3

pub all_text : (text rest units : List ℕ) → SoFar text rest units → length rest ≡ 0 → encode_utf8_all (utf16_lossy_chars units) ≡ text
all_text text rest units s h =
    let whole : text ≡ encode_utf8_all s.0 = s.1 ∙ ap (λ bs. encode_utf8_all s.0 ++ bs) (empty rest h) ∙ append-nil (encode_utf8_all s.0) in
    ap (λ us. encode_utf8_all (utf16_lossy_chars us)) s.2 ∙ ap encode_utf8_all (characters s.0 s.3) ∙ sym whole

pub none_read : (text : List ℕ) → SoFar text text []
none_read text = ([], refl, refl, tt)
