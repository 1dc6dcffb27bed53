-- Proves which characters writing a text adds.
use Rattle.std.proofs.Common.{◌≡◌, ℕ, ◌<◌, ℤ, Bool, true, false, ◌&&◌, List, [], ◌∷◌, ◌++◌, Result, Ok, Err, OnOk, is_ok, encode_utf8, encode_utf8_all, append-nil, refl, sym, ap, subst, ◌∙◌}
use Rattle.std.specs.Prelude.{if◌then◌else◌}
use Rattle.std.specs.List.{list_all}
use Rattle.std.specs.Str.{IsAscii}
use Rattle.std.specs.Fmt.{decimal, signed_decimal}
use Rattle.std.proofs.lemmas.Fmt.{IsAscii-decimal, IsAscii-signed}
use Rattle.std.proofs.Common.{arith, ◌+◌, ◌-◌, length, length-append, ◌^◌, pos, negsuc, w32, to_z, of_z}
use Rattle.std.proofs.lemmas.Int.{to_z-of_z}
use mir.Val.{SFits}
use Rattle.rb_printer.specs.Sound.{IsNumber}
use Rattle.std.proofs.lemmas.Bool.{ltb-true}
use Rattle.std.proofs.lemmas.Str.{encodes-IsAscii, encode_ascii}
use Rattle.rb_lexer.specs.Lexeme.{quote}
use Rattle.rb_printer.specs.Sign.{is_ascii, is_word, is_name, units_chars, text, text_chars, sign_chars}
use Rattle.rb_printer.specs.inner.Growth.{Adds}
use Rattle.rb_printer.proofs.Tests.{and_left, and_right}
use Rattle.rb_printer.proofs.Growths.{adds_more}
use Rattle.rb_printer.proofs.Words.{word_chars, name_word, name_ascii}

pub adds_as : {old now xs ys : List ℕ} → Adds old now xs → xs ≡ ys → Adds old now ys
adds_as {old} {now} {xs} {ys} a e = record { is = a.is ∙ ap (λ (t : List ℕ). old ++ encode_utf8_all t) e }

pub ascii_encoded : (cs : List ℕ) → list_all is_ascii cs ≡ true → encode_utf8_all cs ≡ cs
ascii_encoded [] e = refl
ascii_encoded (c ∷ cs) e =
    ap (λ (bs : List ℕ). bs ++ encode_utf8_all cs) (encode_ascii c (ltb-true c 128 (and_left (is_ascii c) (list_all is_ascii cs) e)))
    ∙ ap (λ (bs : List ℕ). c ∷ bs) (ascii_encoded cs (and_right (is_ascii c) (list_all is_ascii cs) e))

pub ascii_put : {E : Type 0} (r : Result (Unit {0}) E) (old new chars : List ℕ) → encode_utf8_all chars ≡ chars
    → new ≡ (if is_ok r then old ++ chars else old) → OnOk r (Adds old new chars)
ascii_put (Ok x) old new chars e is = record { is = is ∙ ap (λ (t : List ℕ). old ++ t) (sym e) }
ascii_put (Err x) old new chars e is = tt

pub bare_put : (us old new : List ℕ) (b : Bool) → b ≡ is_name us → b ≡ true → Adds old new (units_chars us false) → Adds old new (sign_chars (text (is_name us) us))
bare_put us old new b is holds a =
    let name : is_name us ≡ true = sym is ∙ holds in
    let word : is_word us ≡ true = name_word us name in
    subst (λ (w : Bool). Adds old new (text_chars w us)) (sym (ap (λ (w : Bool). w && is_word us) name ∙ word)) (adds_as a (word_chars us word))

-- a name is written as it is
pub name_put : {E : Type 0} (r : Result (Unit {0}) E) (us old new : List ℕ) (b : Bool) → b ≡ is_name us → b ≡ true
    → new ≡ (if is_ok r then old ++ us else old) → OnOk r (Adds old new (sign_chars (text (is_name us) us)))
name_put r us old new b is holds put =
    let name : is_name us ≡ true = sym is ∙ holds in
    let bare : (is_name us && is_word us) ≡ true = ap (λ (w : Bool). w && is_word us) name ∙ name_word us name in
    subst (λ (w : Bool). OnOk r (Adds old new (text_chars w us))) (sym bare) (ascii_put r old new us (ascii_encoded us (name_ascii us name)) put)

-- the bytes of a character
pub encoded_put : {E : Type 0} (r : Result (Unit {0}) E) (old new bytes : List ℕ) (c : ℕ) → bytes ≡ encode_utf8 c
    → new ≡ (if is_ok r then old ++ bytes else old) → OnOk r (Adds old new (c ∷ []))
encoded_put (Ok x) old new bytes c e put = record { is = put ∙ ap (λ (t : List ℕ). old ++ t) (e ∙ sym (append-nil (encode_utf8 c))) }
encoded_put (Err x) old new bytes c e put = tt

pub cited_put : (us old first second new : List ℕ) (b : Bool) → b ≡ is_name us → b ≡ false → Adds old first (quote ∷ []) → Adds first second (units_chars us false)
    → Adds second new (quote ∷ []) → Adds old new (sign_chars (text (is_name us) us))
cited_put us old first second new b is fails p q r =
    let name : is_name us ≡ false = sym is ∙ fails in
    subst (λ (w : Bool). Adds old new (text_chars (w && is_word us) us)) (sym name) (adds_more p (adds_more q r))

pub decimal_put : {E : Type 0} (r : Result (Unit {0}) E) (old new digits : List ℕ) (n : ℕ) → n < 2 ^ 32 → digits ≡ decimal n
    → new ≡ (if is_ok r then old ++ digits else old) → OnOk r (Adds old new (decimal n))
decimal_put r old new digits n h e put =
    ascii_put r old new (decimal n) (encodes-IsAscii (decimal n) (IsAscii-decimal n (omega arith)))
    (put ∙ ap (λ (t : List ℕ). if is_ok r then old ++ t else old) e)

pub number_fits : (z : ℤ) → SFits w32 z → IsNumber z
number_fits (pos n) h = omega arith
number_fits (negsuc n) h = omega arith

number_ascii : (z : ℤ) → IsNumber z → IsAscii (signed_decimal z)
number_ascii (pos n) h = IsAscii-signed (pos n) (omega arith)
number_ascii (negsuc n) h = IsAscii-signed (negsuc n) (omega arith)

pub number_put : {E : Type 0} (r : Result (Unit {0}) E) (old new digits : List ℕ) (z : ℤ) → SFits w32 z → digits ≡ signed_decimal (to_z w32 (of_z w32 z))
    → new ≡ (if is_ok r then old ++ digits else old) → OnOk r (Adds old new (signed_decimal z))
number_put r old new digits z h e put =
    ascii_put r old new (signed_decimal z) (encodes-IsAscii (signed_decimal z) (number_ascii z (number_fits z h)))
    (put ∙ ap (λ (t : List ℕ). if is_ok r then old ++ t else old) (e ∙ ap signed_decimal (to_z-of_z w32 z h)))

pub number_wide : (old new first last : List ℕ) (z : ℤ) → SFits w32 z → Adds old new (signed_decimal z) → first ≡ old → last ≡ new
    → length last - length first ≡ length (signed_decimal z)
number_wide old new first last z h a e f =
    let same = encodes-IsAscii (signed_decimal z) (number_ascii z (number_fits z h)) in
    let longer : length new ≡ length old + length (signed_decimal z) =
    ap length a.is ∙ length-append old (encode_utf8_all (signed_decimal z)) ∙ ap (λ (t : List ℕ). length old + length t) same in
    omega (arith, ap length e, ap length f, longer)

pub number_read : {old new : List ℕ} (z : ℤ) → SFits w32 z → Adds old new (signed_decimal (to_z w32 (of_z w32 z))) → Adds old new (signed_decimal z)
number_read {old} {new} z h a = subst (λ (x : ℤ). Adds old new (signed_decimal x)) (to_z-of_z w32 z h) a
