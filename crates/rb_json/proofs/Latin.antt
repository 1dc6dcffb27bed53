-- Texts of JSON, made byte by byte.
use Rattle.std.proofs.Common.{◌≡◌, ℕ, ◌+◌, ◌<◌, List, [], ◌∷◌, ◌++◌, length, get_or, take, encode_utf8, encode_utf8_all}
use Rattle.std.proofs.Common.{refl, ap, ◌∙◌, sym, append_assoc}
use Rattle.std.proofs.lemmas.List.{append-nil}
use Rattle.std.specs.Str.{IsAscii}
use Rattle.std.proofs.lemmas.Str.{encodes-IsAscii, IsUtf8-from_ascii}
use Rattle.std.specs.Str.{IsUtf8}
use Rattle.rb_json.proofs.Elements.{element_more, is_at}

pub encodes-append : (xs : List ℕ) (c : ℕ) → encode_utf8_all (xs ++ c ∷ []) ≡ encode_utf8_all xs ++ encode_utf8 c
encodes-append [] c = append-nil (encode_utf8 c)
encodes-append (x ∷ xs) c = ap (λ ys. encode_utf8 x ++ ys) (encodes-append xs c) ∙ sym (append_assoc (encode_utf8 x) (encode_utf8_all xs) (encode_utf8 c))

pub character_more : (text more bytes : List ℕ) (i c d : ℕ) → text ≡ encode_utf8_all (take i bytes) → more ≡ text ++ encode_utf8 c
    → c ≡ get_or bytes i d → i < length bytes → more ≡ encode_utf8_all (take (i + 1) bytes)
character_more text more bytes i c d so_far is same h =
    let front = take i bytes in
    let byte = get_or bytes i d in
    let step : front ++ byte ∷ [] ≡ take (i + 1) bytes = element_more front (front ++ byte ∷ []) bytes i byte refl refl (is_at bytes i d h) in
    is ∙ ap (λ t. t ++ encode_utf8 c) so_far ∙ sym (encodes-append front c)
    ∙ ap (λ x. encode_utf8_all (front ++ x ∷ [])) same ∙ ap encode_utf8_all step

pub ascii_text : (text bytes : List ℕ) → text ≡ bytes → IsAscii bytes → text ≡ encode_utf8_all bytes
ascii_text text bytes same h = same ∙ sym (encodes-IsAscii bytes h)

pub is_utf8 : (bytes : List ℕ) → IsAscii bytes → IsUtf8 bytes
is_utf8 bytes h = IsUtf8-from_ascii bytes h
