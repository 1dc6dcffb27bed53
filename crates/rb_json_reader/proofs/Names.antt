-- The characters of keys.
use Rattle.std.proofs.Common.{◌≡◌, ◌∷◌, [], ℕ, List, Bool, true, false, cond, arith}
use Rattle.std.specs.Prelude.{◌==◌}
use Rattle.std.specs.Str.{IsAscii}
use Rattle.std.proofs.lemmas.Str.{encodes-IsAscii}
use Rattle.std.proofs.lemmas.Str.Ascii.{IsAscii-from_all, IsAscii-cons}
use Rattle.rb_tree.specs.Keys.{IsKey}
use Rattle.rb_json.specs.Value.{key_text, with_colon}

plain_ascii : (k : List ℕ) → IsKey k → IsAscii k
plain_ascii k h = IsAscii-from_all k (λ i d l. omega (arith, (h.1 i d l).1))

colon_or : (t : Bool) (b : ℕ) (bs : List ℕ) → IsAscii (b ∷ bs) → IsAscii (cond t (58 ∷ b ∷ bs) (b ∷ bs))
colon_or true b bs h = IsAscii-cons 58 (b ∷ bs) (omega arith) h
colon_or false b bs h = h

with_ascii : (k : List ℕ) → IsAscii k → IsAscii (with_colon k)
with_ascii [] h = h
with_ascii (b ∷ bs) h = colon_or (b == 58) b bs h

-- a key's bytes are its characters
pub key_text_is : (k : List ℕ) → IsKey k → key_text k ≡ with_colon k
key_text_is k h = encodes-IsAscii (with_colon k) (with_ascii k (plain_ascii k h))
