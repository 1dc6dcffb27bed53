-- For what is private. Defines that the characters of the units between two indices are written, escaped for a string.
use Rattle.std.specs.Prelude.{◌≡◌, ℕ, List, ◌++◌, drop, encode_utf8_all}
use Rattle.std.specs.Char.Utf16.{utf16_lossy_chars}
use Rattle.json.specs.Print.{escape}

pub record Spells (Takes : List ℕ → Type 0) (us : List ℕ) (at next : ℕ) : Type 0 where
  pub text : List ℕ
  pub taken : Takes (escape text)
  pub front : encode_utf8_all (utf16_lossy_chars (drop at us))
      ≡ text ++ encode_utf8_all (utf16_lossy_chars (drop next us))
