-- Defines the fields of an application's name, for proofs only.
use Rattle.std.specs.Prelude.{◌≡◌, List, ℕ, length, take}
use Rattle.rb_locales.specs.inner.Padded.{IsPadded, padded, padded-take}
use Rattle.rb_packages.specs.declared.app.App.TheInside.{Inside}

abbrev pub IsAppFields : Inside → Type 0
IsAppFields n = IsPadded 64 n.len n.bytes

abbrev pub app_fields : List ℕ → Inside
app_fields bs = record { bytes = padded 64 bs; len = length bs }

pub app_fields-view : (n : Inside) → IsAppFields n → app_fields (take n.len n.bytes) ≡ n
app_fields-view n h = padded-take 64 n.len n.bytes (λ bs k. record { bytes = bs; len = k }) h
