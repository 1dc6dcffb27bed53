-- Defines the invariant of a name's fields, for proofs only.
use Rattle.std.specs.Prelude.{◌≡◌, List, ℕ, length, take, Some}
use Rattle.rb_locales.specs.Locale.{written, first}
use Rattle.rb_locales.specs.inner.Padded.{IsPadded, padded, padded-take}
use Rattle.rb_locales.specs.declared.limits.TheConstants.{NAME_LIMIT}
use Rattle.rb_locales.specs.declared.name.Name.TheInside.{Inside}

-- the bytes after the end are 0, and the name is canonical
pub record IsNameFields (n : Inside) : Type 0 where
  pub short : IsPadded NAME_LIMIT n.len n.bytes
  pub canonical : written first (take n.len n.bytes) ≡ Some (take n.len n.bytes)

abbrev pub name_fields : List ℕ → Inside
name_fields bs = record { bytes = padded NAME_LIMIT bs; len = length bs }

pub name_fields-view : (n : Inside) → IsNameFields n → name_fields (take n.len n.bytes) ≡ n
name_fields-view n h = padded-take NAME_LIMIT n.len n.bytes (λ bs k. record { bytes = bs; len = k }) h.short
