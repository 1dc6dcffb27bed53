-- For private contracts and proofs only: the fields of a path that is stored.
use Rattle.std.specs.Prelude.{◌≡◌, ℕ, List, length, take}
use Rattle.rb_tree.specs.Path.{IsPath}
use Rattle.rb_locales.specs.inner.Padded.{IsPadded, padded, padded-take}
use Rattle.rb_engine.specs.declared.kept_path.KeptPath.TheInside.{Inside}

pub record ArePathFields (fields : Inside) : Type 0 where
  pub padded : IsPadded 96 fields.len fields.bytes
  pub path : IsPath (take fields.len fields.bytes)

abbrev pub path_fields : List ℕ → Inside
path_fields bs = record { bytes = padded 96 bs; len = length bs }

pub path_fields-view : (n : Inside) → ArePathFields n → path_fields (take n.len n.bytes) ≡ n
path_fields-view n h = padded-take 96 n.len n.bytes (λ bs k. record { bytes = bs; len = k }) h.padded
