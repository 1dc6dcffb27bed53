-- For proofs only: what is known of the units from one up to another.
use Rattle.std.specs.Prelude.{◌≡◌, ◌≤◌, ◌<◌, ℕ, List, true, false, slice_index}
use Rattle.rb_tree.specs.Path.{is_slash}
use Rattle.rb_fallback.specs.Alias.{is_plain}

abbrev pub ArePlain : List ℕ → ℕ → ℕ → Type 0
ArePlain us from past = (i : ℕ) → from ≤ i → i < past → is_plain (slice_index us i) ≡ true

abbrev pub HasNoSlash : List ℕ → ℕ → ℕ → Type 0
HasNoSlash us from past = (i : ℕ) → from ≤ i → i < past → is_slash (slice_index us i) ≡ false
