-- Units that are read by stretches.
use Rattle.std.proofs.Common.{◌≡◌, ◌≤◌, ◌<◌, ℕ, List, Bool, true, false, slice_index, length, arith, ◌∙◌, ap, refl}
use Rattle.std.specs.Prelude.{nat_le}
use Rattle.std.proofs.lemmas.Bool.{leb-true, leb-false}
use Rattle.std.proofs.lemmas.List.{get_or_default}
use Rattle.std.specs.List.{list_all}
use Rattle.std.proofs.lemmas.List.Sums.{list_all-from_AllPass}
use Rattle.rb_fallback.specs.Alias.{is_plain}
use Rattle.rb_fallback.specs.inner.Stretches.{ArePlain}

-- units that are plain up to the last one are plain
pub plain_whole : (us : List ℕ) (past : ℕ) → length us ≤ past → ArePlain us 0 past → list_all is_plain us ≡ true
plain_whole us past long each = list_all-from_AllPass is_plain us (λ k d l. ap is_plain (get_or_default us k d 0 l) ∙ each k (omega arith) (omega arith))

pub plain_both : (us : List ℕ) (at past : ℕ) → ArePlain us 0 at → ArePlain us at past → ArePlain us 0 past
plain_both us at past low high = λ i z h. by i h (nat_le at i) refl
  where
    by : (i : ℕ) → i < past → (b : Bool) → nat_le at i ≡ b → is_plain (slice_index us i) ≡ true
    by i h true e = high i (leb-true _ _ e) h
    by i h false e = low i (omega arith) (omega (arith, leb-false _ _ e))
