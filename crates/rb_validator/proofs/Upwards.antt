-- Bytes that are kept from the last one down.
use Rattle.std.proofs.Common.{◌≡◌, ◌≢◌, ℕ, [], ◌-◌, ◌<◌, ◌≤◌, List, length, get_or, set, replicate, sym, ap, ◌∙◌, arith, inl, inr}
use Rattle.std.proofs.Common.{get_or-set_other, get_or-set_same}
use Rattle.std.proofs.Math.ListN.{get_or-eq_default}
use Rattle.std.proofs.lemmas.Bool.{cases_eq}
use Rattle.std.proofs.lemmas.List.{ext_get_or, length-set, length-replicate}
use Rattle.std.proofs.lemmas.List.FromFn.{get_or-map-range_with_len, length-map-range_with_len}
use Rattle.rb_validator.specs.inner.Packed.{upwards}
use Rattle.rb_validator.proofs.Marked.{all_zero}

pub length_upwards : (kept : List ℕ) (n : ℕ) → length (upwards kept n) ≡ n
length_upwards kept n = length-map-range_with_len (λ i. get_or kept (n - 1 - i) 0) 0 n

pub upwards_at : (kept : List ℕ) (n i : ℕ) → i < n → get_or (upwards kept n) i 0 ≡ get_or kept (n - 1 - i) 0
upwards_at kept n i h = get_or-map-range_with_len (λ i. get_or kept (n - 1 - i) 0) 0 n i i 0 h (omega arith)

pub upwards_none : (kept : List ℕ) (n : ℕ) → kept ≡ [] → upwards kept n ≡ replicate n 0
upwards_none kept n e =
    let long : length (upwards kept n) ≡ length (replicate n 0) = length_upwards kept n ∙ sym (length-replicate n 0) in
    let none : length kept ≡ 0 = ap length e in
    let all = length_upwards kept n in
    ext_get_or 0 (upwards kept n) (replicate n 0) long (λ i h.
    let small : i < n = omega (arith, h, all) in
    let past : length kept ≤ n - 1 - i = omega (arith, none) in
    upwards_at kept n i small ∙ get_or-eq_default kept 0 past ∙ sym (all_zero n i))

-- one is set, after zeros were added
pub upwards_set : (kept later : List ℕ) (n i v : ℕ) → i < n → ((j : ℕ) → get_or later j 0 ≡ get_or kept j 0) → n - 1 - i < length later
    → upwards (set later (n - 1 - i) v) n ≡ set (upwards kept n) i v
upwards_set kept later n i v h same inside =
    let p = n - 1 - i in
    let after = set later p v in
    let old = length_upwards kept n in
    let new = length_upwards after n in
    let long : length (upwards after n) ≡ length (set (upwards kept n) i v) = new ∙ sym old ∙ sym (length-set (upwards kept n) i v) in
    ext_get_or 0 (upwards after n) (set (upwards kept n) i v) long (λ j l.
    let small : j < n = omega (arith, l, new) in
    let now = upwards_at after n j small in
    elim (cases_eq j i) [
      | inl e ↦
          let at : n - 1 - j ≡ p = omega arith in
          let here : get_or (set (upwards kept n) i v) j 0 ≡ v =
          ap (λ (x : ℕ). get_or (set (upwards kept n) i v) x 0) e ∙ get_or-set_same (upwards kept n) i v 0 (omega arith) in
          now ∙ ap (λ (x : ℕ). get_or after x 0) at ∙ get_or-set_same later p v 0 inside ∙ sym here
      | inr ne ↦
          let apart : n - 1 - j ≢ p = λ z. ne (omega arith) in
          now ∙ get_or-set_other later p (n - 1 - j) v 0 apart ∙ same (n - 1 - j) ∙ sym (upwards_at kept n j small)
          ∙ sym (get_or-set_other (upwards kept n) i j v 0 ne)
    ])
