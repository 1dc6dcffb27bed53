-- The fields of a name that the program makes.
use Rattle.std.proofs.Common.{◌≡◌, ℕ, ◌≤◌, ◌+◌, List, ◌++◌, ◌∷◌, length, take, drop, replicate, Some, ap, sym, ◌∙◌, subst, arith}
use Rattle.std.proofs.lemmas.List.{length-take-le, drop_at, take_at}
use Rattle.rb_locales.specs.Locale.{written, first, shorter}
use Rattle.rb_locales.specs.declared.limits.TheConstants.{NAME_LIMIT}
use Rattle.rb_locales.specs.inner.LastUnderscore.{IsLastIndex}
use Rattle.rb_locales.specs.inner.NameFields.{IsNameFields}
use Rattle.rb_locales.specs.inner.Padded.{IsPadded-front}
use Rattle.rb_locales.proofs.Canonical.{canonical, at_last, none_behind, shorter_canonical, shorter_some}

pub made : (out zs : List ℕ) (end : ℕ) → written first out ≡ Some out → length out ≡ end → end ≤ NAME_LIMIT → zs ≡ drop end (replicate NAME_LIMIT 0)
    → IsNameFields (record { bytes = out ++ zs; len = end })
made out zs end w l h z = record {
  short = IsPadded-front NAME_LIMIT end out zs l h z;
  canonical = subst (λ (n : List ℕ). written first n ≡ Some n) (sym (take_at out zs end l)) w;
}

pub read_fields : (bs field out : List ℕ) (end : ℕ) → end ≤ length bs → end ≤ 64 → end ≤ NAME_LIMIT
    → field ≡ take end bs ++ drop (length (take end bs)) (replicate NAME_LIMIT 0) → written first (take end field) ≡ Some out
    → IsNameFields (record { bytes = out ++ drop end field; len = end })
read_fields bs field out end low short h e w =
    let few : length (take end bs) ≡ end = length-take-le end bs low in
    let front : take end field ≡ take end bs = ap (λ l. take end l) e ∙ take_at (take end bs) (drop (length (take end bs)) (replicate NAME_LIMIT 0)) end few in
    let zeros : drop end field ≡ drop end (replicate NAME_LIMIT 0) =
    ap (λ l. drop end l) e ∙ drop_at (take end bs) (drop (length (take end bs)) (replicate NAME_LIMIT 0)) end few
    ∙ ap (λ k. drop k (replicate NAME_LIMIT 0)) few in
    let kept = canonical (take end field) out w (rw front (omega arith)) in
    made out (drop end field) end kept.2 (kept.1 ∙ ap length front ∙ few) h zeros

pub shorter_fields : (n field : List ℕ) (i : ℕ) → IsLastIndex n (Some i) → length n ≤ NAME_LIMIT → written first n ≡ Some n
    → field ≡ take i n ++ drop (length (take i n)) (replicate NAME_LIMIT 0) → IsNameFields (record { bytes = field; len = i })
shorter_fields n field i last h w e =
    let few : length (take i n) ≡ i = length-take-le i n (omega (arith, last.0)) in
    let whole : n ≡ take i n ++ 95 ∷ drop (i + 1) n = at_last n i last.0 last.1 in
    let own : written first (take i n) ≡ Some (take i n) =
    shorter_canonical (take i n) (drop (i + 1) n) (none_behind n i last.2) (subst (λ (m : List ℕ). written first m ≡ Some m) whole w) in
    subst (λ (f : List ℕ). IsNameFields (record { bytes = f; len = i })) (sym e)
    (made (take i n) (drop (length (take i n)) (replicate NAME_LIMIT 0)) i own few (omega (arith, last.0)) (ap (λ k. drop k (replicate NAME_LIMIT 0)) few))

pub shorter_is : (n field : List ℕ) (i : ℕ) → IsLastIndex n (Some i) → field ≡ take i n ++ drop (length (take i n)) (replicate NAME_LIMIT 0)
    → Some (take i field) ≡ shorter n
shorter_is n field i last e =
    let few : length (take i n) ≡ i = length-take-le i n (omega (arith, last.0)) in
    ap (λ f. Some (take i f)) e
    ∙ ap Some (take_at (take i n) (drop (length (take i n)) (replicate NAME_LIMIT 0)) i few)
    ∙ sym (ap shorter (at_last n i last.0 last.1) ∙ shorter_some (take i n) (drop (i + 1) n) (none_behind n i last.2))
