-- A key that was written is read where it is.
use Rattle.rb_writer.specs.declared.area.KeyArea.{KeyArea}
use Rattle.std.proofs.Common.{◌≡◌, ℕ, suc, ◌+◌, ◌-◌, ◌*◌, ◌<◌, ◌≤◌, true, false, ltb, List, [], ◌∷◌, ◌++◌}
use Rattle.std.proofs.Common.{length, get_or, take, drop, Some, refl, sym, ap, ◌∙◌, arith, position, subst, inl, inr, ◌⊎◌, Bor}
use Rattle.std.proofs.lemmas.Bool.Decides.{nat_tests}
use Rattle.std.proofs.lemmas.Bool.{le-ltb, lt-ltb, cases_eq}
use Rattle.std.proofs.lemmas.List.{get_or-drop, get_or-take, length-drop, length-take, ext_get_or, length_push, get_or_push, get_or_default}
use Rattle.std.proofs.lemmas.List.Elements.{Contains-get_or, Contains-append_left, Contains-push, Contains-push_cases}
use Rattle.std.specs.Prelude.{All, ◌==◌}
use Rattle.std.specs.List.{position_or_len}
use Rattle.rb_tree.specs.Keys.{IsKey, IsPlain}
use Rattle.rb_format.specs.Place.{key, key_front, key_ok}
use Rattle.rb_format.proofs.Keys.{key_is}
use Rattle.rb_writer.proofs.Puts.{adds_append}
use Rattle.rb_writer.proofs.Values.{part_stays}
use Rattle.rb_writer.specs.inner.Growth.{Adds, draft, PutsBytes}
use Rattle.rb_writer.specs.inner.Keying.{KeyAt}
use Rattle.rb_writer.specs.inner.Keyed.{IsStored, IsStoredAt}

pub ok_key : (k : List ℕ) → IsKey k → key_ok k ≡ true
ok_key k h = (key_is k).1 h

not_nul : (x : ℕ) → IsPlain x → (x == 0) ≡ false
not_nul x h = let a = h.0 in grind (arith, nat_tests)

-- the first NUL of a run is after the key
nul_at : (k run : List ℕ) → All IsPlain k → take (length k) run ≡ k → length k < length run → get_or run (length k) 0 ≡ 0
    → position_or_len (λ b. b == 0) run ≡ length k
nul_at k [] h t l e = absurd (omega arith)
nul_at [] (b ∷ run) h t l e = rw e refl
nul_at (x ∷ k) (b ∷ run) h t l e =
    let same : b ≡ x = cc in
    let rest : take (length k) run ≡ k = cc in
    let no : (x == 0) ≡ false = not_nul x (h 0 x (omega arith)) in
    rw (same, no, nul_at k run (λ i d g. h (suc i) d (omega arith)) rest (omega arith) e) (omega arith)

first_nul : (k run : List ℕ) → All IsPlain k → take (length k) run ≡ k → length k < length run → get_or run (length k) 0 ≡ 0
    → position (λ b. b == 0) run ≡ Some (length k)
first_nul k run h t l e = let test : ltb (length k) (length run) ≡ true = lt-ltb _ _ l in rw (nul_at k run h t l e, test) refl

pub key_front_is : (k run : List ℕ) → IsKey k → take (length k) run ≡ k → length k < length run → get_or run (length k) 0 ≡ 0 → key_front run ≡ Some k
key_front_is k run h t l e = rw (first_nul k run h.1 t l e, t, ok_key k h) refl

pub key_reads : (area : KeyArea) (body k : List ℕ) (o : ℕ) → KeyAt (4 * (1 + area.indexes)) body k o → length body ≡ 4 * area.top
    → key (draft area body) body o ≡ Some k
unfolding key
key_reads area body k o p e =
    let lo = p.low in let ins = p.inside in
    let a : ltb o (4 * (1 + area.indexes)) ≡ false = le-ltb _ _ lo in
    let b : ltb o (4 * area.top) ≡ true = lt-ltb _ _ (omega arith) in
    let len : length (take (4 * area.top - o) (drop o body)) ≡ 4 * area.top - o = omega
    (arith, length-take (4 * area.top - o) (drop o body), length-drop o body) in
    let front : take (length k) (take (4 * area.top - o) (drop o body)) ≡ k =
    ext_get_or 0 _ _ (omega (arith, len, length-take (length k) (take (4 * area.top - o) (drop o body)))) (λ j h.
    let below : j < length k = omega (arith, length-take (length k) (take (4 * area.top - o) (drop o body))) in
    get_or-take (length k) (take (4 * area.top - o) (drop o body)) j 0 below ∙ get_or-take (4 * area.top - o) (drop o body) j 0 (omega arith)
    ∙ sym (get_or-take (length k) (drop o body) j 0 below) ∙ ap (λ (xs : List ℕ). get_or xs j 0) p.bytes) in
    let end : get_or (take (4 * area.top - o) (drop o body)) (length k) 0 ≡ 0 = get_or-take (4 * area.top - o) (drop o body) (length k) 0 (omega arith)
    ∙ get_or-drop o body (length k) 0 ∙ p.ended in
    rw (a, b) (key_front_is k (take (4 * area.top - o) (drop o body)) p.is_key front (omega arith) end)

-- a key stays where it is
pub key_at_stays : (start : ℕ) (a b k : List ℕ) (o : ℕ) → Adds a b → KeyAt start a k o → KeyAt start b k o
key_at_stays start a b k o h p =
    let l = h.longer in let ins = p.inside in
    let len : length (take (length k) (drop o b)) ≡ length k = omega (arith, length-take (length k) (drop o b), length-drop o b) in
    record {
      low = p.low;
      inside = omega arith;
      bytes = ext_get_or 0 _ _ len (λ j g.
          let below : j < length k = omega (arith, length-take (length k) (drop o b)) in
          get_or-take (length k) (drop o b) j 0 below ∙ get_or-drop o b j 0 ∙ h.same (o + j) (omega arith) ∙ sym (get_or-drop o a j 0)
          ∙ sym (get_or-take (length k) (drop o a) j 0 below) ∙ ap (λ (xs : List ℕ). get_or xs j 0) p.bytes);
      ended = h.same (o + length k) (omega arith) ∙ p.ended;
      is_key = p.is_key;
    }

pub key_at_low : (low start : ℕ) (a k : List ℕ) (o : ℕ) → low ≤ start → KeyAt start a k o → KeyAt low a k o
key_at_low low start a k o h p = let l = p.low in record { low = omega arith; inside = p.inside; bytes = p.bytes; ended = p.ended; is_key = p.is_key }

pub key_put : (start : ℕ) (a b c k : List ℕ) (o : ℕ) → PutsBytes a b k → c ≡ b ++ 0 ∷ [] → o ≡ length a → start ≤ length a → IsKey k → KeyAt start c k o
key_put start a b c k o p e at low h =
    let l = p.len in
    rw e (record {
      low = omega arith;
      inside = omega (arith, length_push b 0);
      bytes = part_stays a b (b ++ 0 ∷ []) k o p (adds_append b (0 ∷ [])) at;
      ended = get_or_push b 0 0 (o + length k) (omega arith);
      is_key = h;
    })

-- ---- the keys that are known

pub known_at : (known : List (Bor (List ℕ) × ℕ)) (i : ℕ) (p : Bor (List ℕ) × ℕ) (k : List ℕ) → i < length known → p ≡ get_or known i p
    → p.0.now ≡ k → IsStoredAt known k p.1
known_at known i p k h e f = (p, (i, h, sym e), f, refl)

pub stored_at : (known : List (Bor (List ℕ) × ℕ)) (i : ℕ) (k : List ℕ) (d : Bor (List ℕ) × ℕ) → i < length known → (get_or known i d).0.now ≡ k
    → IsStored known k
stored_at known i k d h e = ((get_or known i d).1, (get_or known i d, Contains-get_or known i d h, e, refl))

pub stays_stored : (known : List (Bor (List ℕ) × ℕ)) (p : Bor (List ℕ) × ℕ) (q : List ℕ) → IsStored known q → IsStored (known ++ p ∷ []) q
stays_stored known p q h = (h.0, (h.1.0, Contains-append_left known (p ∷ []) h.1.0 h.1.1, h.1.2, h.1.3))

pub stored_push : (known : List (Bor (List ℕ) × ℕ)) (p : Bor (List ℕ) × ℕ) → IsStored (known ++ p ∷ []) p.0.now
stored_push known p = (p.1, (p, Contains-push known p, refl, refl))

-- where the last of these keys is at its offset
pub stands_or : (known : List (Bor (List ℕ) × ℕ)) (p : Bor (List ℕ) × ℕ) (start : ℕ) (body q : List ℕ) (o : ℕ) → KeyAt start body p.0.now p.1
    → IsStoredAt (known ++ p ∷ []) q o → IsStoredAt known q o ⊎ KeyAt start body q o
stands_or known p start body q o at h = elim (Contains-push_cases known p h.0 h.1) [
  | inl old ↦ inl (h.0, old, h.2, h.3)
  | inr new ↦ inr (subst (λ (k : List ℕ). KeyAt start body k o) (ap (λ (x : Bor (List ℕ) × ℕ). x.0.now) new ∙ h.2)
      (subst (KeyAt start body p.0.now) (ap (λ (x : Bor (List ℕ) × ℕ). x.1) new ∙ h.3) at))
]

-- the first i of these keys aren't this one
abbrev pub NotAmong : List (Bor (List ℕ) × ℕ) → ℕ → List ℕ → Type 0
NotAmong known i k = (j : ℕ) (d : Bor (List ℕ) × ℕ) → j < i → (get_or known j d).0.now ≡ k → ⊥

pub not_more : (known : List (Bor (List ℕ) × ℕ)) (i : ℕ) (k : List ℕ) (e : Bor (List ℕ) × ℕ) → NotAmong known i k → i < length known
    → ((get_or known i e).0.now ≡ k → ⊥) → NotAmong known (i + 1) k
not_more known i k e none h other_key j d l f = elim (cases_eq j i) [
  | inl same ↦
      other_key (ap (λ (x : Bor (List ℕ) × ℕ). x.0.now) (get_or_default known i e d h ∙ ap (λ (n : ℕ). get_or known n d) (sym same)) ∙ f)
  | inr other ↦ none j d (omega arith) f
]

pub not_stored : (known : List (Bor (List ℕ) × ℕ)) (i : ℕ) (k : List ℕ) → NotAmong known i k → length known ≤ i → IsStored known k → ⊥
not_stored known i k none h s =
    let at = s.1.1 in let below = at.1 in
    none at.0 s.1.0 (omega arith) (ap (λ (x : Bor (List ℕ) × ℕ). x.0.now) at.2 ∙ s.1.2)
