-- Values without children are where they were written.
use Rattle.rb_writer.specs.declared.area.KeyArea.{KeyArea}
use Rattle.std.proofs.Common.{◌≡◌, ℕ, suc, ◌+◌, ◌*◌, ◌/◌, ◌%◌, ◌^◌, ◌<◌, ◌≤◌, ℤ, false, ltb, List, []}
use Rattle.std.proofs.Common.{◌∷◌, length, get_or, take, drop, map, Result, refl, sym, ap, ◌∙◌, arith, inl, inr}
use Rattle.std.proofs.lemmas.Bool.{le-ltb}
use Rattle.std.proofs.lemmas.List.{length-drop, get_or-drop, get_or-take, length-take, ext_get_or}
use Rattle.std.specs.Int.{cast_signed, w32}
use Rattle.rb_format.specs.declared.fault.FileFault.{FileFault}
use Rattle.rb_format.specs.declared.layout.Layout.{Layout}
use Rattle.rb_format.specs.Place.{word_at, half_at, values}
use Rattle.rb_format.specs.inner.FirstFault.{units, bytes, numbers}
use Rattle.rb_writer.specs.inner.Growth.{Adds, PutsWord, PutsNumbers, PutsHalf, PutsHalves, PutsBytes, IsDraft, Put, signed_numbers}
use Rattle.rb_writer.proofs.Puts.{adds_refl, adds_trans, word_stays, half_stays}

pub values_are : (f : ℕ → ℕ) (i : ℕ) (xs : List ℕ) → ((j : ℕ) → j < length xs → f (i + j) ≡ get_or xs j 0) → values f i (length xs) ≡ xs
values_are f i [] h = refl
values_are f i (x ∷ xs) h =
    let first : f i ≡ x = (let same : i + 0 ≡ i = omega arith in rw same at (h 0 (omega arith))) in
    let rest : values f (suc i) (length xs) ≡ xs = values_are f (suc i) xs
    (λ j g. let same : suc i + j ≡ i + suc j = omega arith in rw same (h (suc j) (omega arith))) in
    rw (first, rest) refl

pub signed_are : (f : ℕ → ℕ) (i : ℕ) (zs : List ℤ) → ((j : ℕ) (d : ℤ) → j < length zs → cast_signed w32 (f (i + j)) ≡ get_or zs j d)
    → map (cast_signed w32) (values f i (length zs)) ≡ zs
signed_are f i [] h = refl
signed_are f i (z ∷ zs) h =
    let first : cast_signed w32 (f i) ≡ z = (let same : i + 0 ≡ i = omega arith in rw same at (h 0 z (omega arith))) in
    let rest : map (cast_signed w32) (values f (suc i) (length zs)) ≡ zs = signed_are f (suc i) zs
    (λ j d g. let same : suc i + j ≡ i + suc j = omega arith in rw same (h (suc j) d (omega arith))) in
    rw (first, rest) refl

pub nothing_put : {A : Type 0} (area : KeyArea) (out : List ℕ) (most : ℕ) (value : Layout → List ℕ → ℕ → Result A FileFault) (x none : A) → IsDraft area out
    → x ≡ none → Put area out out most value x none 0
nothing_put area out most value x none d e = record { adds = adds_refl out; drafted = d; little = omega arith; small = omega arith; stands = inl (refl, e) }

pub drafted_on : (area : KeyArea) (old new : List ℕ) → IsDraft area old → length old ≤ length new → length new % 4 ≡ 0 → IsDraft area new
drafted_on area old new d h e = let w = d.whole in let hi = d.high in record { words = length new / 4; whole = omega arith; low = d.low; high = omega arith }

pub units_put : (area : KeyArea) (old a b c new us : List ℕ) (o : ℕ) → IsDraft area old → o ≡ length old / 4 → PutsWord old a (length us)
    → PutsHalves a b us (length us) → PutsHalf b c 0 → Adds c new → length new % 4 ≡ 0 → length new < length c + 4 → length old + (8 + 2 * length us) ≤ 2 ^ 28
    → Put area old new (8 + 2 * length us) units us [] o
unfolding units
units_put area old a b c new us o d at p q r s e f room =
    let w = d.whole in let hi = d.high in let pl = p.len in let ql = q.len in let rl = r.len in let sl = s.longer in
    let on_b = adds_trans b c new r.adds s in
    let on_a = adds_trans a b new q.adds on_b in
    let start : length old ≡ 4 * o = omega arith in
    let count : word_at new o ≡ length us = word_stays a new o on_a (omega arith) ∙ p.word_is o start in
    let list : values (half_at new) (2 * o + 2) (length us) ≡ us = values_are (half_at new) (2 * o + 2) us
    (λ j h. half_stays b new (2 * o + 2 + j) on_b (omega arith) ∙ q.halves_are (2 * o + 2) j (omega arith) h) in
    let end : half_at new (2 * o + 2 + length us) ≡ 0 = half_stays c new (2 * o + 2 + length us) s (omega arith)
    ∙ r.half_is (2 * o + 2 + length us) (omega arith) in
    let room_is : ltb (4 * (length new / 4)) (4 * o + 6 + 2 * length us) ≡ false = le-ltb _ _ (omega arith) in
    record {
      adds = adds_trans old a new p.adds on_a;
      drafted = drafted_on area old new d (omega arith) e;
      little = omega arith;
      small = omega arith;
      stands = inr (omega arith, omega arith, rw (count, room_is, end, list) refl);
    }

pub numbers_put : (area : KeyArea) (old a new : List ℕ) (zs : List ℤ) (o : ℕ) → IsDraft area old → o ≡ length old / 4 → PutsWord old a (length zs)
    → PutsNumbers a new zs (length zs) → length old + (4 + 4 * length zs) ≤ 2 ^ 28 → Put area old new (4 + 4 * length zs) signed_numbers zs [] o
unfolding numbers
numbers_put area old a new zs o d at p q room =
    let w = d.whole in let hi = d.high in let pl = p.len in let ql = q.len in
    let start : length old ≡ 4 * o = omega arith in
    let count : word_at new o ≡ length zs = word_stays a new o q.adds (omega arith) ∙ p.word_is o start in
    let list : map (cast_signed w32) (values (word_at new) (o + 1) (length zs)) ≡ zs = signed_are (word_at new) (o + 1) zs
    (λ j e h. q.numbers_are (o + 1) j e (omega arith) h) in
    let room_is : ltb (length new / 4) (o + 1 + length zs) ≡ false = le-ltb _ _ (omega arith) in
    record {
      adds = adds_trans old a new p.adds q.adds;
      drafted = drafted_on area old new d (omega arith) (omega arith);
      little = omega arith;
      small = omega arith;
      stands = inr (omega arith, omega arith, rw (count, room_is, list) refl);
    }

-- bytes that were put stay where they are
pub part_stays : (a b c : List ℕ) (bs : List ℕ) (k : ℕ) → PutsBytes a b bs → Adds b c → k ≡ length a → take (length bs) (drop k c) ≡ bs
part_stays a b c bs k p q e =
    let pl = p.len in let ql = q.longer in
    let len : length (take (length bs) (drop k c)) ≡ length bs = omega (arith, length-take (length bs) (drop k c), length-drop k c) in
    ext_get_or 0 _ _ len (λ j h.
    let below : j < length bs = omega (arith, length-take (length bs) (drop k c)) in
    get_or-take (length bs) (drop k c) j 0 below ∙ get_or-drop k c j 0 ∙ q.same (k + j) (omega arith) ∙ ap (λ m. get_or b (m + j) 0) e
    ∙ sym (get_or-drop (length a) b j 0) ∙ ap (λ (xs : List ℕ). get_or xs j 0) p.bytes_are)

pub bytes_put : (area : KeyArea) (old z a b new bs skipped : List ℕ) (o : ℕ) → IsDraft area old → PutsBytes old z skipped → length skipped ≤ 12
    → o ≡ length z / 4 → length z % 4 ≡ 0 → PutsWord z a (length bs) → PutsBytes a b bs → Adds b new → length new % 4 ≡ 0 → length new < length b + 4
    → length old + (20 + length bs) ≤ 2 ^ 28 → Put area old new (20 + length bs) bytes bs [] o
unfolding bytes
bytes_put area old z a b new bs skipped o d k few at whole p q s e f room =
    let w = d.whole in let hi = d.high in let kl = k.len in let pl = p.len in let ql = q.len in let sl = s.longer in
    let on_a = adds_trans a b new q.adds s in
    let start : length z ≡ 4 * o = omega arith in
    let count : word_at new o ≡ length bs = word_stays a new o on_a (omega arith) ∙ p.word_is o start in
    let list : take (length bs) (drop (4 * o + 4) new) ≡ bs = part_stays a b new bs (4 * o + 4) q s (omega arith) in
    let room_is : ltb (4 * (length new / 4)) (4 * o + 4 + length bs) ≡ false = le-ltb _ _ (omega arith) in
    record {
      adds = adds_trans old z new k.adds (adds_trans z a new p.adds on_a);
      drafted = drafted_on area old new d (omega arith) e;
      little = omega arith;
      small = omega arith;
      stands = inr (omega arith, omega arith, rw (count, room_is, list) refl);
    }
