-- Proves that appended data are there, and that the old data stay.
use Rattle.std.proofs.Common.{◌≡◌, ℕ, zero, suc, ◌+◌, ◌*◌, ◌^◌, ◌<◌, ◌≤◌, ℤ, List, [], ◌∷◌, ◌++◌, length, get_or, take, drop, replicate, refl, sym, ap, ◌∙◌, arith, inl, inr}
use Rattle.std.specs.Prelude.{All, flat_map, map}
use Rattle.std.proofs.Math.Seq.{take-suc}
use Rattle.std.proofs.lemmas.List.{flat_map_more}
use Rattle.std.proofs.lemmas.List.Folds.{flat_map-map}
use Rattle.rb_writer.specs.Bytes.{words}
use Rattle.std.proofs.lemmas.List.{get_or_append_left, length-append, get_or-drop, append-nil, drop_all}
use Rattle.std.proofs.lemmas.List.Elements.{All-nil, All-take, All-drop, All-replicate}
use Rattle.std.proofs.lemmas.Bool.{cases_eq}
use Rattle.std.specs.Int.{cast_signed, cast_unsigned, w32}
use Rattle.byteorder.specs.Endian.{little_bytes, little_number}
use Rattle.byteorder.specs.Numbers.{little_number-reads_back}
use Rattle.rb_format.specs.Place.{word_at, half_at}
use Rattle.rb_writer.specs.inner.Growth.{Adds, PutsWord, PutsWords, PutsNumbers, PutsHalf, PutsHalves, PutsBytes}

pub adds_refl : (a : List ℕ) → Adds a a
adds_refl a = record { longer = omega arith; same = λ i h. refl }

pub adds_trans : (a b c : List ℕ) → Adds a b → Adds b c → Adds a c
adds_trans a b c p q = let pl = p.longer in let ql = q.longer in record { longer = omega arith; same = λ i h. q.same i (omega arith) ∙ p.same i h }

pub adds_append : (a b : List ℕ) → Adds a (a ++ b)
adds_append a b = record { longer = omega (arith, length-append a b); same = λ i h. get_or_append_left a b 0 i h }

pub drop_append : (n : ℕ) (a b : List ℕ) → length a ≡ n → drop n (a ++ b) ≡ b
drop_append zero [] b e = refl
drop_append zero (x ∷ a) b e = absurd (omega arith)
drop_append (suc n) [] b e = absurd (omega arith)
drop_append (suc n) (x ∷ a) b e = drop_append n a b (omega arith)

pub puts_word : (old new : List ℕ) (w : ℕ) → new ≡ old ++ little_bytes 4 w → w < 2 ^ 32 → PutsWord old new w
unfolding word_at
puts_word old new w e h = rw e (record {
  adds = adds_append old (little_bytes 4 w);
  len = omega (arith, length-append old (little_bytes 4 w));
  word_is = λ i p. rw (drop_append (4 * i) old (little_bytes 4 w) p)
      (ap (little_number 4) (sym (append-nil (little_bytes 4 w))) ∙ little_number-reads_back 4 w [] h);
  bytes = refl;
})

pub puts_half : (old new : List ℕ) (w : ℕ) → new ≡ old ++ little_bytes 2 w → w < 2 ^ 16 → PutsHalf old new w
unfolding half_at
puts_half old new w e h = rw e (record {
  adds = adds_append old (little_bytes 2 w);
  len = omega (arith, length-append old (little_bytes 2 w));
  half_is = λ i p. rw (drop_append (2 * i) old (little_bytes 2 w) p)
      (ap (little_number 2) (sym (append-nil (little_bytes 2 w))) ∙ little_number-reads_back 2 w [] h);
  bytes = refl;
})

pub puts_bytes : (old new bytes : List ℕ) → new ≡ old ++ bytes → PutsBytes old new bytes
puts_bytes old new bytes e = rw e (record {
  adds = adds_append old bytes;
  len = length-append old bytes;
  bytes_are = drop_append (length old) old bytes refl;
  joined = refl;
})

-- a word stays
pub word_stays : (a b : List ℕ) (i : ℕ) → Adds a b → 4 * i + 4 ≤ length a → word_at b i ≡ word_at a i
unfolding word_at
word_stays a b i p h =
    let byte : (j : ℕ) → j < 4 → get_or (drop (4 * i) b) j 0 ≡ get_or (drop (4 * i) a) j 0 = λ j g. get_or-drop (4 * i) b j 0
    ∙ p.same (4 * i + j) (omega arith) ∙ sym (get_or-drop (4 * i) a j 0) in
    rw (byte 0 (omega arith), byte 1 (omega arith), byte 2 (omega arith), byte 3 (omega arith)) refl

pub half_stays : (a b : List ℕ) (i : ℕ) → Adds a b → 2 * i + 2 ≤ length a → half_at b i ≡ half_at a i
unfolding half_at
half_stays a b i p h =
    let byte : (j : ℕ) → j < 2 → get_or (drop (2 * i) b) j 0 ≡ get_or (drop (2 * i) a) j 0 = λ j g. get_or-drop (2 * i) b j 0
    ∙ p.same (2 * i + j) (omega arith) ∙ sym (get_or-drop (2 * i) a j 0) in
    rw (byte 0 (omega arith), byte 1 (omega arith)) refl

-- ---- lists, one by one

pub get_or_any : {X : Type 0} (xs : List X) (i : ℕ) (d e : X) → i < length xs → get_or xs i d ≡ get_or xs i e
get_or_any [] i d e h = absurd (omega arith)
get_or_any (x ∷ xs) zero d e h = refl
get_or_any (x ∷ xs) (suc i) d e h = get_or_any xs i d e (omega arith)

-- if f gives the first n elements, and the next one, it gives one more
one_more : {X : Type 0} (xs : List X) (f : ℕ → X) (n j : ℕ) (x d : X) → j < n + 1 → n < length xs → f n ≡ get_or xs n x → (j < n → f j ≡ get_or xs j d)
    → f j ≡ get_or xs j d
one_more xs f n j x d g h next before =
    elim (cases_eq j n) [
      | inl same ↦ rw same (next ∙ get_or_any xs n x d h)
      | inr other ↦ before (omega arith)
    ]

-- what the first n elements give, and then the next one
joined_on : {X : Type 0} (f : X → List ℕ) (old mid new : List ℕ) (xs : List X) (n : ℕ) (x : X) → mid ≡ old ++ flat_map f (take n xs) → new ≡ mid ++ f x
    → n < length xs → x ≡ get_or xs n x → new ≡ old ++ flat_map f (take (n + 1) xs)
joined_on {X} f old mid new xs n x p q h e =
    let up : n + 1 ≡ suc n = omega arith in
    let next : take (suc n) xs ≡ take n xs ++ x ∷ [] = take-suc xs n x h ∙ ap (λ (y : X). take n xs ++ y ∷ []) (sym e) in
    rw (up, next) (q ∙ ap (λ (m : List ℕ). m ++ f x) p ∙ flat_map_more f old (take n xs) x)

pub words_more : (old mid new ws : List ℕ) (w n : ℕ) → PutsWords old mid ws n → PutsWord mid new w → w ≡ get_or ws n w → n < length ws
    → PutsWords old new ws (n + 1)
words_more old mid new ws w n p q e h =
    let pl = p.len in let ql = q.len in
    record {
      adds = adds_trans old mid new p.adds q.adds;
      len = omega arith;
      words_are = λ i j f g. one_more ws (λ k. word_at new (i + k)) n j w 0 g h (q.word_is (i + n) (omega arith) ∙ e)
          (λ b. word_stays mid new (i + j) q.adds (omega arith) ∙ p.words_are i j f b);
      bytes = joined_on (λ m. little_bytes 4 m) old mid new ws n w p.bytes q.bytes h e;
    }

pub halves_more : (old mid new hs : List ℕ) (w n : ℕ) → PutsHalves old mid hs n → PutsHalf mid new w → w ≡ get_or hs n w → n < length hs
    → PutsHalves old new hs (n + 1)
halves_more old mid new hs w n p q e h =
    let pl = p.len in let ql = q.len in
    record {
      adds = adds_trans old mid new p.adds q.adds;
      len = omega arith;
      halves_are = λ i j f g. one_more hs (λ k. half_at new (i + k)) n j w 0 g h (q.half_is (i + n) (omega arith) ∙ e)
          (λ b. half_stays mid new (i + j) q.adds (omega arith) ∙ p.halves_are i j f b);
      bytes = joined_on (λ m. little_bytes 2 m) old mid new hs n w p.bytes q.bytes h e;
    }

numbers_joined : (old mid new : List ℕ) (zs : List ℤ) (z : ℤ) (w n : ℕ) → mid ≡ old ++ words (map (cast_unsigned w32) (take n zs))
    → new ≡ mid ++ little_bytes 4 w → w ≡ cast_unsigned w32 z → z ≡ get_or zs n z → n < length zs
    → new ≡ old ++ words (map (cast_unsigned w32) (take (n + 1) zs))
numbers_joined old mid new zs z w n p q u e h =
    let each : (ys : List ℤ) → words (map (cast_unsigned w32) ys) ≡ flat_map (λ y. little_bytes 4 (cast_unsigned w32 y)) ys =
    λ ys. flat_map-map (λ m. little_bytes 4 m) (cast_unsigned w32) ys in
    joined_on (λ y. little_bytes 4 (cast_unsigned w32 y)) old mid new zs n z (p ∙ ap (λ (bs : List ℕ). old ++ bs) (each (take n zs)))
    (q ∙ ap (λ m. mid ++ little_bytes 4 m) u) h e ∙ ap (λ (bs : List ℕ). old ++ bs) (sym (each (take (n + 1) zs)))

pub numbers_more : (old mid new : List ℕ) (numbers : List ℤ) (z : ℤ) (w n : ℕ) → PutsNumbers old mid numbers n → PutsWord mid new w → cast_signed w32 w ≡ z
    → w ≡ cast_unsigned w32 z → z ≡ get_or numbers n z → n < length numbers → PutsNumbers old new numbers (n + 1)
numbers_more old mid new numbers z w n p q t u e h =
    let pl = p.len in let ql = q.len in
    record {
      adds = adds_trans old mid new p.adds q.adds;
      len = omega arith;
      numbers_are = λ i j d f g. one_more numbers (λ k. cast_signed w32 (word_at new (i + k))) n j z d g h
          (ap (cast_signed w32) (q.word_is (i + n) (omega arith)) ∙ t ∙ e)
          (λ b. ap (cast_signed w32) (word_stays mid new (i + j) q.adds (omega arith)) ∙ p.numbers_are i j d f b);
      bytes = numbers_joined old mid new numbers z w n p.bytes q.bytes u e h;
    }

-- ---- padding

-- the last of three bytes of padding
pub padded : (old new : List ℕ) (k n : ℕ) → PutsBytes old new (take n (drop k (replicate 3 170))) → All (λ b. b ≡ 170) (drop (length old) new)
padded old new k n p =
    rw p.bytes_are (All-take (λ (b : ℕ). b ≡ 170) n (drop k (replicate 3 170)) (All-drop (λ (b : ℕ). b ≡ 170) k (replicate 3 170)
    (All-replicate (λ (b : ℕ). b ≡ 170) 3 170 refl)))

pub not_padded : (old : List ℕ) → All (λ b. b ≡ 170) (drop (length old) old)
not_padded old = rw (drop_all (length old) old (omega arith)) (All-nil (λ (b : ℕ). b ≡ 170))
