-- Proves which bytes are written for a value.
use Rattle.std.proofs.Common.{◌≡◌, ℕ, ◌+◌, ◌-◌, ◌/◌, ◌%◌, ◌<◌, ◌≤◌, ℤ, true, false, List, [], ◌∷◌, ◌++◌, length, get_or, take, map, replicate, refl, sym, ap, ◌∙◌, arith, subst, inl, inr}
use Rattle.std.specs.Int.{cast_unsigned, w32}
use Rattle.std.proofs.lemmas.Grind.{flat_map-append}
use Rattle.std.proofs.lemmas.List.{append_assoc, append-nil, length-append, length-replicate, take-replicate}
use Rattle.std.proofs.Math.Seq.{take-length}
use Rattle.byteorder.specs.Endian.{little_bytes}
use Rattle.rb_writer.specs.Bytes.{words, halves, padded, if_any, place_of}
use Rattle.rb_writer.specs.Values.{text_data, numbers_data, binary_data, skipped}
use Rattle.rb_writer.specs.Values.{array_data, table_data, table_item, item_word}
use Rattle.rb_format.specs.declared.kind.ItemKind.TheVariants as kinds
use Rattle.rb_format.specs.Item.{offset_of}
use Rattle.rb_writer.specs.inner.Growth.{PutsWord, PutsWords, PutsNumbers, PutsHalf, PutsHalves, PutsBytes, Laid}
use Rattle.rb_writer.specs.inner.Standing.{PutsArray, PutsShort, PutsLong, WritesAs, WritesTable, PlacesAre, AreAt}
use Rattle.rb_writer.specs.declared.keys.KeyOffsets.{KeyOffsets}
use Rattle.rb_tree.specs.Resource.{Members}
use Rattle.rb_tree.specs.Keys.{pairs}
use Rattle.std.specs.Map.{keys_of}
use Rattle.std.proofs.lemmas.List.{take_all, length-map, get_or-map, ext_get_or}
use Rattle.std.proofs.lemmas.Option.{slice_get-get_or}

if_some : {A : Type 0} (xs : List A) (bytes : List ℕ) → 0 < length xs → if_any xs bytes ≡ bytes
if_some [] bytes h = absurd (omega arith)
if_some (x ∷ xs) bytes h = refl

place_some : {A : Type 0} (n : ℕ) (xs : List A) → 0 < length xs → place_of n xs ≡ n / 4
place_some n [] h = absurd (omega arith)
place_some n (x ∷ xs) h = refl

pub some_laid : {A : Type 0} (old new : List ℕ) (xs : List A) (bytes : List ℕ) (n o : ℕ) → 0 < length xs → new ≡ old ++ bytes → o ≡ n / 4
    → Laid old new (if_any xs bytes) (place_of n xs) o
some_laid old new xs bytes n o h p e = record { joined = rw (if_some xs bytes h) p; place_is = rw (place_some n xs h) e }

-- padding counts from the last whole word
pub padded_behind : (old bytes : List ℕ) → length old % 4 ≡ 0 → padded (old ++ bytes) ≡ old ++ padded bytes
padded_behind old bytes h =
    let same : (4 - length (old ++ bytes) % 4) % 4 ≡ (4 - length bytes % 4) % 4 = omega (arith, length-append old bytes) in
    rw same (append_assoc old bytes (replicate ((4 - length bytes % 4) % 4) 170))

three : (a b c d : List ℕ) → a ++ b ++ c ++ d ≡ a ++ (b ++ c ++ d)
three a b c d = append_assoc (a ++ b) c d ∙ append_assoc a b (c ++ d) ∙ ap (λ (m : List ℕ). a ++ m) (sym (append_assoc b c d))

pub bytes_laid : (old z a b new bs skip : List ℕ) (o : ℕ) → 0 < length bs → length old % 4 ≡ 0 → o ≡ length z / 4 → PutsBytes old z skip
    → skip ≡ replicate (skipped (length old)) 170 → PutsWord z a (length bs) → PutsBytes a b bs → new ≡ padded b
    → Laid old new (binary_data (length old) bs) (place_of (length old + skipped (length old)) bs) o
bytes_laid old z a b new bs skip o some whole at p s q r e =
    let n = skipped (length old) in
    let z_is : z ≡ old ++ replicate n 170 = p.joined ∙ ap (λ (m : List ℕ). old ++ m) s in
    let a_is : a ≡ old ++ replicate n 170 ++ words (length bs ∷ []) = q.bytes ∙ ap (λ (m : List ℕ). m ++ words (length bs ∷ [])) z_is in
    let b_is : b ≡ old ++ (replicate n 170 ++ words (length bs ∷ []) ++ bs) = r.joined ∙ ap (λ (m : List ℕ). m ++ bs) a_is
    ∙ three old (replicate n 170) (words (length bs ∷ [])) bs in
    let count : length (replicate {A = ℕ} n 170) ≡ n = length-replicate n 170 in
    let len : length z ≡ length old + n = omega (arith, p.len, ap length s, count) in
    some_laid old new bs (padded (replicate n 170 ++ words (length bs ∷ []) ++ bs)) (length old + n) o some
    (e ∙ ap padded b_is ∙ padded_behind old (replicate n 170 ++ words (length bs ∷ []) ++ bs) whole) (at ∙ ap (λ m. m / 4) len)

pub cut_padding : (n k : ℕ) → n % 4 ≡ 0 → k ≡ n → take ((28 - k % 16) % 16) (replicate {A = ℕ} 12 170) ≡ replicate (skipped n) 170
cut_padding n k h e =
    let few : skipped n ≤ 12 = omega (arith, h) in
    let cut : take (skipped n) (replicate {A = ℕ} 12 170) ≡ replicate (skipped n) 170 = take-replicate (skipped n) 12 170 few in
    rw e cut

-- ---- arrays and tables

-- words that were put are all of a list
words_put : (a new ws : List ℕ) → PutsWords a new ws (length ws) → new ≡ a ++ words ws
words_put a new ws p = p.bytes ∙ ap (λ (m : List ℕ). a ++ words m) (take-length ws)

pub array_laid : (mid new items : List ℕ) (o : ℕ) → 0 < length items → PutsArray mid new items o
    → Laid mid new (array_data items) (place_of (length mid) items) o
array_laid mid new items o some p =
    let joined : new ≡ mid ++ words (length items ∷ items) = words_put p.a new items p.children ∙ ap (λ (m : List ℕ). m ++ words items) p.count.bytes
    ∙ append_assoc mid (little_bytes 4 (length items)) (words items) in
    some_laid mid new items (words (length items ∷ items)) (length mid) o some joined p.stands

short_laid : (mid new offsets items : List ℕ) (item : ℕ) → WritesAs kinds.Table true (PutsShort mid new offsets items (offset_of item)) offsets items item
    → length offsets ≡ length items → 0 < length items → length mid % 4 ≡ 0
    → Laid mid new (table_data offsets items) (table_item (length mid) offsets items) item
short_laid mid new offsets items item w same some whole =
    let p = w.puts in
    let heads : List ℕ = halves (length items ∷ offsets) in
    let b_is : p.b ≡ mid ++ heads = p.keys.bytes ∙ ap (λ (m : List ℕ). p.a ++ halves m) (take_all (length items) offsets (omega (arith, same)))
    ∙ ap (λ (m : List ℕ). m ++ halves offsets) p.count.bytes ∙ append_assoc mid (little_bytes 2 (length items)) (halves offsets) in
    let c_is : p.c ≡ mid ++ padded heads = p.filled ∙ ap padded b_is ∙ padded_behind mid heads whole in
    let joined : new ≡ mid ++ (padded heads ++ words items) = words_put p.c new items p.children ∙ ap (λ (m : List ℕ). m ++ words items) c_is
    ∙ append_assoc mid (padded heads) (words items) in
    let fit = w.fitting in
    record {
      joined = rw (fit, if_some items (padded heads ++ words items) some) joined;
      place_is = rw (fit, place_some (length mid) items some) (w.word ∙ ap (item_word kinds.Table) p.stands);
    }

long_laid : (mid new offsets items : List ℕ) (item : ℕ) → WritesAs kinds.LongTable false (PutsLong mid new offsets items (offset_of item)) offsets items item
    → length offsets ≡ length items → 0 < length items
    → Laid mid new (table_data offsets items) (table_item (length mid) offsets items) item
long_laid mid new offsets items item w same some =
    let p = w.puts in
    let all : List ℕ = words (length items ∷ (offsets ++ items)) in
    let b_is : p.b ≡ p.a ++ words offsets = p.keys.bytes ∙ ap (λ (m : List ℕ). p.a ++ words m) (take_all (length items) offsets (omega (arith, same))) in
    let joined : new ≡ mid ++ all = words_put p.b new items p.children ∙ ap (λ (m : List ℕ). m ++ words items) b_is
    ∙ append_assoc p.a (words offsets) (words items) ∙ ap (λ (m : List ℕ). p.a ++ m) (sym (flat_map-append (λ n. little_bytes 4 n) offsets items))
    ∙ ap (λ (m : List ℕ). m ++ words (offsets ++ items)) p.count.bytes ∙ append_assoc mid (little_bytes 4 (length items)) (words (offsets ++ items)) in
    let fit = w.fitting in
    record {
      joined = rw (fit, if_some items all some) joined;
      place_is = rw (fit, place_some (length mid) items some) (w.word ∙ ap (item_word kinds.LongTable) p.stands);
    }

-- the offsets of keys are where they are
offsets_are : (keys : KeyOffsets) (at : List ℕ → ℕ) (ks : List (List ℕ)) (offsets : List ℕ) → AreAt keys at → PlacesAre keys ks offsets (length ks)
    → offsets ≡ map at ks
offsets_are keys at ks offsets a p =
    let c = p.count in
    ext_get_or 0 offsets (map at ks) (c ∙ sym (length-map ks at)) (λ j h.
    let below : j < length ks = omega (arith, c) in
    sym (a (get_or ks j []) (get_or offsets j 0) (p.are j (get_or ks j []) below (sym (slice_get-get_or ks j [] below)))) ∙ sym (get_or-map at ks j [] 0 below))

pub table_laid : (keys : KeyOffsets) (at : List ℕ → ℕ) (es : Members) (mid new items : List ℕ) (item : ℕ) → AreAt keys at
    → WritesTable keys es mid new items item → length items ≡ length (pairs es) → 0 < length items → length mid % 4 ≡ 0
    → Laid mid new (table_data (map at (keys_of (pairs es))) items) (table_item (length mid) (map at (keys_of (pairs es))) items) item
table_laid keys at es mid new items item a w same some whole =
    let ks : List (List ℕ) = keys_of (pairs es) in
    let kl : length ks ≡ length (pairs es) = length-map (pairs es) (λ q. q.0) in
    let os : w.offsets ≡ map at ks = offsets_are keys at ks w.offsets a (rw kl w.places) in
    let len : length w.offsets ≡ length items = w.places.count ∙ sym same in
    subst (λ (xs : List ℕ). Laid mid new (table_data xs items) (table_item (length mid) xs items) item) os (elim w.written [
      | inl p ↦ short_laid mid new w.offsets items item p len some whole
      | inr p ↦ long_laid mid new w.offsets items item p len some
    ])
