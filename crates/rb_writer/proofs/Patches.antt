-- Words that were replaced, and the file that comes of them.
use Rattle.std.proofs.Common.{◌≡◌, ℕ, ◌+◌, ◌-◌, ◌*◌, ◌/◌, ◌^◌, ◌<◌, ◌≤◌, Bool, true, false, List}
use Rattle.std.proofs.Common.{[], ◌∷◌, ◌++◌, length, get_or, take, drop, refl, sym, ap, ◌∙◌, arith, subst}
use Rattle.std.proofs.lemmas.List.{get_or_append_left, get_or-append_right, length-append, length-drop, length-take, get_or-drop}
use Rattle.std.proofs.Math.Seq.{drop-append_seam}
use Rattle.std.proofs.lemmas.Grind.{flat_map-append}
use Rattle.rb_writer.specs.Bytes.{words}
use Rattle.rb_writer.specs.Written.{front_words}
use Rattle.rb_writer.specs.inner.Whole.{StartsWith}
use Rattle.std.proofs.lemmas.List.{append_assoc, drop-drop}
use Rattle.std.proofs.lemmas.List.{get_or-take, take-append-le, take_all, drop_all, append-nil}
use Rattle.byteorder.specs.Endian.{little_bytes}
use Rattle.byteorder.specs.Numbers.{little_number-reads_back}
use Rattle.rb_format.specs.Place.{word_at}
use Rattle.rb_writer.specs.Header.{header}
use Rattle.rb_writer.specs.declared.area.KeyArea.{KeyArea}
use Rattle.rb_writer.specs.inner.Whole.{SetsWord, IsIndexed, IsFile}
use Rattle.rb_writer.specs.Written.{index_count}
use Rattle.rb_writer.proofs.Puts.{drop_append}

pub five_or_six : (b : Bool) (n : ℕ) → n ≡ index_count b → (5 ≤ n) × (n ≤ 6)
five_or_six true n e = (omega arith, omega arith)
five_or_six false n e = (omega arith, omega arith)

replaced : (old : List ℕ) (i w : ℕ) → 4 * i + 4 ≤ length old → w < 2 ^ 32
    → SetsWord old (take (4 * i) old ++ (little_bytes 4 w ++ drop 4 (drop (4 * i) old))) i w
unfolding word_at
replaced old i w h l =
    let front : length (take (4 * i) old) ≡ 4 * i = omega (arith, length-take (4 * i) old) in
    let mid : length (little_bytes 4 w) ≡ 4 = refl in
    record {
      len = omega (
        arith,
        length-append (take (4 * i) old) (little_bytes 4 w ++ drop 4 (drop (4 * i) old)),
        length-append (little_bytes 4 w)
            (drop 4 (drop (4 * i) old)),
        length-drop 4 (drop (4 * i) old),
        length-drop (4 * i) old,
      );
      word_is = rw (drop_append (4 * i) (take (4 * i) old) (little_bytes 4 w ++ drop 4 (drop (4 * i) old)) front)
          (little_number-reads_back 4 w (drop 4 (drop (4 * i) old)) l);
      before = λ j b. get_or_append_left (take (4 * i) old) (little_bytes 4 w ++ drop 4 (drop (4 * i) old)) 0 j (omega arith) ∙ get_or-take (4 * i) old j 0 b;
      after = λ j b.
          let at : 4 * i + (4 + (j - 4 * i - 4)) ≡ j = omega arith in
          get_or-append_right (take (4 * i) old) (little_bytes 4 w ++ drop 4 (drop (4 * i) old)) (4 * i) j 0 front (omega arith)
          ∙ get_or-append_right (little_bytes 4 w) (drop 4 (drop (4 * i) old)) 4 (j - 4 * i) 0 mid (omega arith)
          ∙ get_or-drop 4 (drop (4 * i) old) (j - 4 * i - 4) 0 ∙ get_or-drop (4 * i) old (4 + (j - 4 * i - 4)) 0 ∙ ap (λ m. get_or old m 0) at;
      bytes = refl;
    }

pub sets_word : (old : List ℕ) (i w : ℕ) (part : List ℕ) (k : ℕ) → part ≡ little_bytes 4 w → k ≡ 4 → 4 * i + 4 ≤ length old → w < 2 ^ 32
    → SetsWord old (take (4 * i) old ++ (part ++ drop k (drop (4 * i) old))) i w
sets_word old i w part k e f h l = rw (e, f) (replaced old i w h l)

-- an earlier word stays
kept : (a b : List ℕ) (i w j : ℕ) → SetsWord a b i w → j < i → word_at b j ≡ word_at a j
unfolding word_at
kept a b i w j s h =
    let byte : (k : ℕ) → k < 4 → get_or (drop (4 * j) b) k 0 ≡ get_or (drop (4 * j) a) k 0 = λ k g. get_or-drop (4 * j) b k 0
    ∙ s.before (4 * j + k) (omega arith) ∙ sym (get_or-drop (4 * j) a k 0) in
    rw (byte 0 (omega arith), byte 1 (omega arith), byte 2 (omega arith), byte 3 (omega arith)) refl

never : {A : Type 0} (b : Bool) → b ≡ false → b ≡ true → A
never b e f = absurd cc

words_len : (ws : List ℕ) → length (words ws) ≡ 4 * length ws
words_len [] = refl
words_len (w ∷ ws) = omega (arith, words_len ws)

-- one word more at the front
next_word : (b0 b c ws : List ℕ) (n w : ℕ) → n ≡ length ws → StartsWith ws b0 b → SetsWord b c n w → StartsWith (ws ++ w ∷ []) b0 c
next_word b0 b c ws n w e p s =
    let x : List ℕ = drop (4 * length ws) b0 in
    let at : 4 * n ≡ length (words ws) = omega (arith, words_len ws, e) in
    let front : take (4 * n) b ≡ words ws = rw (at, p) (take-append-le (length (words ws)) (words ws) x (omega arith) ∙ take_all (length (words ws)) (words ws) (omega arith)) in
    let behind : drop (4 * n) b ≡ x = rw (at, p) (drop-append_seam (words ws) x) in
    let further : drop 4 x ≡ drop (4 * length (ws ++ w ∷ [])) b0 = (let m : 4 * length (ws ++ w ∷ []) ≡ 4 * length ws + 4 = omega
    (arith, length-append ws (w ∷ [])) in rw m (drop-drop 4 (4 * length ws) b0)) in
    s.bytes ∙ ap (λ (m : List ℕ). m ++ (little_bytes 4 w ++ drop 4 (drop (4 * n) b))) front
    ∙ ap (λ (m : List ℕ). words ws ++ (little_bytes 4 w ++ drop 4 m)) behind ∙ ap (λ (m : List ℕ). words ws ++ (little_bytes 4 w ++ m)) further
    ∙ sym (append_assoc (words ws) (words (w ∷ [])) (drop (4 * length (ws ++ w ∷ [])) b0))
    ∙ ap (λ (m : List ℕ). m ++ drop (4 * length (ws ++ w ∷ [])) b0) (sym (flat_map-append (λ n. little_bytes 4 n) ws (w ∷ [])))

pub plain_indexed : (b : Bool) (b0 b1 b2 b3 b4 b5 b6 : List ℕ) (root most : ℕ) (area : KeyArea) → b ≡ false → 5 ≤ area.indexes → SetsWord b0 b1 0 root
    → SetsWord b1 b2 1 area.indexes → SetsWord b2 b3 2 area.top → SetsWord b3 b4 3 (length b0 / 4) → SetsWord b4 b5 4 (length b0 / 4) → SetsWord b5 b6 5 most
    → IsIndexed b b0 root area most b6
plain_indexed b b0 b1 b2 b3 b4 b5 b6 root most area e h s0 s1 s2 s3 s4 s5 = record {
  len = s5.len ∙ s4.len ∙ s3.len ∙ s2.len ∙ s1.len ∙ s0.len;
  root_is = kept b5 b6 5 _ 0 s5 (omega arith) ∙ kept b4 b5 4 _ 0 s4 (omega arith) ∙ kept b3 b4 3 _ 0 s3 (omega arith) ∙ kept b2 b3 2 _ 0 s2 (omega arith)
      ∙ kept b1 b2 1 _ 0 s1 (omega arith) ∙ s0.word_is;
  indexes = kept b5 b6 5 _ 1 s5 (omega arith) ∙ kept b4 b5 4 _ 1 s4 (omega arith) ∙ kept b3 b4 3 _ 1 s3 (omega arith) ∙ kept b2 b3 2 _ 1 s2 (omega arith)
      ∙ s1.word_is;
  keys_top = kept b5 b6 5 _ 2 s5 (omega arith) ∙ kept b4 b5 4 _ 2 s4 (omega arith) ∙ kept b3 b4 3 _ 2 s3 (omega arith) ∙ s2.word_is;
  items_top = kept b5 b6 5 _ 3 s5 (omega arith) ∙ kept b4 b5 4 _ 3 s4 (omega arith) ∙ s3.word_is;
  top = kept b5 b6 5 _ 4 s5 (omega arith) ∙ s4.word_is;
  longest = s5.word_is;
  attributes = never b e;
  same = λ i g. s5.after i (omega arith) ∙ s4.after i (omega arith) ∙ s3.after i (omega arith) ∙ s2.after i (omega arith) ∙ s1.after i (omega arith)
      ∙ s0.after i (omega arith);
  bytes =
      let n = length b0 / 4 in let i = area.indexes in let t = area.top in
      let w1 = next_word b0 b0 b1 [] 0 root refl refl s0 in
      let w2 = next_word b0 b1 b2 (root ∷ []) 1 i refl w1 s1 in
      let w3 = next_word b0 b2 b3 (root ∷ i ∷ []) 2 t refl w2 s2 in
      let w4 = next_word b0 b3 b4 (root ∷ i ∷ t ∷ []) 3 n refl w3 s3 in
      let w5 = next_word b0 b4 b5 (root ∷ i ∷ t ∷ n ∷ []) 4 n refl w4 s4 in
      rw e (next_word b0 b5 b6 (root ∷ i ∷ t ∷ n ∷ n ∷ []) 5 most refl w5 s5);
}

pub flagged_indexed : (b : Bool) (b0 b6 b7 : List ℕ) (root most : ℕ) (area : KeyArea) → b ≡ true → area.indexes ≡ 6 → IsIndexed false b0 root area most b6
    → SetsWord b6 b7 6 1 → IsIndexed b b0 root area most b7
flagged_indexed b b0 b6 b7 root most area flag e x s = record {
  len = s.len ∙ x.len;
  root_is = kept b6 b7 6 1 0 s (omega arith) ∙ x.root_is;
  indexes = kept b6 b7 6 1 1 s (omega arith) ∙ x.indexes;
  keys_top = kept b6 b7 6 1 2 s (omega arith) ∙ x.keys_top;
  items_top = kept b6 b7 6 1 3 s (omega arith) ∙ x.items_top;
  top = kept b6 b7 6 1 4 s (omega arith) ∙ x.top;
  longest = kept b6 b7 6 1 5 s (omega arith) ∙ x.longest;
  attributes = λ t. s.word_is;
  same = λ i g. s.after i (omega arith) ∙ x.same i g;
  bytes = rw flag (next_word b0 b6 b7 (front_words false root area.indexes area.top (length b0 / 4) most) 6 1 refl x.bytes s);
}

-- a header and data make a file
pub joined : (b : Bool) (out front body : List ℕ) (root : ℕ) (area : KeyArea) (most : ℕ) → front ≡ header b → IsIndexed b out root area most body
    → IsFile b out root area most (front ++ body)
joined b out front body root area most e x =
    let size : length front ≡ 32 = ap length e in
    let back : drop 32 (front ++ body) ≡ body = drop_append 32 front body size in
    record {
      long = omega (arith, length-append front body);
      front = take-append-le 32 front body (omega arith) ∙ take_all 32 front (omega arith) ∙ e;
      indexed = rw back x;
    }

-- a file that was written over another of its length
pub written_over : (b : Bool) (out : List ℕ) (root : ℕ) (area : KeyArea) (most n : ℕ) (given items : List ℕ) → IsFile b (drop 32 items) root area most given
    → drop 32 items ≡ out → 32 ≤ length items → n ≡ length items → IsFile b out root area most (take n (given ++ drop (length given) items))
written_over b out root area most n given items f e h l =
    let long = f.long in let x = f.indexed in let len = x.len in
    let same : length given ≡ length items = omega (arith, length-drop 32 given, length-drop 32 items) in
    let none : drop (length given) items ≡ [] = drop_all (length given) items (omega arith) in
    let all : take n (given ++ drop (length given) items) ≡ given = rw (none, append-nil given) (take_all n given (omega arith)) in
    rw all (subst (λ (o : List ℕ). IsFile b o root area most given) e f)
