-- The file of a tree, byte by byte.
use Rattle.std.proofs.Common.{◌≡◌, ℕ, zero, suc, ◌+◌, ◌*◌, ◌/◌, ◌<◌, Bool, true, false, List, [], ◌∷◌, ◌++◌, length, get_or, drop, map, refl, sym, ap, ◌∙◌, arith, Bor}
use Rattle.std.specs.Prelude.{Contains}
use Rattle.std.specs.Ordering.{is_lt, nat_cmp, ordering_then}
use Rattle.std.specs.declared.cmp.Ordering.{Ordering}
use Rattle.std.specs.declared.cmp.Ordering.TheVariants.{Less, Equal, Greater}
use Rattle.std.specs.Cmp.Lexicographic.{slice_cmp}
use Rattle.std.specs.List.Sorted.{IsSorted}
use Rattle.std.proofs.Math.Seq.{drop-append_seam}
use Rattle.std.proofs.lemmas.Cmp.{nat_list_eq_equiv}
use Rattle.std.proofs.lemmas.Slice.Eq.{bytes_eq-Decides}
use Rattle.std.proofs.lemmas.List.{append_assoc, length-append, length-map, get_or-map, take-append-drop}
use Rattle.std.proofs.lemmas.List.Kept.{Contains-dedup, Contains-from_dedup}
use Rattle.std.specs.Str.{bytes_eq}
use Rattle.rb_tree.specs.Resource.{Resource}
use Rattle.rb_writer.specs.Longest.{longest}
use Rattle.rb_writer.specs.Header.{header}
use Rattle.rb_writer.specs.Bytes.{words, padded}
use Rattle.rb_writer.specs.KeyList.{key_data, key_place, AreKeysOf}
use Rattle.rb_writer.specs.Values.{data_of, item_of}
use Rattle.rb_writer.specs.Written.{index_count, keys_start, front_words, values_start, values_data, root_item, file_of}
use Rattle.rb_writer.specs.declared.area.KeyArea.{KeyArea}
use Rattle.rb_writer.specs.declared.keys.KeyOffsets.{KeyOffsets}
use Rattle.rb_writer.specs.inner.Collected.{Has, GathersKeys, names}
use Rattle.rb_writer.specs.inner.Keying.{distinct, KeysWritten}
use Rattle.rb_writer.specs.inner.Standing.{TreeLaid}
use Rattle.rb_writer.specs.inner.Whole.{IsFile}
use Rattle.rb_writer.proofs.Collecting.{each_has}
use Rattle.rb_writer.proofs.Gathered.{has_at}
use Rattle.rb_writer.proofs.Once.{strict}

-- ---- keys that were sorted with their numbers

not_less : (a b : Ordering) → is_lt (ordering_then a b) ≡ false → is_lt a ≡ false
not_less Less b h = h
not_less Equal b h = refl
not_less Greater b h = refl

name_now : (ps : List (Bor (List ℕ) × ℕ)) (i : ℕ) (e : Bor (List ℕ) × ℕ) → get_or (map (λ r. r.now) (names ps)) i e.0.now ≡ (get_or ps i e).0.now
name_now [] i e = refl
name_now (p ∷ ps) zero e = refl
name_now (p ∷ ps) (suc i) e = name_now ps i e

pub names_ascend : (ps : List (Bor (List ℕ) × ℕ)) → IsSorted (λ a b. ordering_then (slice_cmp nat_cmp a.0.now b.0.now) (nat_cmp a.1 b.1)) ps
    → IsSorted (slice_cmp nat_cmp) (map (λ r. r.now) (names ps))
names_ascend ps h k d z l =
    let e : Bor (List ℕ) × ℕ = (record { ref_ptr = (0, 0); now = d }, 0) in
    let len : length (map {A = Bor (List ℕ)} (λ r. r.now) (names ps)) ≡ length ps = length-map (names ps) (λ r. r.now) ∙ length-map ps (λ q. q.0) in
    let low : k + 1 < length ps = omega (arith, len, l) in
    rw (name_now ps (k + 1) e, name_now ps k e) (not_less (slice_cmp nat_cmp (get_or ps (k + 1) e).0.now (get_or ps k e).0.now)
    (nat_cmp (get_or ps (k + 1) e).1 (get_or ps k e).1) (h k e z low))

-- ---- the keys of a tree

has_listed : (keys : List (Bor (List ℕ))) (k : List ℕ) → Has keys k → Contains (map (λ r. r.now) keys) k
has_listed keys k h =
    let low = h.1.1 in (
      h.1.0,
      omega (arith, length-map keys (λ r. r.now), low),
      get_or-map (λ (r : Bor (List ℕ)). r.now) keys h.1.0 h.0 k low
          ∙ ap (λ (r : Bor (List ℕ)). r.now) h.1.2 ∙ h.2,
    )

listed_has : (keys : List (Bor (List ℕ))) (k : List ℕ) → Contains (map (λ r. r.now) keys) k → Has keys k
listed_has keys k c =
    let d : Bor (List ℕ) = record { ref_ptr = (0, 0); now = [] } in
    let at = c.1 in
    let low : c.0 < length keys = omega (arith, length-map keys (λ r. r.now), at) in
    has_at keys c.0 k d low (sym (get_or-map (λ (r : Bor (List ℕ)). r.now) keys c.0 d k low) ∙ c.2)

pub are_keys : (t : Resource) (keys : List (Bor (List ℕ))) → GathersKeys t keys → IsSorted (slice_cmp nat_cmp) (map (λ r. r.now) keys)
    → AreKeysOf t (distinct (map (λ r. r.now) keys))
are_keys t keys g sorted = record {
  ascend = strict (map (λ r. r.now) keys) sorted;
  all = λ k c. Contains-dedup nat_list_eq_equiv (λ x y e. (bytes_eq-Decides x y).0 e) (map (λ r. r.now) keys) k
      (has_listed keys k (each_has (λ q. Has keys q) t k g.covered c));
  only = λ k c. g.only k (listed_has keys k (Contains-from_dedup bytes_eq (map (λ r. r.now) keys) k c));
}

-- ---- the file

front_len : (b : Bool) (r c k e m : ℕ) → length (front_words b r c k e m) ≡ 1 + index_count b
front_len true r c k e m = refl
front_len false r c k e m = refl

pub file_is : (b : Bool) (t : Resource) (ks : List (List ℕ)) (old mid out file : List ℕ) (keys : KeyOffsets) (area : KeyArea) (root most : ℕ)
    → IsFile b out root area most file → area.indexes ≡ index_count b → length old ≡ 4 * (1 + area.indexes) → KeysWritten old mid keys ks
    → TreeLaid keys mid out t root → area.top ≡ length mid / 4 → most ≡ longest t → file ≡ file_of (distinct ks) t b
file_is b t ks old mid out file keys area root most f count start written laid top long =
    let ds : List (List ℕ) = distinct ks in
    let area_data : List ℕ = padded (key_data ds) in
    let values : List ℕ = values_data ds t b in
    let s : length old ≡ keys_start b = start ∙ ap (λ n. 4 * (1 + n)) count in
    let m : length mid ≡ values_start ds b = ap length written.joined ∙ length-append old area_data ∙ ap (λ n. n + length area_data) s in
    let p = laid (key_place (length old) ds) written.places in
    let out_is : out ≡ mid ++ values = p.joined ∙ ap (λ n. mid ++ data_of (key_place n ds) (length mid) t) s
    ∙ ap (λ n. mid ++ data_of (key_place (keys_start b) ds) n t) m in
    let root_is : root ≡ root_item ds t b = p.place_is ∙ ap (λ n. item_of (key_place n ds) (length mid) t) s
    ∙ ap (λ n. item_of (key_place (keys_start b) ds) n t) m in
    let len : length out ≡ values_start ds b + length values = ap length out_is ∙ length-append mid values ∙ ap (λ n. n + length values) m in
    let whole : out ≡ old ++ (area_data ++ values) = out_is ∙ ap (λ (x : List ℕ). x ++ values) written.joined ∙ append_assoc old area_data values in
    let ws : List ℕ = front_words b root area.indexes area.top (length out / 4) most in
    let at : 4 * length ws ≡ length old = ap (λ n. 4 * n) (front_len b root area.indexes area.top (length out / 4) most) ∙ sym s in
    let behind : drop (4 * length ws) out ≡ area_data ++ values = rw (at, whole) (drop-append_seam old (area_data ++ values)) in
    let words_are : ws ≡ front_words b (root_item ds t b) (index_count b) (values_start ds b / 4) ((values_start ds b + length values) / 4) (longest t) =
    ap (λ n. front_words b n area.indexes area.top (length out / 4) most) root_is
    ∙ ap (λ n. front_words b (root_item ds t b) n area.top (length out / 4) most) count
    ∙ ap (λ n. front_words b (root_item ds t b) (index_count b) n (length out / 4) most) (top ∙ ap (λ n. n / 4) m)
    ∙ ap (λ n. front_words b (root_item ds t b) (index_count b) (values_start ds b / 4) (n / 4) most) len
    ∙ ap (front_words b (root_item ds t b) (index_count b) (values_start ds b / 4) ((values_start ds b + length values) / 4)) long in
    sym (take-append-drop 32 file) ∙ ap (λ (x : List ℕ). x ++ drop 32 file) f.front ∙ ap (λ (x : List ℕ). header b ++ x) (f.indexed.bytes
    ∙ ap (λ (x : List ℕ). words ws ++ x) behind ∙ ap (λ (x : List ℕ). words x ++ (area_data ++ values)) words_are)
