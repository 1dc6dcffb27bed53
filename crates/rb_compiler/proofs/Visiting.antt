-- Proves how many places a file of the writer has.
use Rattle.std.proofs.Common.{◌≡◌, ℕ, ◌+◌, ◌*◌, ◌/◌, ◌≤◌, Bool, true, false, List, [], ◌∷◌, ◌++◌, length, drop, Option, Some, refl, sym, ap, subst, ◌∙◌, arith}
use Rattle.std.proofs.lemmas.Bool.{ltb-false}
use Rattle.std.specs.Prelude.{if◌then◌else◌, unwrap_or}
use Rattle.std.proofs.lemmas.List.{append_assoc, append-nil, length-append, length-drop}
use Rattle.byteorder.specs.Endian.{little_bytes}
use Rattle.rb_tree.specs.Resource.{Resource, int}
use Rattle.rb_tree.specs.SourceTree.{SourceTree}
use Rattle.rb_format.specs.File.{Denotes, flagged, source_tree_of}
use Rattle.rb_format.specs.Place.{word_at, half_at, layout_of}
use Rattle.rb_format.specs.Attributes.{attributes_of}
use Rattle.rb_format.specs.inner.FirstFault.{header, read, read_data, read_file}
use Rattle.rb_format.proofs.Root.{read_denotes}
use Rattle.rb_format.proofs.Steps.{bind_ok, map_ok, guard, guard_else}
use Rattle.rb_writer.specs.Bytes.{words, padded}
use Rattle.rb_writer.specs.Containers.{containers}
use Rattle.rb_writer.specs.Header as heads
use Rattle.rb_writer.specs.KeyList.{key_data, key_place}
use Rattle.rb_writer.specs.Longest.{longest}
use Rattle.rb_writer.specs.Written.{index_count, keys_start, values_start, values_data, root_item, file_end, IsFileOf}
use Rattle.rb_writer.proofs.Puts.{drop_append}
use Rattle.rb_validator.specs.Visits.{IsPlaceAt, IsCount, HasVisits}
use Rattle.rb_compiler.proofs.Ints.{IsSmall, read_small}
use Rattle.rb_compiler.proofs.Sites.{IsAt, first, word_is, words_len, padded_whole, tree_sites, sites_count}

-- a file that denotes a tree is short, and the tree's Ints are small
record IsPlain (file : List ℕ) (t : Resource) : Type 0 where
  pub short : length file ≤ 67108864
  pub small : IsSmall t

plain : (file : List ℕ) (s : SourceTree) → Denotes file s → IsPlain file s.tree
unfolding read_file read_data
plain file s d =
    let a = guard _ _ _ s (read_denotes file s d) in
    let b = bind_ok (header file) (λ h. read_data 64 h.minor (drop h.size file)) s a.1 in
    let body : List ℕ = drop b.0.size file in
    let c = guard _ _ _ s (guard_else _ _ _ s b.2).1 in
    let e = map_ok (flagged (attributes_of b.0.minor body)) (read (layout_of body) body 64 (word_at body 0)) s (guard_else _ _ _ s c.1).1 in
    record {
      short = ltb-false 67108864 (length file) a.0;
      small = subst (λ (x : SourceTree). IsSmall x.tree) e.2 (read_small (layout_of body) body 64 (word_at body 0) e.0 e.1);
    }

-- a file that denotes a bundle denotes its own
pub own_bundle : (file : List ℕ) (s : SourceTree) → Denotes file s → Denotes file (source_tree_of file)
own_bundle file s d = d ∙ ap (λ (o : Option SourceTree). Some (unwrap_or o (record { tree = int 0; no_fallback = false }))) (sym d)

head_size : (b : Bool) (rest : List ℕ) → half_at (heads.header b ++ rest) 0 ≡ 32
unfolding half_at
head_size b rest = refl

-- the words in front after the root item
abbrev rest_of : Bool → ℕ → ℕ → ℕ → ℕ → List ℕ
rest_of b c k e m = c ∷ k ∷ e ∷ e ∷ m ∷ (if b then 1 ∷ [] else [])

front_len : (b : Bool) (r c k e m : ℕ) → length (r ∷ rest_of b c k e m) ≡ 1 + index_count b
front_len true r c k e m = refl
front_len false r c k e m = refl

-- the data of a file are the words in front, the keys and the values
laid_count : (t : Resource) (b : Bool) (ks : List (List ℕ)) (c k e m : ℕ) (body : List ℕ)
    → body ≡ words (root_item ks t b ∷ rest_of b c k e m) ++ (padded (key_data ks) ++ values_data ks t b) → length body ≤ 67108864 → IsSmall t
    → IsCount (IsPlaceAt body) (3 * (length body / 4)) (containers t)
laid_count t b ks c k e m body is short small =
    let root : ℕ = root_item ks t b in
    let front : List ℕ = words (root ∷ rest_of b c k e m) in
    let area : List ℕ = padded (key_data ks) in
    let values : List ℕ = values_data ks t b in
    let n : ℕ = values_start ks b in
    let fl = words_len (root ∷ rest_of b c k e m) in
    let fw = front_len b root c k e m in
    let at : IsAt body n values = record {
      before = front ++ area;
      after = [];
      is = is ∙ sym (append_assoc front area values) ∙ ap (λ (x : List ℕ). (front ++ area) ++ x) (sym (append-nil values));
      start = omega (arith, length-append front area, fl, fw);
    } in
    let end : n + length values ≡ length body = omega (arith, ap length is, length-append front (area ++ values), length-append area values, fl, fw) in
    let whole = padded_whole (key_data ks) in
    let s = tree_sites body short (key_place (keys_start b) ks) n t at (omega arith) (omega arith) small in
    let head : IsAt body 0 front = record { before = []; after = area ++ values; is = is; start = refl } in
    sites_count body n values root (containers t) s
    (word_is body 0 root (first body 0 (little_bytes 4 root) (words (rest_of b c k e m)) head) s.small.0) end

-- the file of a tree has a place for each array and each table with items
pub file_visits : (t : Resource) (b : Bool) (file : List ℕ) → IsFileOf t b file → HasVisits file (containers t)
file_visits t b file f =
    let ks : List (List ℕ) = f.bytes.keys in
    let p = plain file (record { tree = t; no_fallback = b }) f.denotes in
    let body : List ℕ = drop 32 file in
    let rest : List ℕ = words (root_item ks t b ∷ rest_of b (index_count b) (values_start ks b / 4) (file_end ks t b) (longest t))
    ++ (padded (key_data ks) ++ values_data ks t b) in
    let file_is : file ≡ heads.header b ++ rest = f.bytes.bytes in
    let size : half_at file 0 ≡ 32 = ap (λ (x : List ℕ). half_at x 0) file_is ∙ head_size b rest in
    let body_is : body ≡ rest = ap (drop 32) file_is ∙ drop_append 32 (heads.header b) rest refl in
    let short = p.short in let end = f.end in
    let len = length-drop 32 file in
    let count = laid_count t b ks (index_count b) (values_start ks b / 4) (file_end ks t b) (longest t) body body_is (omega (arith, len)) p.small in
    let top : length body / 4 ≡ word_at body 4 = omega (arith, len) in
    subst (λ (x : ℕ). IsCount (IsPlaceAt (drop x file)) (3 * word_at (drop x file) 4) (containers t)) (sym size) (subst (λ (x : ℕ). IsCount (IsPlaceAt body) (3 * x) (containers t)) top count)
