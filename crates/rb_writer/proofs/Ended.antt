-- The file denotes the tree that was written.
use Rattle.std.proofs.Common.{◌≡◌, ℕ, zero, suc, ◌+◌, ◌*◌, ◌/◌, ◌<◌, ◌≤◌, Bool, true, false, cond, ltb, leb, List, length}
use Rattle.std.proofs.Common.{get_or, take, drop, Option, Some, None, Result, Ok, refl, sym, ap, ◌∙◌, arith, subst, inl, inr}
use Rattle.std.proofs.lemmas.Bool.Decides.{nat_tests}
use Rattle.std.proofs.lemmas.Bool.{le-ltb, lt-ltb}
use Rattle.std.proofs.lemmas.List.{get_or-drop, get_or-take, length-drop}
use Rattle.rb_tree.specs.Resource.{Resource, string, int, ints, binary, alias, array, table, height}
use Rattle.rb_format.specs.declared.fault.FileFault.{FileFault}
use Rattle.rb_format.specs.declared.layout.Layout.{Layout}
use Rattle.rb_format.specs.declared.kind.ItemKind.{ItemKind}
use Rattle.rb_format.specs.declared.kind.ItemKind.TheVariants as kinds
use Rattle.rb_format.proofs.Growing.{Grows}
use Rattle.rb_format.specs.Place.{word_at, half_at, layout_of}
use Rattle.rb_format.specs.inner.FirstFault.{header, read_data, read_file, result_map, read, node, value, contents, kind_or_fault}
use Rattle.rb_format.specs.File.{Denotes, has_valid_indexes}
use Rattle.rb_format.specs.Item.{is_table, bare, kind_of, offset_of}
use Rattle.rb_format.proofs.Grows.{read_grow}
use Rattle.rb_format.proofs.Steps.{bind_ok, map_ok, ok_is}
use Rattle.rb_format.proofs.Cases.{value_cases}
use Rattle.rb_writer.specs.inner.Growth.{IsDraft, draft}
use Rattle.rb_writer.specs.inner.Whole.{IsFile}
use Rattle.rb_writer.specs.Written.{index_count}
use Rattle.rb_writer.specs.Longest.{longest}
use Rattle.rb_tree.specs.Parts.{Fits}
use Rattle.rb_tree.specs.Parts as parts
use Rattle.rb_tree.specs.declared.kind.Kind.TheVariants as tree_kinds
use Rattle.rb_format.proofs.Levels.{read_raise}
use Rattle.rb_format.proofs.Root.{denotes_read}
use Rattle.rb_writer.specs.Header as heads
use Rattle.rb_writer.proofs.Patches.{five_or_six}
use Rattle.rb_writer.specs.declared.area.KeyArea.{KeyArea}
use Rattle.rb_format.specs.Attributes.{attributes_of}

half_front : (f xs : List ℕ) (i : ℕ) → get_or f (2 * i) 0 ≡ get_or xs (2 * i) 0 → get_or f (2 * i + 1) 0 ≡ get_or xs (2 * i + 1) 0 → half_at f i ≡ half_at xs i
unfolding half_at
half_front f xs i p q =
    let first : get_or (drop (2 * i) f) 0 0 ≡ get_or (drop (2 * i) xs) 0 0 = get_or-drop (2 * i) f 0 0 ∙ (let z : 2 * i + 0 ≡ 2 * i = omega arith in rw z p)
    ∙ sym (get_or-drop (2 * i) xs 0 0) in
    let second : get_or (drop (2 * i) f) 1 0 ≡ get_or (drop (2 * i) xs) 1 0 = get_or-drop (2 * i) f 1 0 ∙ q ∙ sym (get_or-drop (2 * i) xs 1 0) in
    rw (first, second) refl

half_header0 : (b : Bool) → half_at (heads.header b) 0 ≡ 32
unfolding half_at
half_header0 b = refl

half_header2 : (b : Bool) → half_at (heads.header b) 2 ≡ 20
unfolding half_at
half_header2 b = refl

-- the minor version that is written
abbrev minor_of : Bool → ℕ
minor_of b = cond b 2 1

minor_known : (b : Bool) → leb 1 (minor_of b) ≡ true
minor_known true = refl
minor_known false = refl

head_is : (b : Bool) (f : List ℕ) → take 32 f ≡ heads.header b → 32 ≤ length f → header f ≡ Ok (record { size = 32; minor = minor_of b })
unfolding header
head_is b f e h =
    let byte : (i : ℕ) → i < 32 → get_or f i 0 ≡ get_or (heads.header b) i 0 = λ i g. sym (get_or-take 32 f i 0 g) ∙ ap (λ (xs : List ℕ). get_or xs i 0) e in
    let size : half_at f 0 ≡ 32 = half_front f (heads.header b) 0 (byte 0 (omega arith)) (byte 1 (omega arith)) ∙ half_header0 b in
    let info : half_at f 2 ≡ 20 = half_front f (heads.header b) 2 (byte 4 (omega arith)) (byte 5 (omega arith)) ∙ half_header2 b in
    let long : ltb (length f) 24 ≡ false = le-ltb _ _ (omega arith) in
    let inside : leb 32 (length f) ≡ true = grind (arith, nat_tests) in
    rw (
      long,
      byte 2 (omega arith),
      byte 3 (omega arith),
      byte 12 (omega arith),
      byte 13 (omega arith),
      byte 14 (omega arith),
      byte 15 (omega arith),
      byte 8
          (omega arith),
      byte 9 (omega arith),
      byte 10 (omega arith),
      byte 16 (omega arith),
      byte 17 (omega arith),
      size,
      info,
      inside,
      minor_known b,
    ) refl

-- only a table's item stands for a table
abbrev has_table : Resource → Bool
has_table (string us) = false
has_table (int n) = false
has_table (ints zs) = false
has_table (binary bs) = false
has_table (alias us) = false
has_table (array ts) = false
has_table (table es) = true

no : {b : Bool} → b ≡ true → b ≡ false → ⊥
no e f = cc

map_never : {A : Type 0} (f : A → Resource) (r : Result A FileFault) (t : Resource) → ((x : A) → has_table (f x) ≡ false) → result_map f r ≡ Ok t
    → has_table t ≡ false
map_never f r t h e = let a = map_ok f r t e in subst (λ (x : Resource). has_table x ≡ false) a.2 (h a.0)

contents_kind : (y : Layout) (body : List ℕ) (child : ℕ → Result Resource FileFault) (o : ℕ) (k : ItemKind) (t : Resource) → contents y body child o k ≡ Ok t
    → has_table t ≡ true → is_table (Some k) ≡ true
unfolding contents
contents_kind y body child o kinds.Table t e h = refl
contents_kind y body child o kinds.LongTable t e h = refl
contents_kind y body child o kinds.String t e h = absurd (no h (map_never _ _ t (λ x. refl) e))
contents_kind y body child o kinds.Binary t e h = absurd (no h (map_never _ _ t (λ x. refl) e))
contents_kind y body child o kinds.Alias t e h = absurd (no h (map_never _ _ t (λ x. refl) e))
contents_kind y body child o kinds.Int t e h = let same : int o ≡ t = ok_is (int o) t e in absurd
    (no h (subst (λ (x : Resource). has_table x ≡ false) same refl))
contents_kind y body child o kinds.Array t e h = absurd (no h (map_never _ _ t (λ x. refl) e))
contents_kind y body child o kinds.Ints t e h = absurd (no h (map_never _ _ t (λ x. refl) e))

bare_kind : (o : ℕ) (k : ItemKind) → has_table (bare k o) ≡ true → is_table (Some k) ≡ true
bare_kind o kinds.Table h = refl
bare_kind o kinds.LongTable h = refl
bare_kind o kinds.String h = absurd (no h refl)
bare_kind o kinds.Binary h = absurd (no h refl)
bare_kind o kinds.Alias h = absurd (no h refl)
bare_kind o kinds.Int h = absurd (no h refl)
bare_kind o kinds.Array h = absurd (no h refl)
bare_kind o kinds.Ints h = absurd (no h refl)

node_kind : (y : Layout) (body : List ℕ) (child : ℕ → Result Resource FileFault) (item : ℕ) (t : Resource) → node y body child item ≡ Ok t → has_table t ≡ true
    → is_table (kind_of item) ≡ true
unfolding node
node_kind y body child item t e h =
    let a = bind_ok (kind_or_fault (kind_of item)) (λ k. value y body child (offset_of item) k) t e in
    by (kind_of item) a.0 a.1 (elim (value_cases y body child (offset_of item) a.0 t a.2) [
      | inl p ↦ contents_kind y body child (offset_of item) a.0 t p.1 h
      | inr p ↦ bare_kind (offset_of item) a.0 (subst (λ (x : Resource). has_table x ≡ true) (sym p.1) h)
    ])
  where
    by : (m : Option ItemKind) (k : ItemKind) → kind_or_fault m ≡ Ok k → is_table (Some k) ≡ true → is_table m ≡ true
    by None k e h = absurd cc
    by (Some q) k e h = let same : q ≡ k = ok_is q k e in subst (λ (x : ItemKind). is_table (Some x) ≡ true) (sym same) h

pub root_kind : (y : Layout) (body : List ℕ) (d item : ℕ) (t : Resource) → read y body d item ≡ Ok t → has_table t ≡ true → is_table (kind_of item) ≡ true
unfolding read
root_kind y body zero item t e h = absurd cc
root_kind y body (suc d) item t e h = node_kind y body _ item t e h

-- ---- the whole

data_read : (b : Bool) (body : List ℕ) (t : Resource) → has_valid_indexes body ≡ true → word_at body 1 ≡ index_count b → (b ≡ true → word_at body 6 ≡ 1)
    → is_table (kind_of (word_at body 0)) ≡ true → read (layout_of body) body 64 (word_at body 0) ≡ Ok t
    → read_data 64 (minor_of b) body ≡ Ok (record { tree = t; no_fallback = b })
unfolding read_data
data_read true body t laid n a k r = let bits : attributes_of 2 body ≡ 1 = rw (n, a refl) refl in rw (laid, bits, k, r) refl
data_read false body t laid n a k r = rw (laid, k, r) refl

pub file_denotes : (b : Bool) (out : List ℕ) (root : ℕ) (area : KeyArea) (most : ℕ) (f : List ℕ) (t : Resource) → IsFile b out root area most f
    → IsDraft area out → area.indexes ≡ index_count b → length out + 32 ≤ 67108864 → has_table t ≡ true → read (draft area out) out 64 root ≡ Ok t
    → read_file 64 f ≡ Ok (record { tree = t; no_fallback = b })
unfolding read_file
file_denotes b out root area most f t i d n room tab e =
    let x = i.indexed in
    let l = x.len in let long = i.long in let w = d.whole in let lo = d.low in let hi = d.high in let five = five_or_six b area.indexes n in
    let fl : length (drop 32 f) + 32 ≡ length f = omega (arith, length-drop 32 f) in
    let short : ltb 67108864 (length f) ≡ false = le-ltb _ _ (omega arith) in
    let front : header f ≡ Ok (record { size = 32; minor = minor_of b }) = head_is b f i.front long in
    let t0 : leb 24 (length out) ≡ true = grind (arith, nat_tests) in
    let t1 : leb 5 area.indexes ≡ true = grind (arith, nat_tests) in
    let t2 : ltb area.indexes area.top ≡ true = lt-ltb _ _ (omega arith) in
    let t3 : leb area.top (length out / 4) ≡ true = grind (arith, nat_tests) in
    let t4 : leb (length out / 4) (length out / 4) ≡ true = grind (arith, nat_tests) in
    let laid : has_valid_indexes (drop 32 f) ≡ true = rw (l, x.indexes, x.keys_top, x.items_top, x.top, t0, t1, t2, t3, t4) refl in
    let same_top : word_at (drop 32 f) 4 ≡ length out / 4 = x.top in
    let grow : Grows (draft area out) out (layout_of (drop 32 f)) (drop 32 f) = record {
      indexes = x.indexes;
      keys_top = x.keys_top;
      low = omega arith;
      high = omega arith;
      top = omega arith;
      room = omega arith;
      room' = omega arith;
      same = λ j p q. x.same j p;
    } in
    let kind : is_table (kind_of root) ≡ true = root_kind (draft area out) out 64 root t e tab in
    let reads : read (layout_of (drop 32 f)) (drop 32 f) 64 root ≡ Ok t = read_grow (draft area out) (layout_of (drop 32 f)) out (drop 32 f) grow 64 root t e in
    let kind_there : is_table (kind_of (word_at (drop 32 f) 0)) ≡ true = ap (λ (m : ℕ). is_table (kind_of m)) x.root_is ∙ kind in
    let reads_there : read (layout_of (drop 32 f)) (drop 32 f) 64 (word_at (drop 32 f) 0) ≡ Ok t = ap
    (λ (m : ℕ). read (layout_of (drop 32 f)) (drop 32 f) 64 m) x.root_is ∙ reads in
    rw (short, front) (data_read b (drop 32 f) t laid (x.indexes ∙ n) x.attributes kind_there reads_there)

-- what the writer promises of a file
pub record IsWritten (b : Bool) (t : Resource) (file : List ℕ) : Type 0 where
  pub denotes : Denotes file (record { tree = t; no_fallback = b })
  pub front : take 32 file ≡ heads.header b
  pub end : length file ≡ 32 + 4 * word_at (drop 32 file) 4
  pub longest : word_at (drop 32 file) 5 ≡ longest t

pub is_written : (b : Bool) (out : List ℕ) (root : ℕ) (area : KeyArea) (f : List ℕ) (t : Resource) → IsFile b out root area (longest t) f → IsDraft area out
    → area.indexes ≡ index_count b → length out ≤ 32 + 33554432 → Fits t → read (draft area out) out (height t) root ≡ Ok t → IsWritten b t f
is_written b out root area f t i d n room fits e =
    let x = i.indexed in
    let w = d.whole in let l = x.len in let long = i.long in
    let up : read (draft area out) out 64 root ≡ Ok t = read_raise (draft area out) out (height t) 64 root t e fits.low in
    let fl : length (drop 32 f) + 32 ≡ length f = omega (arith, length-drop 32 f) in
    record {
      denotes = denotes_read f (record { tree = t; no_fallback = b })
          (file_denotes b out root area (longest t) f t i d n (omega arith) (table_kind t fits.is_table) up);
      front = i.front;
      end = rw x.top (omega arith);
      longest = x.longest;
    }
  where
    table_kind : (t : Resource) → parts.kind_of t ≡ tree_kinds.Table → has_table t ≡ true
    table_kind (table es) e = refl
    table_kind _ e = absurd cc
