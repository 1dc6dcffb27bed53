-- Proves that the fault of a reading is that of the first failed check.
use Rattle.std.proofs.Common.{◌≡◌, ℕ, zero, suc, ◌+◌, ◌*◌, Bool, true, false, cond, not, ltb, leb, List, [], ◌∷◌, ◌++◌}
use Rattle.std.proofs.Common.{length, drop, Result, Ok, Err, Option, Some, None, refl, sym, ap, ◌∙◌, arith}
use Rattle.std.proofs.lemmas.Bool.Decides.{nat_tests}
use Rattle.std.specs.Prelude.{◌==◌, ◌&&◌, ◌||◌, slice_index, is_none, unwrap_or}
use Rattle.std.specs.Ordering.{is_lt, nat_cmp}
use Rattle.std.specs.Cmp.Lexicographic.{slice_cmp}
use Rattle.rb_tree.specs.Resource.{Resource, Resources, tree_and, string, binary, table, alias, array}
use Rattle.rb_tree.specs.SourceTree.{SourceTree}
use Rattle.rb_format.specs.declared.fault.FileFault.{FileFault}
use Rattle.rb_format.specs.declared.fault.FileFault.TheVariants as faults
use Rattle.rb_format.specs.declared.fault.FileFault.TheVariants.{TooLong, BigEndian, Family, FormatVersion, Indexes, Root, ItemType}
use Rattle.rb_format.specs.declared.fault.FileFault.TheVariants.{Offset, Length, NotTerminated, Key, KeyOrder, TooDeep}
use Rattle.rb_format.specs.declared.header.Header.{Header}
use Rattle.rb_format.specs.declared.geometry.TableParts.{TableParts}
use Rattle.rb_format.specs.declared.kind.ItemKind.{ItemKind}
use Rattle.rb_format.specs.declared.kind.ItemKind.TheVariants.{String, Binary, Table, Alias, LongTable, Int, Array, Ints}
use Rattle.rb_format.specs.declared.layout.Layout.{Layout}
use Rattle.rb_format.specs.Place.{word_at, half_at, key, layout_of}
use Rattle.rb_format.specs.Geometry.{key_offset, table_parts, long_table_parts, array_first, array_count, child_count, first_child}
use Rattle.rb_format.specs.Item.{kind_of, offset_of, is_table, has_data, bare}
use Rattle.rb_format.specs.Attributes.{attributes_of, has_pool}
use Rattle.rb_format.specs.File.{has_magic, has_family, has_version, has_sizes, has_header, has_valid_indexes, flagged}
use Rattle.rb_format.specs.inner.FirstFault.{◌>>=◌, result_map, fault_of, trees, members, keys, next_key, key_or_fault, kind_or_fault, value, contents}
use Rattle.rb_format.specs.inner.FirstFault.{units, bytes, numbers, array_at, table_of, table16_at, table32_at, node, read, header, read_data, read_file}
use Rattle.rb_format.specs.Checks.{CheckList, first_failed, header_checks, header_unless, header_of, data_checks, key_before, key_checks, table_checks}
use Rattle.rb_format.specs.Checks.{value_checks, kind_checks, count_of, child_of, all_checks, item_checks, first_fault}
use Rattle.rb_format.proofs.Steps.{fault_map}
use Rattle.rb_format.proofs.Faults.{fault_last, members_fault, keys_count}

-- ---- lists of checks

abbrev or_else : Option FileFault → Option FileFault → Option FileFault
or_else None b = b
or_else (Some e) b = Some e

first_append : (a b : CheckList) → first_failed (a ++ b) ≡ or_else (first_failed a) (first_failed b)
first_append [] b = refl
first_append ((e, true) ∷ cs) b = refl
first_append ((e, false) ∷ cs) b = first_append cs b

-- ---- the checks of keys

keys_first : (y : Layout) (body : List ℕ) (place : ℕ → ℕ) (last : List ℕ) (i n : ℕ) → last ≡ key_before y body place i
    → fault_of (keys y body place last i n) ≡ first_failed (key_checks y body place i n)
unfolding keys next_key
keys_first y body place last i zero s = refl
keys_first y body place last i (suc n) s = by (λ k. keys_first y body place k (suc i) n) (key y body (place i)) refl
  where
    inside : ((k : List ℕ) → k ≡ key_before y body place (suc i) → fault_of (keys y body place k (suc i) n) ≡ first_failed (key_checks y body place (suc i) n))
        → (k : List ℕ) → key y body (place i) ≡ Some k → (b : Bool)
        → fault_of (cond {A = Result (List ℕ) FileFault} b (Ok k) (Err KeyOrder) >>= λ x. keys y body place x (suc i) n >>= λ ks. Ok (x ∷ ks))
        ≡ cond (not b) (Some KeyOrder) (first_failed (key_checks y body place (suc i) n))
    inside rest k q true = fault_last (keys y body place k (suc i) n) (λ ks. k ∷ ks) ∙ rest k (ap (λ (o : Option (List ℕ)). unwrap_or o []) (sym q))
    inside rest k q false = refl

    by : ((k : List ℕ) → k ≡ key_before y body place (suc i) → fault_of (keys y body place k (suc i) n) ≡ first_failed (key_checks y body place (suc i) n))
        → (o : Option (List ℕ)) → key y body (place i) ≡ o
        → fault_of ((key_or_fault o >>= λ k. cond (is_lt (slice_cmp nat_cmp last k)) (Ok k) (Err KeyOrder)) >>= λ x. keys y body place x (suc i) n >>= λ ks. Ok
        (x ∷ ks))
        ≡ cond (is_none o) (Some Key) (cond (not (is_lt (slice_cmp nat_cmp (key_before y body place i) (unwrap_or o [])))) (Some KeyOrder)
        (first_failed (key_checks y body place (suc i) n)))
    by rest None q = refl
    by rest (Some k) q = rw (← s) (inside rest k q (is_lt (slice_cmp nat_cmp last k)))

table_first : (y : Layout) (body : List ℕ) (child : ℕ → Result Resource FileFault) (p : TableParts)
    → fault_of (table_of y body child (key_offset body p.keys) p.first p.count) ≡ or_else (first_failed (table_checks y body p))
    (fault_of (trees child (λ i. word_at body (p.first + i)) 0 p.count))
unfolding table_of
table_first y body child p = by (ltb y.top (p.first + p.count))
  where
    then_members : (r : Result (List (List ℕ)) FileFault) → ((ks : List (List ℕ)) → r ≡ Ok ks → length ks ≡ p.count)
        → fault_of (r >>= λ ks. members child (λ i. word_at body (p.first + i)) 0 ks) ≡ or_else (fault_of r)
        (fault_of (trees child (λ i. word_at body (p.first + i)) 0 p.count))
    then_members (Err d) h = refl
    then_members (Ok ks) h = members_fault child (λ i. word_at body (p.first + i)) 0 ks
        ∙ ap (λ (m : ℕ). fault_of (trees child (λ i. word_at body (p.first + i)) 0 m)) (h ks refl)

    by : (b : Bool) → fault_of (cond b (Err Length)
        (keys y body (key_offset body p.keys) [] 0 p.count >>= λ ks. members child (λ i. word_at body (p.first + i)) 0 ks))
        ≡ or_else (cond b (Some Length) (first_failed (key_checks y body (key_offset body p.keys) 0 p.count)))
        (fault_of (trees child (λ i. word_at body (p.first + i)) 0 p.count))
    by true = refl
    by false =
        let ks = keys y body (key_offset body p.keys) [] 0 p.count in
        then_members ks (λ k e. keys_count y body (key_offset body p.keys) [] 0 p.count k e)
        ∙ ap (λ (o : Option FileFault). or_else o (fault_of (trees child (λ i. word_at body (p.first + i)) 0 p.count)))
        (keys_first y body (key_offset body p.keys) [] 0 p.count refl)

-- ---- the checks of data

no_more : (child : ℕ → Result Resource FileFault) (item : ℕ → ℕ) (o : Option FileFault) → o ≡ or_else o (fault_of (trees child item 0 0))
unfolding trees
no_more child item None = refl
no_more child item (Some e) = refl

one_test : {A : Type 0} (b : Bool) (d : FileFault) (x : A) → fault_of (cond {A = Result A FileFault} b (Err d) (Ok x)) ≡ cond b (Some d) None
one_test true d x = refl
one_test false d x = refl

units_first : (y : Layout) (body : List ℕ) (o : ℕ) → fault_of (units y body o) ≡ first_failed (value_checks y body o String)
unfolding units
units_first y body o = by (ltb (4 * y.top) (4 * o + 6 + 2 * word_at body o)) (half_at body (2 * o + 2 + word_at body o) == 0) _
  where
    by : (b t : Bool) (us : List ℕ) → fault_of (cond {A = Result (List ℕ) FileFault} b (Err Length) (cond t (Ok us) (Err NotTerminated))) ≡ cond b
        (Some Length) (cond (not t) (Some NotTerminated) None)
    by true t us = refl
    by false true us = refl
    by false false us = refl

array_first_fault : (y : Layout) (body : List ℕ) (child : ℕ → Result Resource FileFault) (o : ℕ)
    → fault_of (array_at y body child o) ≡ or_else (first_failed (value_checks y body o Array))
    (fault_of (trees child (λ i. word_at body (array_first o + i)) 0 (array_count body o)))
unfolding array_at
array_first_fault y body child o = by (ltb y.top (array_first o + array_count body o)) _
  where
    by : (b : Bool) (r : Result Resources FileFault) → fault_of (cond b (Err Length) r) ≡ or_else (cond b (Some Length) None) (fault_of r)
    by true r = refl
    by false r = refl

contents_first : (y : Layout) (body : List ℕ) (child : ℕ → Result Resource FileFault) (o : ℕ) (k : ItemKind)
    → fault_of (contents y body child o k) ≡ or_else (first_failed (value_checks y body o k))
    (fault_of (trees child (λ i. word_at body (first_child body k o + i)) 0 (child_count body k o)))
unfolding contents bytes numbers table16_at table32_at
contents_first y body child o String = fault_map string (units y body o) ∙ units_first y body o ∙ no_more child _ _
contents_first y body child o Binary = fault_map binary (bytes y body o) ∙ one_test (ltb (4 * y.top) (4 * o + 4 + word_at body o)) Length _ ∙ no_more child _ _
contents_first y body child o Table = fault_map table (table16_at y body child o) ∙ table_first y body child (table_parts body o)
contents_first y body child o Alias = fault_map alias (units y body o) ∙ units_first y body o ∙ no_more child _ _
contents_first y body child o LongTable = fault_map table (table32_at y body child o) ∙ table_first y body child (long_table_parts body o)
contents_first y body child o Int = no_more child _ None
contents_first y body child o Array = fault_map array (array_at y body child o) ∙ array_first_fault y body child o
contents_first y body child o Ints = fault_map _ (numbers y body o) ∙ one_test (ltb y.top (o + 1 + word_at body o)) Length _ ∙ no_more child _ _

-- ---- the checks of an item

value_first : (y : Layout) (body : List ℕ) (child : ℕ → Result Resource FileFault) (o : ℕ) (k : ItemKind)
    → fault_of (value y body child o k) ≡ or_else (first_failed (kind_checks y body o (Some k)))
    (fault_of (trees child (child_of body o (Some k)) 0 (count_of body o (Some k))))
unfolding value
value_first y body child o k = by (has_data k o) (ltb o y.keys_top) (ltb o y.top) (contents y body child o k) (bare k o) (value_checks y body o k)
    (child_count body k o) (contents_first y body child o k)
  where
    by : (there low high : Bool) (r : Result Resource FileFault) (t : Resource) (cs : List (FileFault × Bool)) (n : ℕ)
        → fault_of r ≡ or_else (first_failed cs) (fault_of (trees child (λ i. word_at body (first_child body k o + i)) 0 n))
        → fault_of ((cond {A = Result Bool FileFault} there (cond low (Err Offset) (cond high (Ok true) (Err Offset))) (Ok false)) >>= λ x. cond x r (Ok t))
        ≡ or_else (first_failed (cond there ((Offset, low || not high) ∷ cs) []))
        (fault_of (trees child (λ i. word_at body (first_child body k o + i)) 0 (cond there n 0)))
    by false low high r t cs n h = no_more child _ None
    by true true high r t cs n h = refl
    by true false false r t cs n h = refl
    by true false true r t cs n h = h

node_first : (y : Layout) (body : List ℕ) (child : ℕ → Result Resource FileFault) (item : ℕ)
    → fault_of (node y body child item) ≡ or_else (first_failed (kind_checks y body (offset_of item) (kind_of item)))
    (fault_of (trees child (child_of body (offset_of item) (kind_of item)) 0 (count_of body (offset_of item) (kind_of item))))
unfolding node
node_first y body child item = by (kind_of item)
  where
    by : (m : Option ItemKind) → fault_of (kind_or_fault m >>= λ k. value y body child (offset_of item) k)
        ≡ or_else (first_failed (kind_checks y body (offset_of item) m))
        (fault_of (trees child (child_of body (offset_of item) m) 0 (count_of body (offset_of item) m)))
    by None = refl
    by (Some k) = value_first y body child (offset_of item) k

-- ---- an item and all below it

trees_first : (child : ℕ → Result Resource FileFault) (item : ℕ → ℕ) (of : ℕ → CheckList)
    → ((k : ℕ) → fault_of (child (item k)) ≡ first_failed (of k)) → (i n : ℕ)
    → fault_of (trees child item i n) ≡ first_failed (all_checks of i n)
unfolding trees
trees_first child item of each i zero = refl
trees_first child item of each i (suc n) =
    by (child (item i)) (trees child item (suc i) n)
    ∙ ap (λ (o : Option FileFault). or_else o (fault_of (trees child item (suc i) n))) (each i)
    ∙ ap (or_else (first_failed (of i))) (trees_first child item of each (suc i) n)
    ∙ sym (first_append (of i) (all_checks of (suc i) n))
  where
    by : (r : Result Resource FileFault) (rs : Result Resources FileFault)
        → fault_of (r >>= λ t. rs >>= λ ts. Ok (tree_and t ts)) ≡ or_else (fault_of r) (fault_of rs)
    by (Err d) rs = refl
    by (Ok t) rs = fault_last rs (tree_and t)

pub item_first : (y : Layout) (body : List ℕ) (d item : ℕ) → fault_of (read y body d item) ≡ first_failed (item_checks y body d item)
unfolding read item_checks
item_first y body zero item = refl
item_first y body (suc d) item =
    let o = offset_of item in let k = kind_of item in
    let below = λ (i : ℕ). item_checks y body d (child_of body o k i) in
    node_first y body (λ w. read y body d w) item
    ∙ ap (or_else (first_failed (kind_checks y body o k)))
    (trees_first (λ w. read y body d w) (child_of body o k) below (λ i. item_first y body d (child_of body o k i)) 0 (count_of body o k))
    ∙ sym (first_append (kind_checks y body o k) (all_checks below 0 (count_of body o k)))

-- ---- a file

short_is : (b : Bool) (n : ℕ) → ltb n 24 ≡ b → leb 24 n ≡ not b
short_is true n e = grind (arith, nat_tests)
short_is false n e = grind (arith, nat_tests)

long_is : (b : Bool) (n : ℕ) → ltb 67108864 n ≡ b → leb n 67108864 ≡ not b
long_is true n e = grind (arith, nat_tests)
long_is false n e = grind (arith, nat_tests)

-- the header by its checks, and by the reading
pub header_is : (list : List ℕ) → header list ≡ header_of list
unfolding header header_of
header_is list =
    rw (short_is (ltb (length list) 24) (length list) refl)
    (by (ltb (length list) 24) (has_magic list) (slice_index list 8 == 0) (has_family list) (has_version list) (has_sizes list))
  where
    by : (short magic little family version sizes : Bool)
        → cond {A = Result Header FileFault} short (Err faults.Header)
        (cond magic (cond little (cond family (cond version (cond sizes (Ok (record { size = half_at list 0; minor = slice_index list 17 }))
        (Err faults.Header)) (Err FormatVersion)) (Err Family)) (Err BigEndian)) (Err faults.Header))
        ≡ header_unless list (first_failed ((faults.Header, not (not short && magic)) ∷ (BigEndian, not little) ∷ (Family, not family)
        ∷ (FormatVersion, not version) ∷ (faults.Header, not sizes) ∷ []))
    by true magic little family version sizes = refl
    by false false little family version sizes = refl
    by false true false family version sizes = refl
    by false true true false version sizes = refl
    by false true true true false sizes = refl
    by false true true true true false = refl
    by false true true true true true = refl

data_first : (d minor : ℕ) (body : List ℕ)
    → fault_of (read_data d minor body) ≡ first_failed (data_checks minor body ++ item_checks (layout_of body) body d (word_at body 0))
unfolding read_data
data_first d minor body =
    by (has_valid_indexes body) (has_pool (attributes_of minor body)) (is_table (kind_of (word_at body 0))) (flagged (attributes_of minor body))
    (read (layout_of body) body d (word_at body 0)) (item_checks (layout_of body) body d (word_at body 0))
    (item_first (layout_of body) body d (word_at body 0))
  where
    by : (laid pool rooted : Bool) (g : Resource → SourceTree) (r : Result Resource FileFault) (cs : CheckList) → fault_of r ≡ first_failed cs
        → fault_of (cond laid (cond pool (Err faults.Attributes) (cond rooted (result_map g r) (Err Root))) (Err Indexes))
        ≡ first_failed (((Indexes, not laid) ∷ (faults.Attributes, pool) ∷ (Root, not rooted) ∷ []) ++ cs)
    by false pool rooted g r cs e = refl
    by true true rooted g r cs e = refl
    by true false false g r cs e = refl
    by true false true g r cs e = fault_map g r ∙ e

-- what is refused of a file is what its first failed check names
pub file_first : (list : List ℕ) → fault_of (read_file 64 list) ≡ first_fault list
unfolding read_file header_of first_fault
file_first list =
    rw (header_is list, long_is (ltb 67108864 (length list)) (length list) refl)
    (by (ltb 67108864 (length list)) (first_failed (header_checks list)) refl)
  where
    body : List ℕ
    body = drop (half_at list 0) list

    rest : CheckList
    rest = data_checks (slice_index list 17) body ++ item_checks (layout_of body) body 64 (word_at body 0)

    by : (long : Bool) (o : Option FileFault) → first_failed (header_checks list) ≡ o
        → fault_of (cond {A = Result SourceTree FileFault} long (Err TooLong) (header_unless list o >>= λ h. read_data 64 h.minor (drop h.size list)))
        ≡ cond (not (not long)) (Some TooLong) (first_failed (header_checks list ++ rest))
    by true o e = refl
    by false None e = data_first 64 (slice_index list 17) body ∙ sym (first_append (header_checks list) rest ∙ ap (λ (x : Option FileFault). or_else x (first_failed rest)) e)
    by false (Some d) e = sym (first_append (header_checks list) rest ∙ ap (λ (x : Option FileFault). or_else x (first_failed rest)) e)

-- a header is refused exactly if it isn't one
pub header_checked : (list : List ℕ) → is_none (first_failed (header_checks list)) ≡ has_header list
header_checked list = by (leb 24 (length list)) (has_magic list) (slice_index list 8 == 0) (has_family list) (has_version list) (has_sizes list)
  where
    by : (long magic little family version sizes : Bool)
        → is_none (first_failed ((faults.Header, not (long && magic)) ∷ (BigEndian, not little) ∷ (Family, not family)
        ∷ (FormatVersion, not version) ∷ (faults.Header, not sizes) ∷ []))
        ≡ (((((long && magic) && little) && family) && version) && sizes)
    by false magic little family version sizes = refl
    by true false little family version sizes = refl
    by true true false family version sizes = refl
    by true true true false version sizes = refl
    by true true true true false sizes = refl
    by true true true true true sizes = by_sizes sizes
      where
        by_sizes : (b : Bool) → is_none (first_failed ((faults.Header, not b) ∷ [])) ≡ b
        by_sizes true = refl
        by_sizes false = refl
