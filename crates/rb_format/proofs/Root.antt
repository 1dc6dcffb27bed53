-- The reading of a file and what it denotes agree, and a file denotes the same under every greater limit of heights.
use Rattle.std.proofs.Common.{◌≡◌, ℕ, Bool, true, false, cond, ltb, leb, List, length, drop, Result, Ok, Err, Option, Some, None, refl, sym, ap, subst, ◌∙◌, arith}
use Rattle.std.proofs.lemmas.Bool.Decides.{nat_tests}
use Rattle.std.specs.Prelude.{◌≤◌, slice_index, ◌==◌, ◌&&◌, not, option_map, MatchOption, unwrap_or}
use Rattle.rb_tree.specs.Resource.{Resource, height}
use Rattle.rb_tree.specs.SourceTree.{SourceTree}
use Rattle.rb_format.specs.declared.fault.FileFault.{FileFault}
use Rattle.rb_format.specs.declared.fault.FileFault.TheVariants as faults
use Rattle.rb_format.specs.declared.header.Header.{Header}
use Rattle.rb_format.specs.declared.layout.Layout.{Layout}
use Rattle.rb_format.specs.Place.{word_at, half_at, layout_of}
use Rattle.rb_format.specs.Item.{kind_of, is_table}
use Rattle.rb_format.specs.Denotation.{where_holds, tree_at}
use Rattle.rb_format.specs.Attributes.{attributes_of, has_pool}
use Rattle.rb_format.specs.File.{has_magic, has_family, has_version, has_sizes, has_header, has_valid_indexes}
use Rattle.rb_format.specs.File.{flagged, source_of_data, source_of_file, DenotesWithin, Denotes, source_tree_of}
use Rattle.rb_format.specs.inner.FirstFault.{◌>>=◌, header, read, read_data, read_file, fault_of}
use Rattle.rb_format.specs.Checks.{first_failed, item_checks, first_fault}
use Rattle.rb_format.proofs.Checks.{item_first, file_first}
use Rattle.rb_format.proofs.Levels.{read-limited}
use Rattle.rb_format.proofs.Plainly.{ok_part, agree_map, read_agrees, read_is, plain_raise}

ok_each : {A : Type 0} (a p b : Bool) (c d e : FileFault) (r : Result A FileFault) (o : Option A) → ok_part r ≡ o
    → ok_part (cond a (cond p (Err d) (cond b r (Err e))) (Err c)) ≡ where_holds ((a && not p) && b) o
ok_each true true b c d e r o h = refl
ok_each true false true c d e r o h = h
ok_each true false false c d e r o h = refl
ok_each false p b c d e r o h = refl

data_agrees : (d minor : ℕ) (body : List ℕ) → ok_part (read_data d minor body) ≡ source_of_data d minor body
unfolding read_data source_of_data
data_agrees d minor body =
    ok_each (has_valid_indexes body) (has_pool (attributes_of minor body)) (is_table (kind_of (word_at body 0)))
    faults.Indexes faults.Attributes faults.Root _ _
    (agree_map (flagged (attributes_of minor body)) _ _ (read_agrees (layout_of body) body d (word_at body 0)))

-- what follows a header that is read
header_then : (short magic little family version sizes : Bool) (h : Header) (f : Header → Result SourceTree FileFault) (o : Option SourceTree)
    → ok_part (f h) ≡ o
    → ok_part ((cond {A = Result Header FileFault} short (Err faults.Header)
    (cond magic (cond little (cond family (cond version (cond sizes (Ok h) (Err faults.Header)) (Err faults.FormatVersion)) (Err faults.Family))
    (Err faults.BigEndian)) (Err faults.Header))) >>= f) ≡ where_holds
    ((((((cond short false true) && magic) && little) && family) && version) && sizes) o
header_then true magic little family version sizes h f o e = refl
header_then false false little family version sizes h f o e = refl
header_then false true false family version sizes h f o e = refl
header_then false true true false version sizes h f o e = refl
header_then false true true true false sizes h f o e = refl
header_then false true true true true false h f o e = refl
header_then false true true true true true h f o e = e

too_short : (b : Bool) (n : ℕ) → ltb n 24 ≡ b → leb 24 n ≡ cond b false true
too_short true n e = grind (arith, nat_tests)
too_short false n e = grind (arith, nat_tests)

within_limit : (b : Bool) (n limit : ℕ) → ltb limit n ≡ b → leb n limit ≡ cond b false true
within_limit true n limit e = grind (arith, nat_tests)
within_limit false n limit e = grind (arith, nat_tests)

limit_then : {A : Type 0} (long other : Bool) (d : FileFault) (r : Result A FileFault) (o : Option A) → ok_part r ≡ where_holds other o
    → ok_part (cond long (Err d) r) ≡ where_holds (cond long false true && other) o
limit_then true other d r o e = refl
limit_then false other d r o e = e

header_agrees : (d : ℕ) (bytes : List ℕ)
    → ok_part (header bytes >>= λ h. read_data d h.minor (drop h.size bytes)) ≡ where_holds (has_header bytes)
    (source_of_data d (slice_index bytes 17) (drop (half_at bytes 0) bytes))
unfolding header
header_agrees d bytes =
    rw (too_short (ltb (length bytes) 24) (length bytes) refl)
    (header_then (ltb (length bytes) 24) (has_magic bytes) (slice_index bytes 8 == 0) (has_family bytes) (has_version bytes) (has_sizes bytes)
    (record { size = half_at bytes 0; minor = slice_index bytes 17 }) (λ h. read_data d h.minor (drop h.size bytes)) _
    (data_agrees d (slice_index bytes 17) (drop (half_at bytes 0) bytes)))

-- what is read of a file is what it denotes
pub file_agrees : (d : ℕ) (bytes : List ℕ) → ok_part (read_file d bytes) ≡ source_of_file d bytes
unfolding read_file source_of_file
file_agrees d bytes = rw (within_limit (ltb 67108864 (length bytes)) (length bytes) 67108864 refl)
    (limit_then (ltb 67108864 (length bytes)) (has_header bytes) faults.TooLong _ _ (header_agrees d bytes))

some_is_ok : (r : Result SourceTree FileFault) (s : SourceTree) → ok_part r ≡ Some s → r ≡ Ok s
some_is_ok (Ok r) s e = cc
some_is_ok (Err d) s e = absurd cc

pub denotes_read : (bytes : List ℕ) (s : SourceTree) → read_file 64 bytes ≡ Ok s → Denotes bytes s
denotes_read bytes s e = sym (file_agrees 64 bytes) ∙ ap ok_part e

pub read_denotes : (bytes : List ℕ) (s : SourceTree) → Denotes bytes s → read_file 64 bytes ≡ Ok s
read_denotes bytes s e = some_is_ok (read_file 64 bytes) s (file_agrees 64 bytes ∙ e)

one_of_two : (r : Result SourceTree FileFault) (o : Option SourceTree) → ok_part r ≡ o
    → MatchOption (fault_of r) ((s : SourceTree) × (o ≡ Some s)) (λ e. (s : SourceTree) → ¬ (o ≡ Some s))
one_of_two (Ok s) o e = (s, sym e)
one_of_two (Err d) o e = λ s f. absurd cc

-- a bundle or a fault, and never both
pub tree_or_fault : (bytes : List ℕ) → MatchOption (first_fault bytes) ((s : SourceTree) × Denotes bytes s) (λ e. (s : SourceTree) → ¬ (Denotes bytes s))
tree_or_fault bytes =
    subst (λ (o : Option FileFault). MatchOption o ((s : SourceTree) × Denotes bytes s) (λ e. (s : SourceTree) → ¬ (Denotes bytes s)))
    (file_first bytes) (one_of_two (read_file 64 bytes) (source_of_file 64 bytes) (file_agrees 64 bytes))

no_fault_denotes : (r : Result SourceTree FileFault) (o : Option SourceTree) (s : SourceTree) → ok_part r ≡ o → fault_of r ≡ None → o ≡ Some (unwrap_or o s)
no_fault_denotes (Ok r) o s e f = sym e ∙ ap (λ p. Some (unwrap_or p s)) e
no_fault_denotes (Err d) o s e f = absurd cc

-- a file without a fault denotes its bundle
pub fault_free : (bytes : List ℕ) → first_fault bytes ≡ None → Denotes bytes (source_tree_of bytes)
fault_free bytes e = no_fault_denotes (read_file 64 bytes) (source_of_file 64 bytes) _ (file_agrees 64 bytes) (file_first bytes ∙ e)

-- an item that denotes a tree at one level has no fault at each level that leaves room for the tree, and at the others it is too deep
pub level_fault : (y : Layout) (body : List ℕ) (d e item : ℕ) (t : Resource) → tree_at y body d item ≡ Some t
    → first_failed (item_checks y body e item) ≡ cond (leb (height t) e) None (Some faults.TooDeep)
level_fault y body d e item t p =
    sym (item_first y body e item) ∙ ap fault_of (read-limited y body d e item t (read_is (read y body d item) t (read_agrees y body d item ∙ p)))
    ∙ by (leb (height t) e)
  where
    by : (b : Bool) → fault_of (cond {A = Result Resource FileFault} b (Ok t) (Err faults.TooDeep)) ≡ cond b None (Some faults.TooDeep)
    by true = refl
    by false = refl

-- ---- greater heights
where_keeps : {A : Type 0} (b : Bool) (o p : Option A) (x : A) → (o ≡ Some x → p ≡ Some x) → where_holds b o ≡ Some x → where_holds b p ≡ Some x
where_keeps true o p x h e = h e
where_keeps false o p x h e = absurd cc

map_keeps : (f : Resource → SourceTree) (o p : Option Resource) (s : SourceTree) → ((t : Resource) → o ≡ Some t → p ≡ Some t) → option_map f o ≡ Some s
    → option_map f p ≡ Some s
map_keeps f None p s h e = absurd cc
map_keeps f (Some t) p s h e = rw (h t refl) e

data_keep : (h k minor : ℕ) (body : List ℕ) (s : SourceTree) → h ≤ k → source_of_data h minor body ≡ Some s → source_of_data k minor body ≡ Some s
unfolding source_of_data
data_keep h k minor body s l e =
    where_keeps _ _ _ s (map_keeps (flagged (attributes_of minor body)) (tree_at (layout_of body) body h (word_at body 0))
    (tree_at (layout_of body) body k (word_at body 0)) s
    (λ t p. plain_raise (layout_of body) body h k (word_at body 0) t p l)) e

pub file_keeps : (h k : ℕ) (bytes : List ℕ) (s : SourceTree) → h ≤ k → DenotesWithin h bytes s → DenotesWithin k bytes s
unfolding source_of_file
file_keeps h k bytes s l e = where_keeps _ _ _ s (data_keep h k (slice_index bytes 17) (drop (half_at bytes 0) bytes) s l) e
