-- The root of a file that denotes a bundle, and its header.
use Rattle.std.proofs.Common.{◌≡◌, ℕ, ◌≤◌, true, ltb, List, length, drop}
use Rattle.std.proofs.Common.{Result, Ok, Err, sym, ap, arith}
use Rattle.std.proofs.lemmas.Bool.{ltb-false}
use Rattle.std.specs.Prelude.{◌==◌, slice_index}
use Rattle.std.proofs.lemmas.Bool.Decides.{nat_tests}
use Rattle.rb_tree.specs.SourceTree.{SourceTree}
use Rattle.rb_tree.specs.Resource.{Resource}
use Rattle.rb_format.specs.declared.fault.FileFault.{FileFault}
use Rattle.rb_format.specs.declared.fault.FileFault.TheVariants as faults
use Rattle.rb_format.specs.declared.header.Header.{Header}
use Rattle.rb_format.specs.Place.{word_at, half_at, layout_of}
use Rattle.rb_format.specs.Item.{kind_of, is_table}
use Rattle.rb_format.specs.File.{has_valid_indexes, has_magic, has_family, has_version, has_sizes, flagged, tree_of, source_tree_of, Denotes}
use Rattle.rb_format.specs.Attributes.{attributes_of, no_fallback, has_pool}
use Rattle.rb_format.specs.inner.FirstFault.{result_map, read, bytes, header, read_data, read_file}
use Rattle.rb_format.proofs.Root.{read_denotes}
use Rattle.rb_format.proofs.Steps.{bind_ok, ok_is, guard, guard_else}

-- ---- the root

pub record IsRoot (bytes body : List ℕ) : Type 0 where
  pub long : 24 ≤ length bytes
  pub inside : half_at bytes 0 ≤ length bytes
  pub laid : has_valid_indexes body ≡ true
  pub reads : read (layout_of body) body 64 (word_at body 0) ≡ Ok (tree_of bytes)
  pub flag : no_fallback (attributes_of (slice_index bytes 17) body) ≡ (source_tree_of bytes).no_fallback

sizes_inside : (bytes : List ℕ) → has_sizes bytes ≡ true → half_at bytes 0 ≤ length bytes
sizes_inside bytes e = grind (arith, nat_tests)

pub header_size : (bytes : List ℕ) (h : Header) → header bytes ≡ Ok h → (h.size ≡ half_at bytes 0) × (h.minor ≡ slice_index bytes 17) × (24 ≤ length
    bytes) × (half_at bytes 0 ≤ length bytes)
unfolding header
header_size bytes h e =
    let a = guard (ltb (length bytes) 24) faults.Header _ h e in
    let b = guard_else (has_magic bytes) faults.Header _ h a.1 in
    let c = guard_else (slice_index bytes 8 == 0) faults.BigEndian _ h b.1 in
    let d = guard_else (has_family bytes) faults.Family _ h c.1 in
    let f = guard_else (has_version bytes) faults.FormatVersion _ h d.1 in
    let g = guard_else (has_sizes bytes) faults.Header _ h f.1 in
    let is = sym (ok_is (record { size = half_at bytes 0; minor = slice_index bytes 17 }) h g.1) in
    (ap (λ (x : Header). x.size) is, ap (λ (x : Header). x.minor) is, ltb-false _ _ a.0, sizes_inside bytes g.0)

-- a tree with its flag
flagged_ok : (bits : ℕ) (r : Result Resource FileFault) (s : SourceTree) → result_map (flagged bits) r ≡ Ok s
    → (r ≡ Ok s.tree) × (no_fallback bits ≡ s.no_fallback)
flagged_ok bits (Ok t) s e = let is : flagged bits t ≡ s = ok_is (flagged bits t) s e in
    (ap (λ (x : SourceTree). Ok x.tree) is, ap (λ (x : SourceTree). x.no_fallback) is)
flagged_ok bits (Err d) s e = absurd cc

pub root_is : (bytes : List ℕ) → Denotes bytes (source_tree_of bytes) → IsRoot bytes (drop (half_at bytes 0) bytes)
unfolding read_file read_data
root_is bytes e =
    let t = source_tree_of bytes in
    let body = drop (half_at bytes 0) bytes in
    let bits = attributes_of (slice_index bytes 17) body in
    let a = guard (ltb 67108864 (length bytes)) faults.TooLong _ t (read_denotes bytes t e) in
    let b = bind_ok (header bytes) (λ h. read_data 64 h.minor (drop h.size bytes)) t a.1 in
    let z = header_size bytes b.0 b.1 in
    let whole : read_data 64 (slice_index bytes 17) body ≡ Ok t = rw (← z.0, ← z.1) b.2 in
    let c = guard_else (has_valid_indexes body) faults.Indexes _ t whole in
    let p = guard (has_pool bits) faults.Attributes _ t c.1 in
    let d = guard_else (is_table (kind_of (word_at body 0))) faults.Root _ t p.1 in
    let f = flagged_ok bits (read (layout_of body) body 64 (word_at body 0)) t d.1 in
    record { long = z.2; inside = z.3; laid = c.0; reads = f.0; flag = f.1 }
