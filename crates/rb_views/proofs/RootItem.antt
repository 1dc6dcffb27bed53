-- The root item of a file that denotes a bundle.
use Rattle.std.proofs.Common.{◌≡◌, ℕ, ◌≤◌, true, List, length, drop, Some, ap, ◌∙◌}
use Rattle.std.specs.Prelude.{◌&&◌, not, option_map, slice_index}
use Rattle.std.proofs.lemmas.Bool.{and_parts}
use Rattle.std.proofs.lemmas.Bool.Decides.{nat_tests}
use Rattle.std.proofs.Common.{arith}
use Rattle.rb_tree.specs.SourceTree.{SourceTree}
use Rattle.rb_format.specs.Attributes.{attributes_of, has_pool}
use Rattle.rb_format.specs.Place.{word_at, half_at, layout_of}
use Rattle.rb_format.specs.Item.{kind_of, is_table}
use Rattle.rb_format.specs.Denotation.{tree_at}
use Rattle.rb_format.specs.File.{is_short_enough, has_header, has_valid_indexes, flagged, source_of_data, source_of_file, Denotes, source_tree_of, tree_of}
use Rattle.rb_views.specs.inner.Stands.{StandsFor}
use Rattle.rb_views.specs.Trees.{item_tree}
use Rattle.rb_views.proofs.Values.{where_some}
use Rattle.rb_views.proofs.Readings.{map_some, stands_from}

pub record IsRoot (bytes body : List ℕ) : Type 0 where
  pub long : 24 ≤ length bytes
  pub inside : half_at bytes 0 ≤ length bytes
  pub laid : has_valid_indexes body ≡ true
  pub stands : StandsFor body (word_at body 0)
  pub tree : item_tree body (word_at body 0) ≡ tree_of bytes

header_long : (bytes : List ℕ) → has_header bytes ≡ true → 24 ≤ length bytes
header_long bytes e = grind (arith, nat_tests)

header_inside : (bytes : List ℕ) → has_header bytes ≡ true → half_at bytes 0 ≤ length bytes
header_inside bytes e = grind (arith, nat_tests)

read_file : (h : ℕ) (bytes : List ℕ) (s : SourceTree) → source_of_file h bytes ≡ Some s
    → (has_header bytes ≡ true) × (source_of_data h (slice_index bytes 17) (drop (half_at bytes 0) bytes) ≡ Some s)
unfolding source_of_file
read_file h bytes s e =
    let a = where_some (is_short_enough bytes && has_header bytes) (source_of_data h (slice_index bytes 17) (drop (half_at bytes 0) bytes)) s e in
    ((and_parts (is_short_enough bytes) (has_header bytes) a.0).1, a.1)

read_data : (h minor : ℕ) (body : List ℕ) (s : SourceTree) → source_of_data h minor body ≡ Some s
    → (has_valid_indexes body ≡ true) × (tree_at (layout_of body) body h (word_at body 0) ≡ Some s.tree)
unfolding source_of_data
read_data h minor body s e =
    let bits = attributes_of minor body in
    let read = tree_at (layout_of body) body h (word_at body 0) in
    let a = where_some (has_valid_indexes body && not (has_pool bits) && is_table (kind_of (word_at body 0))) (option_map (flagged bits) read) s e in
    let m = map_some (flagged bits) read s a.1 in (
      (and_parts (has_valid_indexes body) (not (has_pool bits))
          (and_parts (has_valid_indexes body && not (has_pool bits)) (is_table (kind_of (word_at body 0))) a.0).0).0,
      m.1
          ∙ ap (λ (x : SourceTree). Some x.tree) m.2,
    )

pub root_is : (bytes : List ℕ) → Denotes bytes (source_tree_of bytes) → IsRoot bytes (drop (half_at bytes 0) bytes)
root_is bytes e =
    let body = drop (half_at bytes 0) bytes in
    let a = read_file 64 bytes (source_tree_of bytes) e in
    let b = read_data 64 (slice_index bytes 17) body (source_tree_of bytes) a.1 in
    let s = stands_from body (word_at body 0) (tree_of bytes) b.1 in
    record { long = header_long bytes a.0; inside = header_inside bytes a.0; laid = b.0; stands = s.0; tree = s.1 }

-- the same, of bytes that are those of the file
pub root_of : (file bytes body : List ℕ) → bytes ≡ file → body ≡ drop (half_at bytes 0) bytes → Denotes file (source_tree_of file) → IsRoot bytes body
root_of file bytes body e f d = rw (f, e) (root_is file d)
