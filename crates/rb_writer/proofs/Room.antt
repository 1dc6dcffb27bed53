-- The room that the file of a tree that fits takes, and what the writer promises of it.
use Rattle.std.proofs.Common.{◌≡◌, ℕ, Bool, ◌*◌, ◌+◌, ◌<◌, ◌≤◌, List, length, map, arith, Bor, subst}
use Rattle.rb_tree.specs.Resource.{Resource, table}
use Rattle.rb_tree.specs.Parts.{Fits}
use Rattle.rb_tree.specs.Parts as parts
use Rattle.rb_tree.specs.declared.kind.Kind.TheVariants as kinds
use Rattle.rb_writer.specs.declared.area.KeyArea.{KeyArea}
use Rattle.rb_tree.specs.Resource.{weight}
use Rattle.rb_writer.specs.inner.Collected.{keys_size, GathersKeys}
use Rattle.rb_writer.specs.Longest.{longest}
use Rattle.rb_writer.specs.inner.Most.{data_most, keys_most}
use Rattle.rb_writer.specs.inner.Standing.{Stands}
use Rattle.rb_writer.specs.inner.Whole.{IsFile}
use Rattle.rb_writer.specs.Written.{index_count}
use Rattle.rb_writer.proofs.Collecting.{table_weight}
use Rattle.rb_writer.proofs.Ended.{IsWritten, is_written}
use Rattle.rb_writer.proofs.Patches.{five_or_six}
use Rattle.rb_writer.proofs.Longer.{longest_weight}

most_of_table : (t : Resource) → parts.kind_of t ≡ kinds.Table → data_most t + keys_most t + 4 ≤ weight t
most_of_table (table es) e = table_weight es
most_of_table _ e = absurd cc

pub fits_most : (t : Resource) → Fits t → data_most t + keys_most t + 4 ≤ 33554432
fits_most t f = let l = f.light in omega (arith, most_of_table t f.is_table)

pub keys_fit : (t : Resource) (keys : List (Bor (List ℕ))) → Fits t → GathersKeys t keys → keys_size (map (λ r. r.now) keys) + data_most t + 4 ≤ 33554432
keys_fit t keys f g = let l = g.little in omega (arith, fits_most t f, l)

pub longest_fits : (t : Resource) (n : ℕ) → Fits t → n ≡ longest t → n ≤ 33554432
longest_fits t n f e = let l = f.light in omega (arith, longest_weight t)

pub written_by : (b : Bool) (t : Resource) (keys : List (Bor (List ℕ))) (old out : List ℕ) (root : ℕ) (area : KeyArea) (n : ℕ) (f : List ℕ) → Fits t
    → GathersKeys t keys → area.indexes ≡ index_count b → length old < 4 * (2 + area.indexes) + keys_size (map (λ r. r.now) keys) → Stands area old out t root
    → n ≡ longest t → IsFile b out root area n f → IsWritten b t f
written_by b t keys old out root area n f fits g count short s e i =
    let l = s.little in let five = five_or_six b area.indexes count in
    is_written b out root area f t (subst (λ m. IsFile b out root area m f) e i) s.drafted count (omega (arith, keys_fit t keys fits g)) fits s.reads
