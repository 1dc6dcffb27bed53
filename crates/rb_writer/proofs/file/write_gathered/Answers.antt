use Rattle.std.proofs.Common.{◌+◌, ◌*◌, ◌≤◌, ◌<◌, ◌≡◌, ◌∙◌, length, map, arith, ap, sym, Bor, List, ℕ}
use Rattle.rb_tree.specs.View.{view_of}
use Rattle.rb_writer.specs.inner.Collected.{keys_size, names}
use Rattle.rb_writer.specs.inner.Keyed.{HasPlace}
use Rattle.rb_writer.specs.Written.{index_count}
use Rattle.rb_writer.proofs.Ended.{IsWritten}
use Rattle.rb_writer.proofs.Patches.{five_or_six}
use Rattle.rb_writer.proofs.Gathered.{each_key}
use Rattle.rb_writer.proofs.Room.{keys_fit, longest_fits, written_by}
use Rattle.rb_writer.specs.inner.Keying.{distinct, KeysWritten}
use Rattle.rb_writer.proofs.Bytes.{names_ascend, are_keys, file_is}
use Rattle.rb_writer.proofs.file.write_gathered.Goals as goal

pub write_keys-requires-clause-room : goal.write_keys-requires-clause-room
write_keys-requires-clause-room c =
    let t = view_of c.args.tree.now in
    let f = keys_fit t (names c.in_ok-keys.keys.items) c.requires.fits (c.in_ok-keys.ensures.keys t c.requires.keys) in
    rw c.deref.ensures.value (omega (arith, f))

pub write_value-requires-clause-room : goal.write_value-requires-clause-room
write_value-requires-clause-room c =
    let t = view_of c.args.tree.now in
    let f = keys_fit t (names c.in_ok-keys.keys.items) c.requires.fits (c.in_ok-keys.ensures.keys t c.requires.keys) in
    let short = rw c.deref.ensures.value at c.in_ok-places.ensures.little in
    let five = five_or_six c.args.no_fallback c.index_count-indexes.result c.index_count-indexes.ensures in
    omega (arith, f, short)

pub write_value-requires-clause-each : goal.write_value-requires-clause-each
write_value-requires-clause-each c =
    each_key (λ k. HasPlace c.in_ok-places.places k) (view_of c.args.tree.now) (names c.in_ok-keys.keys.items)
    (c.in_ok-keys.ensures.keys (view_of c.args.tree.now) c.requires.keys)
    (rw c.deref.ensures.value at c.in_ok-places.ensures.each)

pub overflow_cast-gathered : goal.overflow_cast-gathered
overflow_cast-gathered c =
    let f : c.args.gathered.longest ≤ 33554432 = longest_fits (view_of c.args.tree.now) c.args.gathered.longest c.requires.fits c.requires.longest in
    omega (arith, f)

pub finish-requires-clause-room : goal.finish-requires-clause-room
finish-requires-clause-room c =
    let t = view_of c.args.tree.now in
    let f = keys_fit t (names c.in_ok-keys.keys.items) c.requires.fits (c.in_ok-keys.ensures.keys t c.requires.keys) in
    let short = rw c.deref.ensures.value at c.in_ok-places.ensures.little in
    let l = c.in_ok-root.ensures.stands.little in
    let five = five_or_six c.args.no_fallback c.index_count-indexes.result c.index_count-indexes.ensures in
    omega (arith, f, short, l)

pub write_keys-requires-clause-ascending : goal.write_keys-requires-clause-ascending
write_keys-requires-clause-ascending c = rw c.deref.ensures.value (names_ascend c.in_ok-keys.keys.items c.in_ok-keys.ensures.ascending)

pub returns : goal.returns
returns c =
    let t = view_of c.args.tree.now in
    let short = rw c.deref.ensures.value at c.in_ok-places.ensures.little in
    let count : c.in_ok-places.places.area.indexes ≡ index_count c.args.no_fallback = c.in_ok-places.ensures.area ∙ c.index_count-indexes.ensures in
    let few : length c.write_keys.new.out < 4 * (2 + c.in_ok-places.places.area.indexes) + keys_size
    (map {A = Bor (List ℕ)} (λ r. r.now) (names c.in_ok-keys.keys.items)) = rw c.in_ok-places.ensures.area short in
    let h : IsWritten c.args.no_fallback t c.finish.result.items = written_by c.args.no_fallback t (names c.in_ok-keys.keys.items) c.write_keys.new.out
    c.write_value.new.out c.in_ok-root.root c.in_ok-places.places.area c.args.gathered.longest c.finish.result.items c.requires.fits
    (c.in_ok-keys.ensures.keys t c.requires.keys) count
    few c.in_ok-root.ensures.stands c.requires.longest c.finish.ensures in
    let sorted = names_ascend c.in_ok-keys.keys.items c.in_ok-keys.ensures.ascending in
    let written : KeysWritten c.in_ok-out.out c.write_keys.new.out c.in_ok-places.places (map {A = Bor (List ℕ)} (λ r. r.now) (names c.in_ok-keys.keys.items)) =
    rw c.deref.ensures.value at c.in_ok-places.ensures.laid in
    record {
      denotes = h.denotes;
      front = h.front;
      end = h.end;
      longest = h.longest;
      bytes = record {
        keys = distinct (map {A = Bor (List ℕ)} (λ r. r.now) (names c.in_ok-keys.keys.items));
        are_keys = are_keys t (names c.in_ok-keys.keys.items) (c.in_ok-keys.ensures.keys t c.requires.keys) sorted;
        bytes = file_is c.args.no_fallback t (map {A = Bor (List ℕ)} (λ r. r.now) (names c.in_ok-keys.keys.items)) c.in_ok-out.out c.write_keys.new.out
            c.write_value.new.out c.finish.result.items c.in_ok-places.places c.in_ok-places.places.area c.in_ok-root.root c.args.gathered.longest
            c.finish.ensures count (c.in_ok-out.ensures ∙ ap (λ n. 4 * (1 + n)) (sym c.in_ok-places.ensures.area)) written c.in_ok-root.ensures.laid
            c.in_ok-places.ensures.top c.requires.longest;
      };
    }
