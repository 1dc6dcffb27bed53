use Rattle.std.proofs.Common.{◌≡◌, ◌∷◌, ℕ, List, Option, All, Bor, ap, arith, length, refl, subst, sym, ◌∙◌}
use Rattle.std.specs.Prelude.{option_map}
use Rattle.json.specs.Token.{Token, begin_array, end_object, key}
use Rattle.rb_tree.specs.Resource.{array}
use Rattle.rb_tree.specs.Keys.{IsKey}
use Rattle.rb_tree.specs.Table.{keys_in}
use Rattle.rb_json_reader.specs.inner.Reading.{Reads}
use Rattle.rb_json_reader.proofs.Keys.{keys_more}
use Rattle.rb_json_reader.proofs.Values.{ArraySoFar, array_more, array_all, TableSoFar, table_none, table_more, table_result, pending, pending_is}
use Rattle.rb_json_reader.proofs.value.+value.Goals as goal

abbrev pending_at : List Token → Option (Bor (List ℕ)) → List Token
pending_at now o = pending (option_map (λ s. s.now) o) now

pub read_array-loop-alloc-preserved : goal.read_array-loop-alloc-preserved
read_array-loop-alloc-preserved t c =
    let l = c.loop-alloc in
    let old = c.args.input.now.reader in
    let went : c.take_end_array.new.self.reader ≡ l.input.reader = c.loop-alloc-test.ensures.value in
    let spent : c.spend-in-loop-alloc.new.self.reader ≡ c.read_value.new.input.reader = c.in_ok-spend-2.ensures in
    let here = subst (λ ts. ArraySoFar old l.trees.items ts) (sym went) l.invariant.0 in
    let more = array_more old l.trees.items c.take_end_array.new.self.reader c.in_ok-tree.tree c.read_value.new.input.reader c.push.new.self.items
    here c.in_ok-tree.ensures.reads c.in_ok-push.ensures.items in
    let same = ap (λ ts. length ts) went in
    let kept = ap (λ ts. length ts) spent in
    (subst (λ ts. ArraySoFar old c.push.new.self.items ts) (sym spent) more, omega (arith, l.invariant.1, same, kept, c.in_ok-tree.ensures.shorter))

pub read_array-returns-clause-reads : goal.read_array-returns-clause-reads
read_array-returns-clause-reads t c =
    let l = c.loop-alloc in
    let old = c.args.input.now.reader in
    let new = c.take_end_array.new.self.reader in
    subst (λ ts. Reads (begin_array ∷ old) (array ts) new) (sym c.from_vec.ensures)
    (array_all old l.trees.items l.input.reader new l.invariant.0 c.loop-alloc-test.ensures.value)

pub read_object-returns-in_default-clause-reads : goal.read_object-returns-in_default-clause-reads
read_object-returns-in_default-clause-reads t c =
    let old = c.args.input.now.reader in
    let new = c.spend.new.self.reader in
    let taken = pending_is c.in_ok-name.field-0 old c.key.new.self.reader c.in_ok-name.ensures.key in
    let close : old ≡ end_object ∷ new =
    taken ∙ ap (pending_at c.key.new.self.reader) c.in_default.is ∙ ap (λ ts. end_object ∷ ts) (sym c.in_ok-spend.ensures) in
    let none = subst (λ ps. TableSoFar old ps old) (sym c.new.ensures) (table_none old old refl) in
    table_result c.table.result old c.new.result.pairs.items old new none close c.table.ensures.no_repeat c.table.ensures.table

pub read_table-loop-next-preserved : goal.read_table-loop-next-preserved
read_table-loop-next-preserved t c =
    let l = c.loop-next in
    let old = key c.args.name.now ∷ c.args.input.now.reader in
    let name = c.in-Some.name.now in
    let after = c.read_value.new.input.reader in
    let same : c.key_at.new.input.reader ≡ l.input.reader = c.key_at.ensures.same in
    let keys = keys_more l.rows.pairs.items c.in_ok-key.key c.in_ok-tree.tree l.invariant.0 c.in_ok-key.ensures.key.0 in
    let opened : pending_at l.input.reader l.next ≡ key name ∷ c.key_at.new.input.reader =
    ap (pending_at l.input.reader) c.in-Some.is ∙ ap (λ ts. key name ∷ ts) (sym same) in
    let more = table_more old l.rows.pairs.items (pending_at l.input.reader l.next) c.in_ok-key.key name c.in_ok-tree.tree c.key_at.new.input.reader after
    c.add.new.self.pairs.items l.invariant.2 opened c.in_ok-key.ensures.key.1 c.in_ok-tree.ensures.reads c.in_ok-add.ensures in
    let next = pending_is c.in_ok-next.next after c.key-in-Some.new.self.reader c.in_ok-next.ensures.key in
    let kept = ap (λ ts. length ts) same in (
      subst (λ ps. All IsKey (keys_in ps)) (sym c.in_ok-add.ensures) keys,
      omega (arith, l.invariant.1, c.in_ok-tree.ensures.shorter, c.in_ok-next.ensures.shorter, kept),
      subst (λ ts. TableSoFar old c.add.new.self.pairs.items ts) next more,
    )

pub read_table-returns-clause-reads : goal.read_table-returns-clause-reads
read_table-returns-clause-reads t c =
    let l = c.loop-next in
    let old = key c.args.name.now ∷ c.args.input.now.reader in
    let close : pending_at l.input.reader l.next ≡ end_object ∷ l.input.reader = ap (pending_at l.input.reader) c.in_default.is in
    table_result c.table.result old l.rows.pairs.items (pending_at l.input.reader l.next) l.input.reader l.invariant.2 close
    c.table.ensures.no_repeat c.table.ensures.table
