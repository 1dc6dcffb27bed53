use Rattle.std.proofs.Common.{◌≡◌, map, ap, ◌∙◌}
use Rattle.std.specs.List.Sorted.{IsPermutation}
use Rattle.rb_writer.specs.inner.Collected.{names}
use Rattle.rb_writer.specs.declared.sorting.Headed.{Headed}
use Rattle.rb_writer.proofs.Gathered.{sorted, headed_names}
use Rattle.rb_writer.proofs.sorting.sorted_keys.Goals as goal

pub returns-clause-keys : goal.returns-clause-keys
returns-clause-keys c =
    let found = c.in_ok-found.found.items in
    let pairs = c.in_ok-ascending.ascending.items in
    let made : pairs ≡ map (λ (h : Headed). (h.key, h.id)) found = rw c.deref-2.ensures.value at c.in_ok-ascending.ensures in
    let same : names pairs ≡ map (λ (h : Headed). h.key) found = ap names made ∙ headed_names found in
    let first : IsPermutation c.args.gathered.now.keys.items (map (λ (h : Headed). h.key) found) = rw c.deref.ensures.value at c.in_ok-found.ensures in
    let moved : IsPermutation c.args.gathered.now.keys.items (names pairs) = rw same first in
    λ t g. sorted t c.args.gathered.now.keys.items pairs c.sort.new.self.items g moved c.in_ok-sort.ensures.permutation
