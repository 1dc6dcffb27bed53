use Rattle.std.proofs.Common.{◌≡◌, ◌+◌, ◌*◌, ◌-◌, get_or, arith}
use Rattle.rb_format.specs.Place.{half_at, word_at}
use Rattle.rb_format.specs.Geometry.{key_offset as offset_in}
use Rattle.rb_validator.proofs.Pairs.{linked_good, from_halves, from_words}
use Rattle.rb_validator.proofs.keys.known.KnownKeys.count_known.Goals as goal

pub returns-in-Some-Halves : goal.returns-in-Some-Halves
returns-in-Some-Halves c = λ body s i a b.
    let links = c.args.self.now.halves.items in
    let first = c.in-Some-Halves.first in
    let m = c.args.good - 1 in
    let at = from_halves c.args.layout.now body c.args.places c.in-Some-Halves.field-0 first c.in-Some-Halves.ensures c.in-Some-Halves.field-0-is in
    let e : c.count_linked.result ≡ get_or links (first + m) 0 - (first + m) = rw c.deref.ensures.value at c.count_linked.ensures in
    linked_good c.args.layout.now body links (λ p. half_at body (2 * c.args.layout.now.keys_top + p)) (offset_in body c.args.places) first m c.count_linked.result at s.halves e i (omega arith) (omega arith)

pub returns-in-Some-Words : goal.returns-in-Some-Words
returns-in-Some-Words c = λ body s i a b.
    let links = c.args.self.now.words.items in
    let first = c.in-Some-Words.first in
    let m = c.args.good - 1 in
    let at = from_words c.args.layout.now body c.args.places c.in-Some-Words.field-0 first c.in-Some-Words.ensures c.in-Some-Words.field-0-is in
    let e : c.count_linked-in-Some-Words.result ≡ get_or links (first + m) 0 - (first + m) = rw c.deref-in-Some-Words.ensures.value at c.count_linked-in-Some-Words.ensures in
    linked_good c.args.layout.now body links (λ p. word_at body (c.args.layout.now.keys_top + p)) (offset_in body c.args.places) first m c.count_linked-in-Some-Words.result at s.words e i (omega arith) (omega arith)
