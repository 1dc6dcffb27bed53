use Rattle.std.proofs.Common.{◌≡◌, ℕ, ◌+◌, ◌*◌, ◌-◌, length, sym, ap, ◌∙◌}
use Rattle.std.proofs.lemmas.List.{with_items_is}
use Rattle.rb_format.specs.Place.{half_at, word_at}
use Rattle.rb_validator.specs.inner.KnownKeys.{IsRedirected}
use Rattle.rb_format.specs.Geometry.{key_offset as offset_in}
use Rattle.rb_validator.proofs.Pairs.{redirected_linked, from_halves, from_words}
use Rattle.rb_validator.proofs.keys.known.KnownKeys.keep.Goals as goal

pub returns-in-Some-Halves : goal.returns-in-Some-Halves
returns-in-Some-Halves c = λ body s g.
    let old = c.args.self.now.halves.items in
    let first = c.in-Some-Halves.first in
    let at = from_halves c.args.layout.now body c.args.places c.in-Some-Halves.field-0 first c.in-Some-Halves.ensures c.in-Some-Halves.field-0-is in
    let d : (p : ℕ) → IsRedirected old c.link.new.links first (first + (c.args.good - 1)) p = rw c.deref_mut.ensures.value at c.link.ensures in
    let long : length c.link.new.links ≡ c.args.self.now.halves.len = c.link.auto.links ∙ ap length c.deref_mut.ensures.value
    ∙ sym c.args.self.now.halves.ok.0 in
    let is = with_items_is c.args.self.now.halves c.link.new.links long in
    record {
      lengths = s.lengths;
      ranks = s.ranks;
      halves = rw is (redirected_linked c.args.layout.now body old c.link.new.links (λ p. half_at body (2 * c.args.layout.now.keys_top + p))
          (offset_in body c.args.places) first c.args.good at s.halves g d);
      words = s.words;
      few = s.few;
      short = s.short;
    }

pub returns-in-Some-Words : goal.returns-in-Some-Words
returns-in-Some-Words c = λ body s g.
    let old = c.args.self.now.words.items in
    let first = c.in-Some-Words.first in
    let at = from_words c.args.layout.now body c.args.places c.in-Some-Words.field-0 first c.in-Some-Words.ensures c.in-Some-Words.field-0-is in
    let d : (p : ℕ) → IsRedirected old c.link-in-Some-Words.new.links first (first + (c.args.good - 1)) p =
    rw c.deref_mut-in-Some-Words.ensures.value at c.link-in-Some-Words.ensures in
    let long : length c.link-in-Some-Words.new.links ≡ c.args.self.now.words.len = c.link-in-Some-Words.auto.links ∙ ap length c.deref_mut-in-Some-Words.ensures.value
    ∙ sym c.args.self.now.words.ok.0 in
    let is = with_items_is c.args.self.now.words c.link-in-Some-Words.new.links long in
    record {
      lengths = s.lengths;
      ranks = s.ranks;
      halves = s.halves;
      words = rw is (redirected_linked c.args.layout.now body old c.link-in-Some-Words.new.links (λ p. word_at body (c.args.layout.now.keys_top + p))
          (offset_in body c.args.places) first c.args.good at s.words g d);
      few = s.few;
      short = s.short;
    }
