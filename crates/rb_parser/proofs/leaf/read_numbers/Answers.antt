use Rattle.std.proofs.Common.{rules, ◌≡◌, ◌<◌, ◌++◌, ◌∷◌, [], length, None, Some, refl, sym, ap, ◌∙◌, arith}
use Rattle.rb_grammar.specs.Faults.{line_at}
use Rattle.rb_grammar.specs.Numeral.{IsElementText}
use Rattle.rb_grammar.specs.Reading.{first_text, after_comma}
use Rattle.rb_parser.proofs.Leaves.{numbers_start, numbers_turn, numbers_stop, numbers_end}
use Rattle.rb_parser.proofs.leaf.read_numbers.Goals as goal

pub numbers-init : goal.numbers-init
numbers-init c = record {
  same_end = refl;
  no_longer = omega arith;
  so_far = λ n enough. rw c.new-found.ensures.items (numbers_start n c.args.cursor.now.rest enough);
}

pub returns-in_default-read_element-clause-exact : goal.returns-in_default-read_element-clause-exact
returns-in_default-read_element-clause-exact c = λ n enough other.
    let ts = c.numbers.cursor.rest in
    let comes : first_text ts ≡ Some c.in-Some.text = (rw c.in-Some.is at c.in_ok-text.ensures.text) in
    numbers_stop n c.args.cursor.now.end c.args.cursor.now.rest ts c.numbers.found.items c.in-Some.text c.fault-bad.result
    (c.numbers.invariant.so_far n enough) comes
    (λ z h. c.in_default-read_element.ensures z (rw c.as_slice.ensures h)) c.fault-bad.ensures.kind
    (c.fault-bad.ensures.line ∙ ap (λ e. line_at e ts) c.numbers.invariant.same_end)

pub numbers-preserved : goal.numbers-preserved
numbers-preserved c =
    let ts = c.numbers.cursor.rest in
    let comes : first_text ts ≡ Some c.in-Some.text = (rw c.in-Some.is at c.in_ok-text.ensures.text) in
    let means : IsElementText c.in-Some.text c.in-Some-read_element.number = rw (sym c.as_slice.ensures) c.in-Some-read_element.ensures in
    let same : c.push.new.self.items ≡ c.numbers.found.items ++ c.in-Some-read_element.number ∷ [] = search rules in
    let shorter : length c.take.new.self.rest < length ts = omega (arith, (rw c.in-Some.is at c.in_ok-text.ensures.shorter), c.in_ok-take.ensures.no_longer) in
    record {
      same_end = c.in_ok-take.ensures.same_end ∙ c.take_text.ensures.same_end ∙ c.numbers.invariant.same_end;
      no_longer = omega (arith, c.numbers.invariant.no_longer);
      so_far =
          λ n enough. rw same (numbers_turn n c.args.cursor.now.rest ts c.take.new.self.rest c.numbers.found.items c.in-Some.text
          c.in-Some-read_element.number (c.numbers.invariant.so_far n enough) comes means
          (c.in_ok-take.ensures.rest ∙ ap after_comma (rw c.in-Some.is at c.in_ok-text.ensures.rest)) shorter);
    }

pub returns-clause-exact : goal.returns-clause-exact
returns-clause-exact c = λ n enough.
    let ts = c.numbers.cursor.rest in
    let none : first_text ts ≡ None = (rw c.in_default.is at c.in_ok-text.ensures.text) in
    rw (rw c.in_default.is at c.in_ok-text.ensures.rest) (numbers_end n c.args.cursor.now.rest ts c.numbers.found.items
    (c.numbers.invariant.so_far n enough) none)
