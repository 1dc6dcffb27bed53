use Rattle.std.proofs.Common.{◌≡◌, sym, subst, ℕ, List}
use Rattle.rb_grammar.specs.Numeral.{IsIntText}
use Rattle.rb_parser.proofs.Leaves.{int_read, no_int}
use Rattle.rb_parser.proofs.leaf.read_number.Goals as goal

pub returns-in_default-clause-exact : goal.returns-in_default-clause-exact
returns-in_default-clause-exact c = λ other.
    let none : (n : ℕ) → IsIntText c.in_ok-text.text n → ⊥ = λ n h. c.in_default.ensures n (subst (λ (s : List ℕ). IsIntText s n) (sym c.as_slice.ensures) h) in
    no_int c.args.cursor.now.end c.args.cursor.now.rest c.text.new.self.rest c.in_ok-text.text c.fault-bad.result c.in_ok-text.ensures.exact none
    c.fault-bad.ensures.kind c.fault-bad.ensures.line

pub returns-clause-exact : goal.returns-clause-exact
returns-clause-exact c =
    let same : c.in-Some-new.number ≡ c.in-Some.number = c.in-Some-new.ensures.value in
    let means : IsIntText c.in_ok-text.text c.in-Some.number = subst (λ (s : List ℕ). IsIntText s c.in-Some.number) c.as_slice.ensures c.in-Some.ensures in
    int_read c.args.cursor.now.rest c.text.new.self.rest c.in_ok-text.text c.in-Some-new.number c.in_ok-text.ensures.exact
    (subst (λ (n : ℕ). IsIntText c.in_ok-text.text n) (sym same) means)
