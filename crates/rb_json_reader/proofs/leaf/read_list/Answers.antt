use Rattle.std.proofs.Common.{◌≡◌, ◌∷◌, [], ◌++◌, length, map, sym, ap, ◌∙◌, arith, rules}
use Rattle.json.specs.Token.{Token}
use Rattle.json.specs.Token as token
use Rattle.serde_json.specs.Data.{array}
use Rattle.serde_json.specs.View.{items_of}
use Rattle.rb_json.specs.Tokens.{data_tokens}
use Rattle.rb_json_reader.proofs.Leaves.{items_more, items_all, number_by}
use Rattle.rb_json_reader.proofs.leaf.read_list.Goals as goal

pub loop-input-preserved : goal.loop-input-preserved
loop-input-preserved g c =
    let l = c.loop-input in
    let shown = number_by g.E.Element.number in
    let went : c.take_end_array.new.self.reader ≡ l.input.reader = c.loop-input-test.ensures.value in
    let spent : c.spend.new.self.reader ≡ c.number_text.new.input.reader = c.spend.ensures in
    let step : l.input.reader ≡ data_tokens (shown c.in-Some.element) ++ c.spend.new.self.reader =
    sym went ∙ c.in_ok-number_text.ensures.token ∙ ap (λ s. token.number s ∷ c.number_text.new.input.reader) c.in-Some.ensures
    ∙ ap (λ ts. data_tokens (shown c.in-Some.element) ++ ts) (sym spent) in
    let pushed : c.push.new.self.items ≡ l.elements.items ++ c.in-Some.element ∷ [] = search rules in
    let more = items_more shown c.args.input.now.reader l.elements.items l.input.reader c.in-Some.element c.spend.new.self.reader c.push.new.self.items l.invariant.0 step
    pushed in
    let same = ap (λ ts. length ts) went in
    let kept = ap (λ ts. length ts) spent in
    (more, omega (arith, l.invariant.1, same, kept, c.in_ok-number_text.ensures.shorter))

pub returns-clause-tokens : goal.returns-clause-tokens
returns-clause-tokens g c =
    let l = c.loop-input in
    let shown = number_by g.E.Element.number in
    items_all shown c.args.input.now.reader l.elements.items l.input.reader c.take_end_array.new.self.reader l.invariant.0 c.loop-input-test.ensures.value
    ∙ ap (λ xs. data_tokens (array (items_of (map shown xs))) ++ c.take_end_array.new.self.reader) (sym c.from_vec.ensures)
