use Rattle.std.proofs.Common.{◌≡◌, [], ◌∷◌, option_and_then, ap, ap₂, ◌∙◌, arith}
use Rattle.std.proofs.lemmas.Result.{IfOk-weaker, IfErr-weaker}
use Rattle.json.specs.Json.{parse_map, value}
use Rattle.json.specs.Reads.{token_of}
use Rattle.json.proofs.Grammar.{value_is}
use Rattle.serde_json.specs.Data.{array}
use Rattle.serde_json.specs.Read.{of_json, converted}
use Rattle.rb_requests.specs.ExtendedAsked.{all_changes}
use Rattle.rb_requests.proofs.Members.{array_after}
use Rattle.rb_requests.proofs.ChangesFound.{no_changes, no_array}
use Rattle.rb_requests.proofs.change_list.read_changes.Goals as goal

pub returns-in_default-clause-err : goal.returns-in_default-clause-err
returns-in_default-clause-err c invalid =
    let empty : c.args.reader.now ≡ [] = grind arith in
    ap (converted of_json) (ap (value c.args.depth) empty ∙ value_is c.args.depth [])

pub returns-then-depth-eq0-clause-err : goal.returns-then-depth-eq0-clause-err
unfolding value
returns-then-depth-eq0-clause-err c invalid =
    let first : c.args.reader.now ≡ token_of c.in-Some.token ∷ c.next.new.self = grind arith in
    let none : c.args.depth ≡ 0 = omega arith in
    ap (converted of_json) (ap₂ value none (first ∙ ap (λ k. token_of k ∷ c.next.new.self) c.in-BeginArray.is))

pub returns-else-depth-eq0-clause-ok : goal.returns-else-depth-eq0-clause-ok
returns-else-depth-eq0-clause-ok c =
    let r = c.next.new.self in
    let first : c.args.reader.now ≡ token_of c.in-Some.token ∷ r = grind arith in
    let opened = ap (λ ts. converted of_json (value c.args.depth ts)) first ∙ array_after c.args.depth _ r (ap token_of c.in-BeginArray.is) (omega arith) in
    IfOk-weaker c.read_items.result _ _ (λ changes h. (array h.0, h.1, opened ∙ ap (parse_map array) h.2)) c.read_items.ensures.ok

pub returns-else-depth-eq0-clause-err : goal.returns-else-depth-eq0-clause-err
returns-else-depth-eq0-clause-err c =
    let r = c.next.new.self in
    let first : c.args.reader.now ≡ token_of c.in-Some.token ∷ r = grind arith in
    let opened = ap (λ ts. converted of_json (value c.args.depth ts)) first ∙ array_after c.args.depth _ r (ap token_of c.in-BeginArray.is) (omega arith) in
    IfErr-weaker c.read_items.result _ _ (λ e h invalid. opened ∙ ap (parse_map array) (h invalid)) c.read_items.ensures.err

pub returns-in-Ok-clause-ok : goal.returns-in-Ok-clause-ok
returns-in-Ok-clause-ok c =
    let other = c.in-Some.token in
    let r = c.next.new.self in
    let first : c.args.reader.now ≡ token_of other ∷ r = grind arith in
    let passed = c.in-Ok.ensures.ok in
    let none = no_changes c.args.depth (token_of other) r c.read_after.new.reader passed.0 (no_array other c.in_default-token.not-BeginArray) passed.2 in
    (passed.0, ap (option_and_then all_changes) none, ap (λ ts. converted of_json (value c.args.depth ts)) first ∙ passed.2)
