use Rattle.std.proofs.Common.{◌≡◌, [], ◌∷◌, option_map, Some, sym, ap, ap₂, ◌∙◌, arith}
use Rattle.json.specs.Json.{parse_map, value}
use Rattle.json.specs.Reads.{token_of}
use Rattle.json.proofs.Grammar.{value_is}
use Rattle.serde_json.specs.Data.{object}
use Rattle.serde_json.specs.Read.{of_json, converted}
use Rattle.rb_requests.proofs.Members.{object_after}
use Rattle.rb_requests.proofs.ChangesFound.{texts_change, no_change, no_object}
use Rattle.rb_requests.proofs.change_list.read_change.Goals as goal

pub returns-in_default-clause-err : goal.returns-in_default-clause-err
returns-in_default-clause-err c invalid =
    let empty : c.args.reader.now ≡ [] = grind arith in
    ap (converted of_json) (ap (value c.args.depth) empty ∙ value_is c.args.depth [])

pub returns-then-depth-eq0-clause-err : goal.returns-then-depth-eq0-clause-err
unfolding value
returns-then-depth-eq0-clause-err c invalid =
    let first : c.args.reader.now ≡ token_of c.in-Some.token ∷ c.next.new.self = grind arith in
    let none : c.args.depth ≡ 0 = omega arith in
    ap (converted of_json) (ap₂ value none (first ∙ ap (λ k. token_of k ∷ c.next.new.self) c.in-BeginObject.is))

pub returns-in-Err-clause-err : goal.returns-in-Err-clause-err
returns-in-Err-clause-err c invalid =
    let r = c.next.new.self in
    let first : c.args.reader.now ≡ token_of c.in-Some.token ∷ r = grind arith in
    let opened = ap (λ ts. converted of_json (value c.args.depth ts)) first ∙ object_after c.args.depth _ r (ap token_of c.in-BeginObject.is) (omega arith) in
    opened ∙ ap (parse_map object) (c.in-Err.ensures.err invalid)

pub returns-in-Ok-clause-ok : goal.returns-in-Ok-clause-ok
returns-in-Ok-clause-ok c =
    let r = c.next.new.self in
    let first : c.args.reader.now ≡ token_of c.in-Some.token ∷ r = grind arith in
    let opened = ap (λ ts. converted of_json (value c.args.depth ts)) first ∙ object_after c.args.depth _ r (ap token_of c.in-BeginObject.is) (omega arith) in
    let found = c.in-Ok.ensures.ok in
    let same = texts_change c.read_members.new.store found.0 found.1 in
    (object found.0, c.change.ensures ∙ ap (option_map Some) (sym same), opened ∙ ap (parse_map object) found.2)

pub returns-in-Ok-read_after-clause-ok : goal.returns-in-Ok-read_after-clause-ok
returns-in-Ok-read_after-clause-ok c =
    let other = c.in-Some.token in
    let r = c.next.new.self in
    let first : c.args.reader.now ≡ token_of other ∷ r = grind arith in
    let passed = c.in-Ok-read_after.ensures.ok in
    let none = no_change c.args.depth (token_of other) r c.read_after.new.reader passed.0 (no_object other c.in_default-token.not-BeginObject) passed.2 in
    (passed.0, none, ap (λ ts. converted of_json (value c.args.depth ts)) first ∙ passed.2)
