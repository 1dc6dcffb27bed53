use Rattle.std.proofs.Common.{◌≡◌, ◌∷◌, [], Some, ap, sym, ◌∙◌, arith, refl}
use Rattle.json.specs.Token.{Token}
use Rattle.json.specs.Lex.{tokens}
use Rattle.json.specs.Json.{parse_map, value}
use Rattle.serde_json.specs.Data.{object}
use Rattle.serde_json.specs.Read.{read}
use Rattle.rb_requests.proofs.MembersRead.{whole_read, whole_refused, whole_and_more}
use Rattle.rb_requests.proofs.Members.{no_object, no_value, object_opened, ended}
use Rattle.rb_requests.proofs.TextsRead.{data_of-text, data_of-no_text}
use Rattle.rb_requests.proofs.member_store.read_object.Goals as goal

pub returns-in_default-clause-all : goal.returns-in_default-clause-all
returns-in_default-clause-all g c found e = let none = data_of-no_text c.args.line.now c.in_default.ensures.cases.0 in cc

pub returns-then-not-opens_object-clause-all : goal.returns-then-not-opens_object-clause-all
returns-then-not-opens_object-clause-all g c found e =
    let text = c.in-Ok.text.now in
    let is = c.in-Ok.ensures.cases in
    let same : c.in_ok-reader.reader ≡ tokens text = grind arith in
    absurd (no_object (tokens text) found (rw (← same) c.if-not-opens_object.ensures)
    (sym (data_of-text c.args.line.now text (read text) is.0 is.1 refl) ∙ e))

pub returns-in-Ok-read_members-clause-read : goal.returns-in-Ok-read_members-clause-read
returns-in-Ok-read_members-clause-read g c none =
    let text = c.in-Ok.text.now in
    let is = c.in-Ok.ensures.cases in
    let rest = c.opens_object.new.reader in
    let first : tokens text ≡ Token.begin_object ∷ rest = grind arith in
    let told = c.in-Ok-read_members.ensures.ok in
    let empty : c.read_members.new.reader ≡ [] = grind arith in
    let whole = object_opened (tokens text) rest first ∙ ap (parse_map object) told.2 ∙ ap (λ ts. Some (object told.0, ts)) empty in
    (told.0, told.1, data_of-text c.args.line.now text _ is.0 is.1 (whole_read (value 127 (tokens text)) (object told.0) whole))

pub returns-in-Ok-read_members-clause-all : goal.returns-in-Ok-read_members-clause-all
returns-in-Ok-read_members-clause-all g c found e =
    let is = c.in-Ok.ensures.cases in
    let rest = c.opens_object.new.reader in
    let text = tokens c.in-Ok.text.now in
    let first : text ≡ Token.begin_object ∷ rest = grind arith in
    let told = c.in-Ok-read_members.ensures.ok in
    let opened = object_opened text rest first in
    ended c.next.result c.read_members.new.reader c.next.new.self c.is_none.result c.is_none.ensures c.next.ensures.value (
    λ t more.
    let all = opened ∙ ap (parse_map object) told.2 ∙ ap (λ ts. Some (object told.0, ts)) more in
    no_value text (object found) (whole_and_more (value 127 text) (object told.0) t c.next.new.self all)
    (sym (data_of-text c.args.line.now c.in-Ok.text.now (read c.in-Ok.text.now) is.0 is.1 refl) ∙ e))

pub returns-in-Err-Invalid-clause-all : goal.returns-in-Err-Invalid-clause-all
returns-in-Err-Invalid-clause-all g c found e =
    let is = c.in-Ok.ensures.cases in
    let rest = c.opens_object.new.reader in
    let text = tokens c.in-Ok.text.now in
    let first : text ≡ Token.begin_object ∷ rest = grind arith in
    let none = object_opened text rest first ∙ ap (parse_map object) (c.in-Err-Invalid.ensures.err c.in-Err-Invalid.field-0-is) in
    absurd (no_value text (object found) (whole_refused (value 127 text) none)
    (sym (data_of-text c.args.line.now c.in-Ok.text.now (read c.in-Ok.text.now) is.0 is.1 refl) ∙ e))
