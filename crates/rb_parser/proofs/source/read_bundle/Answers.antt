use Rattle.std.proofs.Common.{◌≡◌, sym, ap, ◌∙◌}
use Rattle.std.proofs.lemmas.Bool.{false≢true}
use Rattle.std.proofs.lemmas.Result.{err_from_is_err_and}
use Rattle.rb_grammar.specs.Faults.{line_at}
use Rattle.rb_parser.proofs.Wholes.{no_name, no_type_here, no_brace, no_table, whole, trailing}
use Rattle.rb_parser.proofs.source.read_bundle.Goals as goal

pub returns-in_err-name : goal.returns-in_err-name
returns-in_err-name c =
    let p = err_from_is_err_and c.from_residual.result c.from_residual.ensures.1 in
    rw (p.1, p.2) (λ other. no_name c.args.cursor.now.rest c.args.cursor.now.end _ (c.in_err-name.ensures.exact other))

pub returns-in_err-no_fallback : goal.returns-in_err-no_fallback
returns-in_err-no_fallback c =
    let p = err_from_is_err_and c.from_residual-in_err-no_fallback.result c.from_residual-in_err-no_fallback.ensures.1 in
    rw (p.1, p.2) (λ other. no_type_here c.args.cursor.now.rest c.in_ok-name.name c.text.new.self.rest c.in_ok-name.ensures.exact
    c.args.cursor.now.end c.text.new.self.end _ c.in_ok-name.ensures.same_end (c.in_err-no_fallback.ensures.exact other))

pub returns-in_err-expect : goal.returns-in_err-expect
returns-in_err-expect c =
    let p = err_from_is_err_and c.from_residual-in_err-expect.result c.from_residual-in_err-expect.ensures.1 in
    let t = c.in_ok-no_fallback.ensures.exact in
    rw (p.1, p.2) (λ other. no_brace c.args.cursor.now.rest c.in_ok-name.name c.text.new.self.rest c.in_ok-name.ensures.exact t.0
    c.read_type.new.cursor.rest t.1 c.args.cursor.now.end c.read_type.new.cursor.end _
    (c.in_ok-no_fallback.ensures.same_end ∙ c.in_ok-name.ensures.same_end) (c.in_err-expect.ensures.exact other))

pub returns-in_err-tree : goal.returns-in_err-tree
returns-in_err-tree c =
    let p = err_from_is_err_and c.from_residual-in_err-tree.result c.from_residual-in_err-tree.ensures.1 in
    let t = c.in_ok-no_fallback.ensures.exact in
    let same : c.expect.new.self.end ≡ c.args.cursor.now.end =
    c.in_ok-expect.ensures.same_end ∙ c.in_ok-no_fallback.ensures.same_end ∙ c.in_ok-name.ensures.same_end in
    rw (p.1, p.2) (λ other. no_table c.args.cursor.now.rest c.in_ok-name.name c.text.new.self.rest c.in_ok-name.ensures.exact t.0
    c.read_type.new.cursor.rest t.1 c.expect.new.self.rest c.in_ok-expect.ensures.exact c.args.cursor.now.end c.expect.new.self.end _ same
    (c.in_err-tree.ensures.exact other))

pub returns-then-not-is_at_end : goal.returns-then-not-is_at_end
returns-then-not-is_at_end c = λ other.
    let t = c.in_ok-no_fallback.ensures.exact in
    let es = c.in_ok-tree.ensures.exact in
    let rest = c.read_table.new.cursor.rest in
    let same : c.read_table.new.cursor.end ≡ c.args.cursor.now.end =
    c.in_ok-tree.ensures.same_end ∙ c.in_ok-expect.ensures.same_end ∙ c.in_ok-no_fallback.ensures.same_end ∙ c.in_ok-name.ensures.same_end in
    trailing c.args.cursor.now.rest c.in_ok-name.name c.text.new.self.rest c.in_ok-name.ensures.exact t.0 c.read_type.new.cursor.rest t.1
    c.expect.new.self.rest c.in_ok-expect.ensures.exact es.0 rest es.1 c.args.cursor.now.end c.fault.result
    (λ none. false≢true (sym c.if-not-is_at_end.true ∙ c.is_at_end.ensures.1 none)) c.fault.ensures.kind (c.fault.ensures.line ∙ ap (λ e. line_at e rest) same)

pub returns : goal.returns
returns c =
    let t = c.in_ok-no_fallback.ensures.exact in
    let es = c.in_ok-tree.ensures.exact in
    let rest = c.read_table.new.cursor.rest in (
      t.0,
      es.0,
      whole c.args.cursor.now.rest c.in_ok-name.name c.text.new.self.rest c.in_ok-name.ensures.exact t.0 c.read_type.new.cursor.rest
          t.1 c.expect.new.self.rest c.in_ok-expect.ensures.exact es.0 rest es.1 (c.is_at_end.ensures.0 c.if-not-is_at_end.false),
      es.2,
      t.2,
    )
