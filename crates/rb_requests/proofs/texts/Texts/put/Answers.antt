use Rattle.std.proofs.Common.{◌∙◌, codes, sym}
use Rattle.rb_requests.proofs.TextsPut.{holds_named, stays}
use Rattle.rb_requests.proofs.texts.Texts.put.Goals as goal

pub returns-then-eq : goal.returns-then-eq
returns-then-eq c = holds_named c.args.key.now (codes "op") c.args.member c.args.self.now (sym c.eq.ensures ∙ c.if-eq.true)

pub returns-then-eq-2 : goal.returns-then-eq-2
returns-then-eq-2 c = holds_named c.args.key.now (codes "app") c.args.member c.args.self.now (sym c.eq-else-eq.ensures ∙ c.if-eq-2.true)

pub returns-then-eq-3 : goal.returns-then-eq-3
returns-then-eq-3 c = holds_named c.args.key.now (codes "locale") c.args.member c.args.self.now (sym c.eq-else-eq-2.ensures ∙ c.if-eq-3.true)

pub returns-then-eq-4 : goal.returns-then-eq-4
returns-then-eq-4 c = holds_named c.args.key.now (codes "path") c.args.member c.args.self.now (sym c.eq-else-eq-3.ensures ∙ c.if-eq-4.true)

pub returns-then-eq-5 : goal.returns-then-eq-5
returns-then-eq-5 c = holds_named c.args.key.now (codes "text") c.args.member c.args.self.now (sym c.eq-else-eq-4.ensures ∙ c.if-eq-5.true)

pub returns-then-eq-6 : goal.returns-then-eq-6
returns-then-eq-6 c = holds_named c.args.key.now (codes "file") c.args.member c.args.self.now (sym c.eq-else-eq-5.ensures ∙ c.if-eq-6.true)

pub returns-else-eq-6 : goal.returns-else-eq-6
returns-else-eq-6 c found d is held =
    let k = c.args.key.now in
    let m = c.args.self.now in record {
      op = stays (codes "op") k found d m.op (sym c.eq.ensures ∙ c.if-eq.false) held.op;
      app = stays (codes "app") k found d m.app (sym c.eq-else-eq.ensures ∙ c.if-eq-2.false) held.app;
      locale = stays (codes "locale") k found d m.locale (sym c.eq-else-eq-2.ensures ∙ c.if-eq-3.false) held.locale;
      path = stays (codes "path") k found d m.path (sym c.eq-else-eq-3.ensures ∙ c.if-eq-4.false) held.path;
      text = stays (codes "text") k found d m.text (sym c.eq-else-eq-4.ensures ∙ c.if-eq-5.false) held.text;
      file = stays (codes "file") k found d m.file (sym c.eq-else-eq-5.ensures ∙ c.if-eq-6.false) held.file;
    }
