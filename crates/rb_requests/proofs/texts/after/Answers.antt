use Rattle.std.proofs.Common.{◌∙◌, sym}
use Rattle.serde_json.proofs.Views.{get_member-put}
use Rattle.rb_requests.proofs.TextsPut.{same_name, stays}
use Rattle.rb_requests.proofs.texts.after.Goals as goal

pub returns-then-eq : goal.returns-then-eq
returns-then-eq c found d member held =
    rw (same_name c.args.key.now c.args.name.now (sym c.eq.ensures ∙ c.if-eq.true)) (d, get_member-put c.args.name.now d found, member)

pub returns-else-eq : goal.returns-else-eq
returns-else-eq c found d member held = stays c.args.name.now c.args.key.now found d c.args.held (sym c.eq.ensures ∙ c.if-eq.false) held
