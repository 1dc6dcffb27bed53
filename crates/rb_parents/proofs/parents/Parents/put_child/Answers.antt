use Rattle.std.proofs.Common.{◌≡◌, Some, ap, sym, ◌∙◌}
use Rattle.std.specs.Result.{result_ok}
use Rattle.rb_tree.specs.Parts.{units_of}
use Rattle.rb_tree.specs.View.{view_of}
use Rattle.rb_locales.specs.Locale.{name}
use Rattle.rb_parents.specs.inner.Entries.{put_child}
use Rattle.rb_parents.specs.Family.{parent_of}
use Rattle.rb_parents.proofs.Explicits.{put_new}
use Rattle.rb_parents.proofs.parents.Parents.put_child.Goals as goal

pub returns-in-Ok-insert-clause-ok : goal.returns-in-Ok-insert-clause-ok
returns-in-Ok-insert-clause-ok c =
    let read : name (units_of (view_of c.args.text.now)) ≡ Some c.in-Ok.child = sym c.read_units.ensures ∙ ap result_ok c.in-Ok.is in
    ap (λ o. put_child c.args.parent o (parent_of c.args.self.now)) read
    ∙ put_new (parent_of c.args.self.now) (parent_of (record { by_child = c.insert.new.self })) c.args.parent c.in-Ok.child (sym c.if-contains_key.ensures)
    c.in-Ok-insert.ensures.updates.0
