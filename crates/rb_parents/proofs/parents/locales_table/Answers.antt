use Rattle.std.proofs.Common.{codes}
use Rattle.rb_tree.specs.Parts.{child_of}
use Rattle.rb_tree.specs.View.{view_of}
use Rattle.rb_parents.proofs.Children.{table_missing}
use Rattle.rb_parents.proofs.parents.locales_table.Goals as goal

pub returns-clause-none : goal.returns-clause-none
returns-clause-none c =
    table_missing c.child_of_kind.result (child_of (codes "parentLocales") (view_of c.args.tree.now)) c.child_of_kind.ensures.none
