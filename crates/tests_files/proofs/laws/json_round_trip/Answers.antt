use Rattle.std.proofs.Common.{◌∙◌}
use Rattle.rb_tree.specs.View.{view_of}
use Rattle.tests_files.proofs.JsonTrees.{tree_back}
use Rattle.tests_files.proofs.laws.json_round_trip.Goals as goal

pub returns-in-Ok : goal.returns-in-Ok
returns-in-Ok c =
    tree_back c.args.layout c.as_bytes.result.now (view_of c.args.tree.now) (view_of c.in-Ok.other) c.look_at.ensures c.look_at-in-Ok.ensures
    c.one_arrangement.ensures (c.as_bytes.ensures.value ∙ c.in_ok-text.ensures.text) c.in-Ok.ensures.reads
