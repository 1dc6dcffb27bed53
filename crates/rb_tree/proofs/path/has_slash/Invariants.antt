use Rattle.std.proofs.Common.{◌≡◌, take}
use Rattle.std.specs.List.{list_any}
use Rattle.rb_tree.specs.Path.{is_slash}
use Rattle.rb_tree.proofs.path.has_slash.Given as goal

abbrev pub invariant-loop-b : goal.invariant-loop-b
invariant-loop-b l = l.found ≡ list_any is_slash (take l.b-index l.block)
