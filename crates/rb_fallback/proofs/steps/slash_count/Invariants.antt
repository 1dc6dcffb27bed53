use Rattle.std.proofs.Common.{◌≡◌, take}
use Rattle.std.specs.List.{count_by}
use Rattle.rb_tree.specs.Path.{is_slash}
use Rattle.rb_fallback.proofs.steps.slash_count.Given as goal

abbrev pub invariant-loop-byte : goal.invariant-loop-byte
invariant-loop-byte l = (l.count ≡ count_by is_slash (take l.byte-index l.path))
