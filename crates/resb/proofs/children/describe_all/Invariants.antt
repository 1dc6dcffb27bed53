use Rattle.std.proofs.Common.{◌≡◌, map, take}
use Rattle.resb.specs.Children.{listed, shown_child}
use Rattle.resb.proofs.children.describe_all.Given as goal

abbrev pub invariant-loop-i : goal.invariant-loop-i
invariant-loop-i l = map shown_child (take l.i l.out) ≡ take l.i (listed l.items)
