use Rattle.std.proofs.Common.{◌≡◌, map, take}
use Rattle.rb_writer.specs.declared.sorting.Headed.{Headed}
use Rattle.rb_writer.proofs.sorting.by_heads.Given as goal

abbrev pub invariant-loop-i : goal.invariant-loop-i
invariant-loop-i l = map (λ (h : Headed). h.key) l.found.items ≡ take l.i l.keys
