use Rattle.std.proofs.Common.{◌≡◌, take}
use Rattle.json.specs.Print.{escape}
use Rattle.rb_tree.specs.Parts.{units_of}
use Rattle.rb_json.specs.inner.Run.{IsRun}
use Rattle.rb_json.proofs.spell.plain_run.Given as goal

abbrev pub invariant-loop-i : goal.invariant-loop-i
invariant-loop-i g l = IsRun l.block (units_of (g.N.Node.tree l.node)) 0 l.i × (escape (take l.i l.block) ≡ take l.i l.block)
