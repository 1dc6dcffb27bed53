use Rattle.std.proofs.Common.{take}
use Rattle.json.specs.Print.{escape}
use Rattle.hex.specs.Hex.{encode_lower}
use Rattle.rb_tree.specs.Parts.{bytes_of}
use Rattle.rb_json.proofs.spell.put_pairs.Given as goal

abbrev pub invariant-loop-i : goal.invariant-loop-i
invariant-loop-i g l = g.O.Outlet.takes l.fn.out l.out (escape (encode_lower (take l.i (bytes_of (g.N.Node.tree l.node)))))
