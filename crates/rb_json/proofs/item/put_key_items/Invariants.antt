use Rattle.std.proofs.Common.{encode_utf8_all, take}
use Rattle.std.specs.Map.{keys_of}
use Rattle.json.specs.Print.{quoted}
use Rattle.rb_tree.specs.Parts.{pairs_of}
use Rattle.rb_json.specs.inner.Listed.{listed}
use Rattle.rb_json.proofs.item.put_key_items.Given as goal

abbrev pub invariant-loop-i : goal.invariant-loop-i
invariant-loop-i g l =
    g.O.Outlet.takes l.fn.out l.out (listed (λ k. quoted (encode_utf8_all k)) (take l.i (keys_of (pairs_of (g.N.Node.tree l.node)))))
