use Rattle.std.proofs.Common.{[], ◌∷◌, ◌*◌, replicate}
use Rattle.rb_json.proofs.list.put_line.Goals as goal

pub returns-in-Pretty : goal.returns-in-Pretty
returns-in-Pretty g c =
    rw c.in-Pretty.is (g.met.O.Outlet.joined c.args.out.now c.put.new.self c.put_indent.new.out (10 ∷ []) (replicate (2 * c.args.depth) 32) c.put.ensures c.put_indent.ensures)
