use Rattle.std.proofs.Common.{List, ℕ, subst}
use Rattle.serde_json.specs.Written.{compact_text}
use Rattle.rb_json.specs.Item.{found_data}
use Rattle.rb_views.specs.Seen.{tree_seen}
use Rattle.rb_replies.proofs.reply.put_found_line.Goals as goal

pub returns : goal.returns
returns g c =
    let found = c.args.found.now in
    let t = tree_seen found.node in
    let old = c.args.out.now in
    let mid = c.put_found.new.out in
    let by_actual = subst (λ (v : List ℕ). g.O.Outlet.takes old mid (compact_text (found_data c.as_bytes.result.now v t))) c.as_bytes-2.ensures.bytes c.put_found.ensures in
    let put = subst (λ (a : List ℕ). g.O.Outlet.takes old mid (compact_text (found_data a found.valid t))) c.as_bytes.ensures.bytes by_actual in
    g.met.O.Outlet.joined old mid c.put.new.self _ _ put c.put.ensures
