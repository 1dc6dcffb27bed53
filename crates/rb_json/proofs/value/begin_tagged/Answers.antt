use Rattle.std.proofs.Common.{[], ◌∷◌, ◌+◌, ◌++◌}
use Rattle.json.specs.Print.{quoted}
use Rattle.rb_json.specs.inner.Lines.{colon, line_at, member_name}
use Rattle.rb_json.proofs.value.begin_tagged.Goals as goal

pub returns : goal.returns
returns g c =
    let joined = g.met.O.Outlet.joined in
    let name = member_name c.args.layout c.args.name.now in
    let line = line_at c.args.layout (c.args.depth + 1) in
    let end = c.put_colon.new.out in
    joined c.args.out.now c.put.new.self end (123 ∷ []) (line ++ name) c.put.ensures
    (joined c.put.new.self c.put_line.new.out end line name c.put_line.ensures
    (joined c.put_line.new.out c.spell_text.new.out end (quoted c.args.name.now) (colon c.args.layout) c.spell_text.ensures c.put_colon.ensures))
