use Rattle.rb_replies.proofs.extended.put_file.Goals as goal

pub returns : goal.returns
returns g c =
    let join = g.met.O.Outlet.joined in
    join c.args.out.now c.put_digits.new.out c.put-2.new.self _ _
    (join c.args.out.now c.put.new.self c.put_digits.new.out _ _ c.put.ensures c.put_digits.ensures) c.put-2.ensures
