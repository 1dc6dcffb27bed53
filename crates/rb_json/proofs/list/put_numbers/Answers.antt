use Rattle.std.proofs.Common.{ℕ, subst, sym, ◌∙◌}
use Rattle.serde_json.specs.Data.{number}
use Rattle.serde_json.specs.Find.{of_integer}
use Rattle.rb_tree.specs.Parts.{numbers_of}
use Rattle.rb_json.specs.inner.Lines.{end_line}
use Rattle.rb_json.proofs.Laid.{numbers_taken}
use Rattle.rb_json.proofs.OfKinds.{as_many_numbers}
use Rattle.rb_json.proofs.list.put_numbers.Goals as goal

pub returns : goal.returns
returns g c =
    let t = g.N.Node.tree c.args.node in
    let end = subst (λ (n : ℕ). g.O.Outlet.takes c.put_number_items.new.out c.put_end_line.new.out (end_line c.args.layout c.args.depth n))
    (c.len.ensures ∙ sym (as_many_numbers t c.requires.ints)) c.put_end_line.ensures in
    numbers_taken g.O.Outlet.takes g.met.O.Outlet.joined c.args.out.now c.put.new.self c.put_number_items.new.out c.put_end_line.new.out c.put-2.new.self
    c.args.layout c.args.depth (λ z. number (of_integer z)) (numbers_of t) c.put.ensures c.put_number_items.ensures end c.put-2.ensures
