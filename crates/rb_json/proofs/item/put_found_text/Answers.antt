use Rattle.std.proofs.Common.{subst, sym}
use Rattle.serde_json.specs.Written.{compact_text}
use Rattle.rb_tree.specs.Resource.{Resource}
use Rattle.rb_tree.specs.Parts.{units_of}
use Rattle.rb_json.specs.Item.{found_data}
use Rattle.rb_json.proofs.ItemKinds.{is_string}
use Rattle.rb_json.proofs.Objects.{string_taken}
use Rattle.rb_json.proofs.item.put_found_text.Goals as goal

pub returns : goal.returns
returns g c =
    let t = g.N.Node.tree c.args.node in
    let actual = c.args.actual.now in
    let valid = c.args.valid.now in
    let told = string_taken g.O.Outlet.takes g.met.O.Outlet.joined c.args.out.now c.put.new.self c.put_latin.new.out c.put-2.new.self c.put_latin-2.new.out
    c.put-3.new.self c.put_characters.new.out c.put-4.new.self actual valid (units_of t) c.requires.whole
    c.put.ensures c.put_latin.ensures c.put-2.ensures c.put_latin-2.ensures c.put-3.ensures c.put_characters.ensures c.put-4.ensures in
    subst (λ (item : Resource). g.O.Outlet.takes c.args.out.now c.put-4.new.self (compact_text (found_data actual valid item))) (sym (is_string t c.requires.string)) told
