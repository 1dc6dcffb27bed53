use Rattle.std.proofs.Common.{◌-◌, sym, ◌∙◌, ap}
use Rattle.rb_tree.specs.Resource.{height}
use Rattle.rb_format.specs.Item.{offset_of}
use Rattle.rb_format.specs.inner.FirstFault.{read, result_map}
use Rattle.rb_validator.proofs.Entering.{item_bare, item_inner}
use Rattle.rb_validator.proofs.Shapes.{leaf_height}
use Rattle.rb_validator.proofs.LeafRuns.{bare_known, empty_known, ok_none}
use Rattle.rb_validator.proofs.spans.leaves.is_leaf.Goals as goal

pub returns-in-Ok-false : goal.returns-in-Ok-false
returns-in-Ok-false c = λ _.
    let y = c.args.body.layout.now in let body = c.args.body.bytes.now in
    let w = rw (c.item_offset-offset.ensures, c.in-Ok-false.field-0-test) at c.in-Ok-false.ensures in
    record {
      value = λ left l. item_bare y body left c.args.item c.in-Some.kind l (sym c.in-Some.ensures) w;
      known = λ cells. empty_known y c.args.item c.in-Some.kind (sym c.in-Some.ensures) w cells;
    }

pub returns-then-not-has_children : goal.returns-then-not-has_children
returns-then-not-has_children c = λ ok.
    let y = c.args.body.layout.now in let body = c.args.body.bytes.now in
    let w = rw (c.item_offset-offset.ensures, c.in-Ok-true.field-0-test) at c.in-Ok-true.ensures in
    let bare = sym c.has_children.ensures ∙ c.if-not-has_children.true in
    record {
      value = λ left l.
          let f = rw c.item_offset-offset.ensures at (c.check_leaf.ensures (λ w. read y body (left - 1) w)) in
          ap (result_map height) (item_inner y body left c.args.item c.in-Some.kind l (sym c.in-Some.ensures) (sym w))
          ∙ leaf_height y body (λ w. read y body (left - 1) w) (offset_of c.args.item) c.in-Some.kind bare (sym f ∙ ok_none c.check_leaf.result (sym c.is_ok.ensures.value ∙ ok));
      known = λ cells. bare_known c.args.item c.in-Some.kind (sym c.in-Some.ensures) bare cells;
    }
