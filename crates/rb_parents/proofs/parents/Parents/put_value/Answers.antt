use Rattle.std.proofs.Common.{◌≡◌, ap, sym, ◌∙◌, arith, rules, Some, Err, map, drop}
use Rattle.rb_tree.specs.Parts.{children_of, kind_of, units_of}
use Rattle.rb_tree.specs.View.{view_of}
use Rattle.rb_tree.specs.declared.kind.Kind.TheVariants as Kinds
use Rattle.rb_locales.specs.Locale.{name}
use Rattle.rb_parents.specs.inner.Entries.{put_child, put_children, put_value}
use Rattle.rb_parents.specs.ParentMap.{texts_in}
use Rattle.rb_parents.specs.Family.{parent_of}
use Rattle.rb_parents.proofs.Explicits.{array_len, children_on, children_bad, children_end, string_in, fault_on, err_is}
use Rattle.rb_parents.proofs.parents.Parents.put_value.Goals as goal

pub put_child-requires-in-loop-i : goal.put_child-requires-in-loop-i
put_child-requires-in-loop-i c =
    let t = view_of c.args.value.now in
    let array : kind_of t ≡ Kinds.Array = search rules in
    let texts : texts_in t ≡ Some (map units_of (children_of t)) = search rules in
    string_in t c.loop-i.i (view_of c.at.result.now) array texts (sym c.at.ensures)

pub returns-in_err-put_child-clause-fault : goal.returns-in_err-put_child-clause-fault
returns-in_err-put_child-clause-fault c =
    let here = c.in_err-put_child.field-0.0 in
    let t = view_of c.args.value.now in
    let x = view_of c.at.result.now in
    let known = parent_of c.loop-i.self in
    let texts : texts_in t ≡ Some (map units_of (children_of t)) = search rules in
    let whole = put_value c.args.parent (texts_in t) (parent_of c.args.self.now) in
    let same : whole ≡ put_children c.args.parent (map units_of (drop c.loop-i.i (children_of t))) known =
    ap (λ o. put_value c.args.parent o (parent_of c.args.self.now)) texts ∙ sym c.loop-i.invariant in
    err_is c.from_residual.result here _ c.from_residual.ensures.1
    (fault_on here (put_child c.args.parent (name (units_of x)) known) (whole ≡ Err here)
    (λ e. same ∙ children_bad c.args.parent (children_of t) c.loop-i.i x known here (sym c.at.ensures) e) c.in_err-put_child.ensures.fault)

pub loop-i-preserved : goal.loop-i-preserved
loop-i-preserved c =
    let t = view_of c.args.value.now in
    sym (children_on c.args.parent (children_of t) c.loop-i.i (view_of c.at.result.now) (parent_of c.loop-i.self) (parent_of c.put_child-in-loop-i.new.self)
    (sym c.at.ensures) c.in_ok-put_child.ensures.ok) ∙ c.loop-i.invariant

pub returns-clause-ok : goal.returns-clause-ok
returns-clause-ok c =
    let t = view_of c.args.value.now in
    let array : kind_of t ≡ Kinds.Array = search rules in
    let texts : texts_in t ≡ Some (map units_of (children_of t)) = search rules in
    ap (λ o. put_value c.args.parent o (parent_of c.args.self.now)) texts
    ∙ sym c.loop-i.invariant
    ∙ children_end c.args.parent (children_of t) c.loop-i.i (parent_of c.loop-i.self)
    (omega (arith, array_len t array, c.len-i-end.ensures, c.loop-i-test.false))
