use Rattle.std.proofs.Common.{◌≡◌, ◌∙◌, arith, rules, sym}
use Rattle.rb_tree.specs.Parts.{children_of, kind_of}
use Rattle.rb_tree.specs.View.{view_of}
use Rattle.rb_tree.specs.declared.kind.Kind.TheVariants as Kinds
use Rattle.rb_parents.proofs.Explicits.{array_texts, array_len, strings_none, strings_all, string_more}
use Rattle.rb_parents.proofs.parents.are_strings.Goals as goal

pub returns-then-ne : goal.returns-then-ne
returns-then-ne c =
    let other : kind_of (view_of c.at.result.now) ≡ Kinds.String → ⊥ = search rules in
    array_texts (view_of c.args.value.now) c.requires ∙ strings_none (children_of (view_of c.args.value.now)) c.loop-i.i (view_of c.at.result.now)
    (sym c.at.ensures) other

pub loop-i-preserved : goal.loop-i-preserved
loop-i-preserved c =
    let string : kind_of (view_of c.at.result.now) ≡ Kinds.String = search rules in
    string_more (children_of (view_of c.args.value.now)) c.loop-i.i (view_of c.at.result.now) (sym c.at.ensures) string c.loop-i.invariant

pub returns : goal.returns
returns c =
    let t = view_of c.args.value.now in
    array_texts t c.requires ∙ strings_all (children_of t) (λ k d l. c.loop-i.invariant k d
    (omega (arith, array_len t c.requires, c.len-i-end.ensures, c.loop-i-test.false)))
