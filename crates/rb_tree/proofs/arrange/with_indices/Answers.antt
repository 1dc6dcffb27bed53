use Rattle.std.proofs.Common.{◌≡◌, List, ℕ, get_or, rules, arith, refl, sym, ap, ◌∙◌}
use Rattle.std.proofs.lemmas.List.{length-map}
use Rattle.rb_tree.specs.declared.tree.Tree.{Tree}
use Rattle.rb_tree.proofs.Tables.{key_at_pair}
use Rattle.rb_tree.proofs.Arranging.{number_more}
use Rattle.rb_tree.proofs.arrange.with_indices.Goals as goal

pub loop-index-preserved : goal.loop-index-preserved
loop-index-preserved c =
    let same : c.index-pairs-index.result ≡ get_or c.args.pairs.now c.loop-index.index c.index-pairs-index.result = search rules in
    record {
      count = search rules;
      each = number_more _ c.loop-index.numbered.items _ _ c.loop-index.index c.loop-index.invariant.count c.loop-index.invariant.each
          c.in_ok-push.ensures.items
          (c.as_slice-key.ensures ∙ ap (λ (p : List ℕ × Tree). p.0) (sym same) ∙ sym (key_at_pair c.args.pairs.now c.loop-index.index c.index-pairs-index.result same (search rules))) refl;
    }

pub returns : goal.returns
returns c = record {
  same_length = omega (arith, c.loop-index.invariant.count, length-map c.args.pairs.now (λ p. p.0));
  each = c.loop-index.invariant.each;
}
