use Rattle.std.proofs.Common.{◌≡◌, List, [], false, nat_eq, rules, sym, ap, ◌∙◌}
use Rattle.std.specs.Cmp.Lexicographic.{pointwise}
use Rattle.rb_grammar.specs.Reading.{is_among}
use Rattle.rb_parser.specs.inner.Rows.{Pair, keys_after}
use Rattle.rb_parser.proofs.Repeats.{met_pair, not_met, none_more, differ, same_key}
use Rattle.rb_parser.proofs.table.Rows.has.Goals as goal

pub returns-then-eq : goal.returns-then-eq
returns-then-eq c =
    let same = sym c.eq.ensures ∙ c.if-eq.true in
    sym (ap (λ (ps : List Pair). is_among (keys_after ps []) c.args.key.now) (sym c.deref-pair-items.ensures.value)
    ∙ met_pair c.deref-pair-items.result.now c.args.key.now c.loop-pair.pair-index c.pair-item.result (search rules) c.pair-item.is
    (sym c.as_slice.ensures ∙ same_key c.as_slice.result.now c.args.key.now same))

pub returns : goal.returns
returns c =
    sym (ap (λ (ps : List Pair). is_among (keys_after ps []) c.args.key.now) (sym c.deref-pair-items.ensures.value)
    ∙ not_met c.deref-pair-items.result.now c.args.key.now c.loop-pair.pair-index c.loop-pair.invariant (search rules))

pub loop-pair-preserved : goal.loop-pair-preserved
loop-pair-preserved c =
    let other : pointwise nat_eq c.as_slice.result.now c.args.key.now ≡ false = sym c.eq.ensures ∙ c.if-eq.false in
    none_more c.deref-pair-items.result.now c.args.key.now c.loop-pair.pair-index c.pair-item.result c.loop-pair.invariant (search rules) c.pair-item.is
    (λ e. differ c.as_slice.result.now c.args.key.now other (c.as_slice.ensures ∙ e))
