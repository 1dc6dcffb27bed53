use Rattle.std.proofs.Common.{◌≡◌, ◌+◌, ◌<◌, ◌∙◌, None, inl, inr, get_or, length, arith}
use Rattle.std.proofs.Math.ListN.{get_or-eq_default}
use Rattle.std.specs.Char.Utf16.{lone_unit_char}
use Rattle.std.proofs.str.Utf16.{IsPair, lone_unit_char_low, lone_unit_char_high, lone_unit_char_surrogate}
use Rattle.rb_tree.specs.Parts.{units_of}
use Rattle.rb_json.proofs.OfKinds.{units_len}
use Rattle.rb_json.proofs.Surrogates.{is_value, lone, paired}
use Rattle.rb_json.proofs.units.character_at.Goals as goal

pub returns-then-high-lt55296-clause-first : goal.returns-then-high-lt55296-clause-first
returns-then-high-lt55296-clause-first g c =
    let t = g.N.Node.tree c.args.node in
    let u = c.unit-high.result in
    let made = is_value _ _ _ c.from_u32.ensures.value in
    let alone : lone_unit_char u ≡ c.from_u32.result = elim c.then-high-lt55296.branch [
      | goal.then-high-lt55296-via-then-high-lt55296 w ↦
          let low = w.if-high-lt55296.true in lone_unit_char_low u low ∙ made (c.from_u32.ensures.succeeds (inl low))
      | goal.then-high-lt55296-via-else-high-lt55296+then-high-ge57344 w ↦
          let high = w.if-high-ge57344.true in lone_unit_char_high u high ∙ made (c.from_u32.ensures.succeeds (inr (high, omega arith)))
    ] in
    let apart = λ (pair : IsPair u (get_or (units_of t) (c.args.at + 1) 0)). elim c.then-high-lt55296.branch as (λ _. ⊥) [
      | goal.then-high-lt55296-via-then-high-lt55296 w ↦ omega (arith, pair.0, w.if-high-lt55296.true)
      | goal.then-high-lt55296-via-else-high-lt55296+then-high-ge57344 w ↦ omega (arith, pair.1, w.if-high-ge57344.true)
    ] in
    lone (units_of t) c.args.at u c.from_u32.result c.unit-high.ensures (omega (arith, units_len t c.requires.units, c.requires.len, c.requires.in_range)) apart alone

pub returns-then-high-ge56320-clause-first : goal.returns-then-high-ge56320-clause-first
returns-then-high-ge56320-clause-first g c =
    let t = g.N.Node.tree c.args.node in
    let us = units_of t in
    let u = c.unit-high.result in
    let long = units_len t c.requires.units in
    let apart = λ (pair : IsPair u (get_or us (c.args.at + 1) 0)). elim c.then-high-ge56320.branch as (λ _. ⊥) [
      | goal.then-high-ge56320-via-then-high-ge56320 w ↦ omega arith
      | goal.then-high-ge56320-via-else-high-ge56320+then-len-at-lt2 w ↦
          let none = get_or-eq_default us 0 {n = c.args.at + 1} (omega (arith, long, c.requires.len)) in omega (arith, none)
    ] in
    let surrogate = lone_unit_char_surrogate u c.if-high-lt55296.false c.if-high-ge57344.false in
    lone us c.args.at u None c.unit-high.ensures (omega (arith, long, c.requires.len, c.requires.in_range)) apart surrogate

pub returns-then-low-lt56320-clause-first : goal.returns-then-low-lt56320-clause-first
returns-then-low-lt56320-clause-first g c =
    let t = g.N.Node.tree c.args.node in
    let us = units_of t in
    let u = c.unit-high.result in
    let low = c.unit-low.result in
    let long = units_len t c.requires.units in
    let at_low : low ≡ get_or us (c.args.at + 1) 0 = c.unit-low.ensures in
    let apart = λ (pair : IsPair u (get_or us (c.args.at + 1) 0)). elim c.then-low-lt56320.branch as (λ _. ⊥) [
      | goal.then-low-lt56320-via-then-low-lt56320 w ↦ omega (arith, at_low, pair.2, w.if-low-lt56320.true)
      | goal.then-low-lt56320-via-else-low-lt56320+then-low-ge57344 w ↦ omega (arith, at_low, pair.3, w.if-low-ge57344.true)
    ] in
    let surrogate = lone_unit_char_surrogate u c.if-high-lt55296.false c.if-high-ge57344.false in
    lone us c.args.at u None c.unit-high.ensures (omega (arith, long, c.requires.len, c.requires.in_range)) apart surrogate

pub returns-clause-first : goal.returns-clause-first
returns-clause-first g c =
    let t = g.N.Node.tree c.args.node in
    let made = is_value _ _ _ c.from_u32-2.ensures.value (c.from_u32-2.ensures.succeeds (inr (omega arith, omega arith))) in
    let u = c.unit-high.result in
    let v = c.unit-low.result in
    let inside : c.args.at + 1 < length (units_of t) = omega (arith, units_len t c.requires.units, c.requires.len) in
    let pair : IsPair u v = (omega arith, omega arith, omega arith, omega arith) in
    paired (units_of t) c.args.at u v c.from_u32-2.result c.unit-high.ensures c.unit-low.ensures inside pair made
