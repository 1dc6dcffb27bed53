use Rattle.std.proofs.Common.{◌≡◌, length, true, false, ap, sym, ◌∙◌, arith, refl}
use Rattle.rb_tree.specs.Parts.{units_of, len_of}
use Rattle.rb_locales.proofs.Narrowed.{units_len}
use Rattle.rb_fallback.specs.Alias.{located}
use Rattle.rb_fallback.proofs.Texts.{packaged_is, segments_after_some, segments_after_none}
use Rattle.rb_fallback.proofs.alias.packaged.Goals as goal

pub returns-then-is_word : goal.returns-then-is_word
returns-then-is_word g c =
    let is = packaged_is (g.N.Node.tree c.args.node) c.args.valid.now c.segment_end-past.result in
    let end = c.segment_end-past.ensures in
    c.with_path.ensures ∙ sym (is true _ c.requires.units end.place end.within (sym c.is_word.ensures ∙ c.if-is_word.true) refl)

pub returns-then-not-is_word : goal.returns-then-not-is_word
returns-then-not-is_word g c =
    let is = packaged_is (g.N.Node.tree c.args.node) c.args.valid.now c.segment_end-past.result in
    let end = c.segment_end-past.ensures in
    let no_locale = sym c.is_word.ensures ∙ c.if-is_word.false in
    sym (is false false c.requires.units end.place end.within no_locale (sym c.is_word-2.ensures ∙ c.if-not-is_word.true))

pub returns-then-past-len : goal.returns-then-past-len
returns-then-past-len g c =
    let t = g.N.Node.tree c.args.node in
    let past = c.segment_end-past.result in
    let end = c.segment_end-past.ensures in
    let len : length (units_of t) ≡ len_of t = units_len t c.requires.units in
    let no_locale = sym c.is_word.ensures ∙ c.if-is_word.false in
    let icudata = sym c.is_word-2.ensures ∙ c.if-not-is_word.false in
    sym (packaged_is t c.args.valid.now past false true c.requires.units end.place end.within no_locale icudata
    ∙ ap (located true) (segments_after_none (units_of t) past (omega (arith, c.len.ensures, c.if-past-len.true))))

pub returns : goal.returns
returns g c =
    let t = g.N.Node.tree c.args.node in
    let past = c.segment_end-past.result in
    let end = c.segment_end-past.ensures in
    let len : length (units_of t) ≡ len_of t = units_len t c.requires.units in
    let no_locale = sym c.is_word.ensures ∙ c.if-is_word.false in
    let icudata = sym c.is_word-2.ensures ∙ c.if-not-is_word.false in
    c.located.ensures
    ∙ sym (packaged_is t c.args.valid.now past false true c.requires.units end.place end.within no_locale icudata
    ∙ ap (located true) (segments_after_some (units_of t) past (omega (arith, c.len.ensures, c.if-past-len.false, end.within))))
