use Rattle.std.proofs.Common.{ap, ◌∙◌, encode_utf8_all}
use Rattle.std.specs.Char.Utf16.{has_unpaired_surrogate, utf16_lossy_chars}
use Rattle.std.specs.Str.Iter.{chars_rest}
use Rattle.rb_json_reader.proofs.Units.{one_more, all_paired, all_text}
use Rattle.rb_json_reader.proofs.text.units_of.Goals as goal

pub loop-character-preserved : goal.loop-character-preserved
loop-character-preserved c =
    let l = c.loop-character in
    one_more c.args.text.now (chars_rest l.character-iterator) l.units.items c.in-Some.character (chars_rest c.next.new.self) c.push_character.new.units.items
    l.invariant c.in-Some.ensures.steps.0 c.in_ok-push_character.ensures.units c.push_character.ensures.scalar

pub returns-clause-paired : goal.returns-clause-paired
returns-clause-paired c =
    let l = c.loop-character in
    ap has_unpaired_surrogate c.from_vec.ensures ∙ all_paired c.args.text.now (chars_rest l.character-iterator) l.units.items l.invariant

pub returns-clause-text : goal.returns-clause-text
returns-clause-text c =
    let l = c.loop-character in
    ap (λ us. encode_utf8_all (utf16_lossy_chars us)) c.from_vec.ensures
    ∙ all_text c.args.text.now (chars_rest l.character-iterator) l.units.items l.invariant c.in-None.ensures.steps.0.0
