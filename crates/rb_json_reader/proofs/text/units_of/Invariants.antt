use Rattle.std.specs.Str.Iter.{chars_rest}
use Rattle.rb_json_reader.proofs.Units.{SoFar}
use Rattle.rb_json_reader.proofs.text.units_of.Given as goal

abbrev pub invariant-loop-character : goal.invariant-loop-character
invariant-loop-character l = SoFar l.text (chars_rest l.character-iterator) l.units.items
