use Rattle.std.proofs.Common.{rules}
use Rattle.rb_parser.specs.Source.{source_tree}
use Rattle.rb_layout.specs.Formatted.{SpellSame}
use Rattle.rb_layout.proofs.Marks.{spell_one}
use Rattle.rb_layout.proofs.formatting.format_in.Goals as goal

pub returns-clause-bundle : goal.returns-clause-bundle
returns-clause-bundle c =
    let same : SpellSame c.args.text.now c.in_ok-formatted.formatted.items = search rules in
    spell_one c.args.text.now c.in_ok-formatted.formatted.items c.in_ok-source.source.name (source_tree c.in_ok-source.source) c.in_ok-source.ensures.found same
