use Rattle.rb_grammar.specs.Reading.{tail}
use Rattle.rb_parser.proofs.Takes.{dropped}
use Rattle.rb_parser.proofs.cursor.Cursor.second.Goals as goal

pub returns : goal.returns
returns c =
    let ts = c.args.self.now.rest in
    let h = c.second.ensures in
    rw (dropped ts, dropped (tail ts)) at h
