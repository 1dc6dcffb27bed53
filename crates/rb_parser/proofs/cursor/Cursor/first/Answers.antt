use Rattle.rb_parser.proofs.Takes.{dropped}
use Rattle.rb_parser.proofs.cursor.Cursor.first.Goals as goal

pub returns : goal.returns
returns c = let h = c.first.ensures in rw (dropped c.args.self.now.rest) at h
