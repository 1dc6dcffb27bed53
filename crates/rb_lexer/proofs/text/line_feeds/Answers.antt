use Rattle.rb_lexer.proofs.Turns.{lines_between}
use Rattle.rb_lexer.proofs.text.line_feeds.Goals as goal

pub returns : goal.returns
returns c = rw c.count_line_feeds.ensures (lines_between c.args.bytes.now c.args.first c.args.past c.requires.order)
