use Rattle.rb_writer.proofs.Puts.{padded, not_padded}
use Rattle.rb_writer.proofs.put.pad.Goals as goal

pub returns-in_ok-put_bytes-clause-padding : goal.returns-in_ok-put_bytes-clause-padding
returns-in_ok-put_bytes-clause-padding c = padded c.args.out.now c.put_bytes.new.out _ _ c.in_ok-put_bytes.ensures

pub returns-else-over-gt0-clause-padding : goal.returns-else-over-gt0-clause-padding
returns-else-over-gt0-clause-padding c = not_padded c.args.out.now
