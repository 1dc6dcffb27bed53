use Rattle.std.proofs.Common.{length}
use Rattle.rb_json_reader.proofs.path.path_at.Given as goal

abbrev pub decreases-loop-reader : goal.decreases-loop-reader
decreases-loop-reader l = length l.reader
