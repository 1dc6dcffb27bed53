use Rattle.std.proofs.Common.{rules}
use Rattle.rb_writer.proofs.Placing.{known_at}
use Rattle.rb_writer.proofs.keys.KeyOffsets.awaited.Goals as goal

pub returns-then-eq : goal.returns-then-eq
returns-then-eq c = known_at c.args.self.now.known.items _ c.index-known.result.now c.args.key.now (search rules) c.index-known.ensures (search rules)
