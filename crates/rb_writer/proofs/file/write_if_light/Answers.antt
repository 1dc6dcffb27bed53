use Rattle.std.proofs.Common.{arith}
use Rattle.rb_tree.specs.View.{view_of}
use Rattle.rb_writer.proofs.Counting.{count_exact}
use Rattle.rb_writer.proofs.file.write_if_light.Goals as goal

pub overflow_cast-containers : goal.overflow_cast-containers
overflow_cast-containers c =
    let few = count_exact (view_of c.args.tree.now) c.in_ok-gathered.gathered.containers c.in_ok-gathered.gathered.weight c.in_ok-gathered.ensures.containers
    c.in_ok-gathered.ensures.weight c.if-gathered-gt-WEIGHT_LIMIT.false in
    let low = few.1 in
    omega arith

pub returns-clause-containers : goal.returns-clause-containers
returns-clause-containers c =
    (count_exact (view_of c.args.tree.now) c.in_ok-gathered.gathered.containers c.in_ok-gathered.gathered.weight c.in_ok-gathered.ensures.containers
    c.in_ok-gathered.ensures.weight c.if-gathered-gt-WEIGHT_LIMIT.false).0
