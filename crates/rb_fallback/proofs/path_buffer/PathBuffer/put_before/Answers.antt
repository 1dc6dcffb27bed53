use Rattle.std.proofs.Common.{◌≡◌, ◌-◌, ◌<◌, ℕ, List, length, drop, sym, subst, arith, rules}
use Rattle.rb_tree.specs.Parts.{units_of}
use Rattle.rb_fallback.specs.AliasPaths.{joined_path}
use Rattle.rb_fallback.proofs.PathBuffers.{long_rest}
use Rattle.rb_fallback.proofs.path_buffer.PathBuffer.put_before.Goals as goal

pub returns-in-None-clause-long : goal.returns-in-None-clause-long
returns-in-None-clause-long g c = λ _.
    let bytes = c.self.inside.bytes in
    let from = c.self.inside.from in
    let units = drop c.args.at (units_of (g.N.Node.tree c.args.node)) in
    let len : length bytes ≡ 1024 = search rules in
    let low : from < 1024 = omega (arith, c.if-self-ge-PATH_LIMIT.false) in
    let some : 0 < from = omega (arith, c.if-self-eq0.false) in
    let few : from - 1 < length units = search rules in
    let view : c.args.self.now ≡ drop from bytes = search rules in
    subst (λ (l : List ℕ). 1024 < length (joined_path units l)) (sym view) (long_rest units bytes from (from - 1) len low (omega arith) few)
