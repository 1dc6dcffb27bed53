use Rattle.rb_compiler.proofs.Visiting.{own_bundle}
use Rattle.rb_compiler.proofs.compiling.compile_bundle.Goals as goal

pub written-requires-clause-denotes : goal.written-requires-clause-denotes
written-requires-clause-denotes c = own_bundle _ c.in-Ok.ensures.compiled.source c.in-Ok.ensures.compiled.denotes
