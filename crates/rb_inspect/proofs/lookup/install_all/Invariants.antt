use Rattle.std.proofs.Common.{◌≡◌}
use Rattle.rb_engine.specs.Kept.{state_of}
use Rattle.rb_inspect.proofs.lookup.install_all.Given as goal

abbrev pub invariant-files : goal.invariant-files
invariant-files l = (state_of l.engine).start ≡ (state_of l.fn.engine).start
