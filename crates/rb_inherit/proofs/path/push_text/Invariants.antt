use Rattle.std.proofs.Common.{◌≡◌, ◌++◌, map, take}
use Rattle.rb_inherit.specs.inner.Paths.{separated}
use Rattle.rb_inherit.proofs.path.push_text.Given as goal

abbrev pub invariant-loop-byte : goal.invariant-loop-byte
invariant-loop-byte l = l.path.items ≡ l.fn.path.items ++ map separated (take l.byte-index l.text)
