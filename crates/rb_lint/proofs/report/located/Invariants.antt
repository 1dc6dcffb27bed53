use Rattle.std.proofs.Common.{◌≡◌, ◌≤◌, ◌++◌, length, All, IsSome}
use Rattle.rb_lint.specs.Warnings.{AreInOrder, AreWithin, HasNoError}
use Rattle.rb_lint.proofs.report.located.Given as goal

abbrev pub invariant-loop-one : goal.invariant-loop-one
invariant-loop-one l = record {
  next : (goal.iterator-loop-one).can_next l.one-iterator;
  finite : (goal.iterator-loop-one).is_finite l.one-iterator;
  order : AreInOrder (λ f. f.line) l.findings.items;
  within : AreWithin l.lines (λ f. f.line) l.findings.items;
  before : All (λ f. f.line ≤ l.last) l.findings.items;
  first : 1 ≤ l.last;
  inside : l.last ≤ l.lines;
  split : l.fn.found.items ≡ l.yielded ++ l.one-iterator.rest.items;
  count : length l.findings.items ≡ length l.yielded;
  error : HasNoError l.findings.items → All (λ f. IsSome f.rule) l.yielded;
}
