use Rattle.std.proofs.Common.{◌≡◌, drop}
use Rattle.rb_inspect.specs.inner.Files.{bundle_named}
use Rattle.rb_inspect.proofs.trace.file_named.Given as goal

abbrev pub invariant-loop-bundle : goal.invariant-loop-bundle
invariant-loop-bundle l = bundle_named l.name l.bundles ≡ bundle_named l.name (drop l.bundle-index l.bundles)
