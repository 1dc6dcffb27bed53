use Rattle.std.proofs.Common.{subst, sym}
use Rattle.rb_printer.specs.Sound.{IsBundleTree}
use Rattle.rb_printer.proofs.Filed.{is_bundle_tree}
use Rattle.rb_printer.proofs.bundle.print_bundle.Goals as goal

pub print_expecting-requires : goal.print_expecting-requires
print_expecting-requires c = subst IsBundleTree (sym c.root.ensures.tree) (is_bundle_tree c.args.bundle.now c.bytes-expected.ensures.denoted)
