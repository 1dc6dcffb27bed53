-- For what is private. Defines the error of a tree that ends although its item was found: never that of a lookup.
use Rattle.rb_inherit.specs.declared.error.TreeError.{TreeError}
use Rattle.rb_inherit.specs.declared.error.TreeError.TheVariants as tree
use Rattle.rb_inherit.specs.declared.error.WalkError.{WalkError}
use Rattle.rb_inherit.specs.declared.error.WalkError.TheVariants.{TooManySteps, TreeTooLarge, Memory}

abbrev pub ended : WalkError → TreeError
ended TooManySteps = tree.TooManySteps
ended TreeTooLarge = tree.TreeTooLarge
ended Memory = tree.Memory
