use Rattle.std.proofs.Common.{◌≡◌, ◌≤◌, length}
use Rattle.indexmap.specs.IndexMap.{spare}
use Rattle.rb_packages.specs.Release.{edited}
use Rattle.rb_packages.proofs.bundles.edit_all.Given as goal

-- the changes that are left give the same files, and there is room for them
abbrev pub invariant-edits : goal.invariant-edits
invariant-edits l =
    (edited l.name-iterator.rest.items l.bundles.entries ≡ edited l.fn.edits.items l.fn.bundles.entries)
    × (length l.name-iterator.rest.items ≤ spare l.bundles)
