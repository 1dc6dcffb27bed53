use Rattle.std.proofs.Common.{◌≡◌}
use Rattle.std.specs.Str.{bytes_eq}
use Rattle.indexmap.specs.IndexMap.{insert_all}
use Rattle.rb_packages.proofs.draft.add_lens.Given as goal

-- storing what is left gives the same names and lengths
abbrev pub invariant-sizes : goal.invariant-sizes
invariant-sizes l =
    insert_all bytes_eq l.lens.entries l.name-iterator.rest.items ≡ insert_all bytes_eq l.fn.lens.entries l.fn.sizes.items
