use Rattle.std.proofs.Common.{◌≡◌, [], ◌++◌, List, ℕ, length, map}
use Rattle.rb_packages.specs.Packages.{icudata_of, list_of}
use Rattle.rb_engine.specs.Start.{Loads}
use Rattle.rb_engine.proofs.start.load_all.Given as goal

abbrev pub invariant-loop-index : goal.invariant-loop-index
invariant-loop-index l =
    Loads [] (map (λ e. e.1) l.yielded) (icudata_of l.packages)
    × ((app : List ℕ) → list_of app l.packages ≡ list_of app l.initial.packages)
    × (l.fn.entries.items ≡ map (λ e. e.1) l.yielded ++ l.index-iterator.iter.rest.items)
    × (length l.yielded ≡ l.index-iterator.count)
