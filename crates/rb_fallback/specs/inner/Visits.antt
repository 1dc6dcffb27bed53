-- Defines what a search does at a name of a trail, for private contracts and proofs.
use Rattle.std.specs.Prelude.{Option, Some, None}
use Rattle.rb_tree.specs.declared.ending.Ending.{Ending}
use Rattle.rb_tree.specs.declared.ending.Ending.TheVariants.{End, Link, Gone}
use Rattle.rb_fallback.specs.declared.watch.Visit.{Visit}
use Rattle.rb_fallback.specs.declared.watch.Visit.TheVariants.{NoStop, Skipped, Walked}

-- a stop is walked only if no earlier walk has ended somewhere
abbrev pub visited : {N : Type 0} → Option N → Ending N → Ending N → Visit N
visited None before after = NoStop
visited (Some root) Gone after = Walked root after
visited (Some root) (End n) after = Skipped
visited (Some root) (Link n cut) after = Skipped
