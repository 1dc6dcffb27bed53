use Rattle.rb_views.specs.Seen.{units_seen}
use Rattle.resb.proofs.OpenAliases.{HasNoNul}
use Rattle.resb.proofs.icu.has_nul.Given as goal

abbrev pub invariant-loop-i : goal.invariant-loop-i
invariant-loop-i l = HasNoNul (units_seen l.units) l.i
