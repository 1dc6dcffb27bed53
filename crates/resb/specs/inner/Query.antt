-- Defines what a lookup answers to a query.
use Rattle.std.specs.Prelude.{ℕ, Bool, Option}
use Rattle.rb_engine.specs.Answer.{Response}
use Rattle.rb_engine.specs.Kept.{Kept}
use Rattle.resb.specs.Looks.{answer_in, exceeds_in}
use Rattle.resb.specs.declared.looks.Query.{Query}

abbrev pub answer_to : Kept → Query → Response
answer_to engine query = answer_in engine query.app.now query.locale.now query.path.now

abbrev pub exceeds : Kept → Option ℕ → Query → Bool
exceeds engine left query = exceeds_in engine left query.app.now query.locale.now query.path.now
