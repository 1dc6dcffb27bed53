-- Defines the answer to an application from the result of `Engine::look`.
use Rattle.std.specs.Prelude.{Result, Ok, Err}
use Rattle.rb_tree.specs.Resource.{Resource}
use Rattle.rb_engine.specs.Answer.{Response, Finds, Refuses}
use Rattle.rb_fallback.specs.Answers.{hit_of}
use Rattle.rb_fallback.specs.declared.found.Found.{Found}
use Rattle.rb_engine.specs.declared.request.LookFault.{LookFault}

abbrev pub look_response : {N : Type 0} → (N → Resource) → Result (Found N) LookFault → Response
look_response tree (Ok found) = Finds (hit_of tree found) found.valid
look_response tree (Err e) = Refuses e
