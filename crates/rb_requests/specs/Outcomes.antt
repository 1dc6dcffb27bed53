-- Defines the outcome of a call from the program's answer under limits.
use Rattle.std.specs.Prelude.{Result}
use Rattle.rb_tree.specs.Resource.{Resource}
use Rattle.rb_fallback.specs.declared.found.Found.{Found}
use Rattle.rb_engine.specs.Answer.{Replies}
use Rattle.rb_engine.specs.LookResponse.{look_response}
use Rattle.rb_engine.specs.declared.request.LookFault.{LookFault}
use Rattle.rb_engine.specs.declared.request.Reply.{Reply}
use Rattle.rb_requests.specs.Steps.{Outcome, Answers, Refuses}
use Rattle.rb_requests.specs.declared.limits.Limited.{Limited}
use Rattle.rb_requests.specs.declared.limits.Limited.TheVariants.{Answer, Refused}

abbrev pub reply_outcome : Limited Reply → Outcome
reply_outcome (Answer reply) = Answers (Replies reply)
reply_outcome (Refused refusal) = Refuses refusal

abbrev pub look_outcome : {N : Type 0} → (N → Resource) → Limited (Result (Found N) LookFault) → Outcome
look_outcome tree (Answer found) = Answers (look_response tree found)
look_outcome tree (Refused refusal) = Refuses refusal
