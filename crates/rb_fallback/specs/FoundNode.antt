-- Defines the node of what a lookup finds, for a caller that needs no names. A rule of this project.
use Rattle.std.specs.Prelude.{◌≡◌, Result, Ok, Err}
use Rattle.rb_fallback.specs.declared.found.Found.{Found}

abbrev pub node_of : {N E : Type 0} → Result (Found N) E → Result N E
node_of (Ok f) = Ok f.node
node_of (Err e) = Err e

-- the node of a result for which something holds
pub record IsNodeOf {N E : Type 0} (result : Result N E) (holds : Result (Found N) E → Type 0) : Type 0 where
  pub found : Result (Found N) E
  pub is : result ≡ node_of found
  pub known : holds found
