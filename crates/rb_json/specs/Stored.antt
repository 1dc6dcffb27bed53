-- Defines which bytes a buffer stores after some are put, or none once memory ran out (a rule of this project).
use Rattle.std.specs.Prelude.{◌≡◌, ℕ, List, [], ◌++◌, Option, Some, None}
use Rattle.std.proofs.Common.{sym, ◌∙◌, ap, append-nil, append_assoc}

abbrev pub Stores : (old now : Option (List ℕ)) → (bytes : List ℕ) → Type 0
Stores old None bytes = Unit {0}
Stores None (Some now) bytes = ⊥
Stores (Some old) (Some now) bytes = now ≡ old ++ bytes

pub stores_nothing : (x : Option (List ℕ)) → Stores x x []
stores_nothing None = tt
stores_nothing (Some x) = sym (append-nil x)

pub stores_joined : (x y z : Option (List ℕ)) (a b : List ℕ) → Stores x y a → Stores y z b → Stores x z (a ++ b)
stores_joined x y None a b h k = tt
stores_joined x None (Some z) a b h k = absurd k
stores_joined None (Some y) (Some z) a b h k = absurd h
stores_joined (Some x) (Some y) (Some z) a b h k = k ∙ (ap (λ (t : List ℕ). t ++ b) h ∙ append_assoc x a b)
