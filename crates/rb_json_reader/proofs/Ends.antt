use Rattle.std.proofs.Common.{◌≡◌, List, [], ◌∷◌, Some, arith}
use Rattle.json.specs.Token.{Token}
use Rattle.json.specs.Json.{after_end_array}

-- what follows the bracket that closes an array follows it
pub after_bracket : (ts rest : List Token) → after_end_array ts ≡ Some rest → ts ≡ Token.end_array ∷ rest
after_bracket [] rest is = grind (arith, is)
after_bracket (Token.end_array ∷ ts) rest is = grind (arith, is)
after_bracket (_ ∷ ts) rest is = grind (arith, is)
