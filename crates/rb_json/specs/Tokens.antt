-- For what is private. The tokens of a JSON value.
use Rattle.std.specs.Prelude.{List}
use Rattle.json.specs.Token.{Token}
use Rattle.json.specs.Tree.{json_tokens}
use Rattle.serde_json.specs.Data.{Data}
use Rattle.serde_json.specs.Written.{outline}

abbrev pub data_tokens : Data → List Token
data_tokens d = json_tokens (outline d)
