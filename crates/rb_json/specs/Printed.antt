-- Defines which items are printed, and their text: the limits of a bundle's tree are rules of this project.
use Rattle.std.specs.Prelude.{ℕ, List, Bool, ◌&&◌, nat_le}
use Rattle.json.specs.Layout.{pretty}
use Rattle.serde_json.specs.Data.{Data}
use Rattle.serde_json.specs.Written.{compact_text}
use Rattle.rb_tree.specs.Resource.{Resource, height, weight}
use Rattle.rb_json.specs.Tokens.{data_tokens}
use Rattle.rb_json.specs.declared.layout.Layout.{Layout}
use Rattle.rb_json.specs.declared.layout.Layout.TheVariants.{Compact, Pretty}
use Rattle.rb_tree.specs.Limits.{height_limit, weight_limit}

-- at most 64 levels, and a weight of at most 33,554,432
abbrev pub is_within : Resource → Bool
is_within t = nat_le (height t) height_limit && nat_le (weight t) weight_limit

-- the text of a value, without space or a line for each item and member
abbrev pub laid_out : Layout → Data → List ℕ
laid_out Compact d = compact_text d
laid_out Pretty d = pretty (data_tokens d)
