-- Defines a bundle, whether a text spells it or a file stores it: its tree, and whether a lookup stops at it
-- (`URES_ATT_NO_FALLBACK` of ICU's `uresdata.h`, `table(nofallback)` of genrb).
use Rattle.std.specs.Prelude.{Bool}
use Rattle.rb_tree.specs.Resource.{Resource}

pub record SourceTree : Type 0 where
  pub tree : Resource
  pub no_fallback : Bool
