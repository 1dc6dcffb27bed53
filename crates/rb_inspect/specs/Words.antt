-- The words of the errors: each is its variant's name.
use Rattle.std.specs.Prelude.{ℕ, List, codes}
use Rattle.rb_inspect.specs.declared.item.ItemError.{ItemError}
use Rattle.rb_inspect.specs.declared.item.ItemError.TheVariants as item

abbrev pub item_word : ItemError → List ℕ
item_word item.BadPath = codes "BadPath"
item_word item.PathTooLong = codes "PathTooLong"
item_word item.Missing = codes "Missing"
