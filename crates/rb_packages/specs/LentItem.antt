-- Defines the model of a borrowed item: the item of the bundle's file, and the tree that it denotes (`uresdata.h`).
use Rattle.rb_tree.specs.Resource.{Resource}
use Rattle.rb_views.specs.Seen.{tree_seen}
use Rattle.rb_views.specs.declared.item.Item.{Item}
use Rattle.rb_packages.specs.declared.lent.LentItem.{LentItem}

abbrev pub lent_item : LentItem → Item
lent_item lent = lent.item

abbrev pub lent_tree : LentItem → Resource
lent_tree lent = tree_seen (lent_item lent)
