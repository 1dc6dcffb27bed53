-- Defines which items of a tree are leaves: those that have no children and lead nowhere (ICU `uresdata.h`).
use Rattle.rb_tree.specs.declared.kind.Kind.{Kind}
use Rattle.rb_tree.specs.declared.kind.Kind.TheVariants as Kinds

abbrev pub IsLeaf : Kind → Type 0
IsLeaf Kinds.Alias = ⊥
IsLeaf Kinds.Array = ⊥
IsLeaf Kinds.Table = ⊥
IsLeaf other = Unit {0}
