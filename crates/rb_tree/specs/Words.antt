-- Defines the error codes of `TableFault`: the names of its variants.
use Rattle.std.specs.Prelude.{ℕ, List, codes}
use Rattle.rb_tree.specs.declared.table.TableFault.{TableFault}
use Rattle.rb_tree.specs.declared.table.TableFault.TheVariants as table

abbrev pub table_word : TableFault → List ℕ
table_word (table.DuplicateKey i) = codes "DuplicateKey"
table_word table.Memory = codes "Memory"
