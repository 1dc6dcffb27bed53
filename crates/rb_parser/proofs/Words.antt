-- Relates the program's types to the words of the reading function.
use Rattle.std.proofs.Common.{◌≡◌, Bool, refl}
use Rattle.rb_grammar.specs.Reading.{Word, string_type, alias_type, binary_type, int_type, ints_type, table_type, array_type}
use Rattle.rb_parser.specs.inner.Views.{word_of}
use Rattle.rb_parser.specs.declared.word.Word.TheVariants as word
use Rattle.rb_parser.specs.declared.word.Leaf.TheVariants as leaf

pub is_string : (w : Word) → word_of w ≡ word.Leaf leaf.String → w ≡ string_type
is_string string_type e = refl
is_string alias_type e = absurd cc
is_string (binary_type long) e = absurd cc
is_string (int_type long) e = absurd cc
is_string ints_type e = absurd cc
is_string table_type e = absurd cc
is_string array_type e = absurd cc

pub is_alias : (w : Word) → word_of w ≡ word.Leaf leaf.Alias → w ≡ alias_type
is_alias string_type e = absurd cc
is_alias alias_type e = refl
is_alias (binary_type long) e = absurd cc
is_alias (int_type long) e = absurd cc
is_alias ints_type e = absurd cc
is_alias table_type e = absurd cc
is_alias array_type e = absurd cc

pub is_binary : (w : Word) → word_of w ≡ word.Leaf leaf.Binary → (long : Bool) × (w ≡ binary_type long)
is_binary string_type e = absurd cc
is_binary alias_type e = absurd cc
is_binary (binary_type long) e = (long, refl)
is_binary (int_type long) e = absurd cc
is_binary ints_type e = absurd cc
is_binary table_type e = absurd cc
is_binary array_type e = absurd cc

pub is_int : (w : Word) → word_of w ≡ word.Leaf leaf.Int → (long : Bool) × (w ≡ int_type long)
is_int string_type e = absurd cc
is_int alias_type e = absurd cc
is_int (binary_type long) e = absurd cc
is_int (int_type long) e = (long, refl)
is_int ints_type e = absurd cc
is_int table_type e = absurd cc
is_int array_type e = absurd cc

pub is_ints : (w : Word) → word_of w ≡ word.Leaf leaf.Ints → w ≡ ints_type
is_ints string_type e = absurd cc
is_ints alias_type e = absurd cc
is_ints (binary_type long) e = absurd cc
is_ints (int_type long) e = absurd cc
is_ints ints_type e = refl
is_ints table_type e = absurd cc
is_ints array_type e = absurd cc
