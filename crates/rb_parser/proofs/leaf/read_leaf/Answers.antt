use Rattle.std.proofs.Common.{suc, length, ap, ◌∙◌, arith}
use Rattle.rb_parser.specs.declared.word.Word.TheVariants as word
use Rattle.rb_parser.proofs.Leaves.{string_reads, alias_reads, binary_reads, int_reads, ints_reads}
use Rattle.rb_parser.proofs.leaf.read_leaf.Goals as goal

pub returns-in_ok-read_text-in-String-clause-exact : goal.returns-in_ok-read_text-in-String-clause-exact
returns-in_ok-read_text-in-String-clause-exact c = λ w is.
    string_reads c.args.cursor.now.end c.args.cursor.now.rest c.read_text.new.cursor.rest w c.in_ok-read_text-in-String.field-0
    (is ∙ ap word.Leaf c.in-String.is)
    c.in_ok-read_text-in-String.ensures.exact

pub returns-in_ok-read_text-in-Alias-clause-exact : goal.returns-in_ok-read_text-in-Alias-clause-exact
returns-in_ok-read_text-in-Alias-clause-exact c = λ w is.
    alias_reads c.args.cursor.now.end c.args.cursor.now.rest c.read_text-in-Alias.new.cursor.rest w c.in_ok-read_text-in-Alias.field-0
    (is ∙ ap word.Leaf c.in-Alias.is) c.in_ok-read_text-in-Alias.ensures.exact

pub returns-in_ok-read_binary-in-Binary-clause-exact : goal.returns-in_ok-read_binary-in-Binary-clause-exact
returns-in_ok-read_binary-in-Binary-clause-exact c = λ w is.
    binary_reads c.args.cursor.now.end c.args.cursor.now.rest c.read_binary.new.cursor.rest w c.in_ok-read_binary-in-Binary.field-0
    (is ∙ ap word.Leaf c.in-Binary.is) c.in_ok-read_binary-in-Binary.ensures.exact

pub returns-in_ok-read_number-in-Int-clause-exact : goal.returns-in_ok-read_number-in-Int-clause-exact
returns-in_ok-read_number-in-Int-clause-exact c = λ w is.
    int_reads c.args.cursor.now.end c.args.cursor.now.rest c.read_number.new.cursor.rest w c.in_ok-read_number-in-Int.field-0
    (is ∙ ap word.Leaf c.in-Int.is) c.in_ok-read_number-in-Int.ensures.exact

pub returns-in_ok-read_numbers-in-Ints-clause-exact : goal.returns-in_ok-read_numbers-in-Ints-clause-exact
returns-in_ok-read_numbers-in-Ints-clause-exact c = λ w is.
    rw c.from_vec.ensures (ints_reads c.args.cursor.now.end c.args.cursor.now.rest c.read_numbers.new.cursor.rest w
    c.in_ok-read_numbers-in-Ints.field-0.items (is ∙ ap word.Leaf c.in-Ints.is)
    (c.in_ok-read_numbers-in-Ints.ensures.exact (suc (length c.args.cursor.now.rest)) (omega arith)))
