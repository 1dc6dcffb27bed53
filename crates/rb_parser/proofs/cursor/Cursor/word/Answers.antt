use Rattle.std.proofs.Common.{sym, ◌∙◌, ap, option_map}
use Rattle.rb_grammar.specs.Reading.{first_word, all_words}
use Rattle.rb_parser.specs.inner.Views.{word_of}
use Rattle.rb_parser.proofs.Steps.{word_reads}
use Rattle.rb_parser.proofs.cursor.Cursor.word.Goals as goal

pub returns-in-Some-clause-exact : goal.returns-in-Some-clause-exact
returns-in-Some-clause-exact c =
    word_reads c.args.self.now.rest c.text.new.self.rest c.in_ok-text.text c.in-Some.word c.in_ok-text.ensures.exact
    (sym c.in-Some.is ∙ c.read.ensures ∙ ap (λ s. option_map word_of (first_word s all_words)) c.as_slice.ensures)
