use Rattle.rb_lexer.proofs.Decided.{tokens_one, lexed_one, source_fault_one, lexed_or, not_both}
use Rattle.rb_lexer.proofs.Total.{lexed_answered}
use Rattle.rb_lexer.proofs.laws.decided.Goals as goal

pub returns : goal.returns
returns c =
    record { answered = lexed_answered; tokens = lexed_one; faults = source_fault_one; apart = lexed_or; long_tokens = tokens_one; long_apart = not_both }
