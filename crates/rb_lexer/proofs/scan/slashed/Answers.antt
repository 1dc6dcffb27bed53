use Rattle.std.proofs.Common.{[], refl}
use Rattle.std.specs.Str.{chars}
use Rattle.rb_lexer.specs.Lexeme.{slash}
use Rattle.rb_lexer.proofs.Items.{line_item, block_item, block_stop, slash_item, lone_slash}
use Rattle.rb_lexer.proofs.scan.slashed.Goals as goal

pub returns-in-Some-clause-taken : goal.returns-in-Some-clause-taken
returns-in-Some-clause-taken g c = ([], c.requires, line_item _ _ [] _ c.in-Some.ensures.taken c.skip_line_comment.ensures.taken)

pub returns-in_default-skip_block_comment-clause-taken : goal.returns-in_default-skip_block_comment-clause-taken
returns-in_default-skip_block_comment-clause-taken g c = block_stop _ _ c.in-Some-strip.ensures.taken c.in_default-skip_block_comment.ensures.taken _ refl refl

pub returns-in-Some-strip-clause-taken : goal.returns-in-Some-strip-clause-taken
returns-in-Some-strip-clause-taken g c = ([], c.requires, block_item _ _ [] _ c.in-Some-strip.ensures.taken c.in-Some-skip_block_comment.ensures.taken)

pub returns-clause-taken : goal.returns-clause-taken
returns-clause-taken g c =
    let r = c.in_ok-rest.ensures.taken in
    (r.0, r.1, slash_item _ _ _ (lone_slash slash (chars c.args.after.now) c.in_default.ensures.taken c.in_default-strip.ensures.taken) r.2)
