use Rattle.std.proofs.Common.{is_some, sym, ap, ◌∙◌}
use Rattle.serde_json.specs.Read.{number_of}
use Rattle.rb_requests.proofs.ShortIntegers.{short_integer}
use Rattle.rb_requests.proofs.number.is_in_range.Goals as goal

pub returns-then-is_short_integer : goal.returns-then-is_short_integer
returns-then-is_short_integer c =
    let told = c.is_short_integer.ensures in
    let set = c.if-is_short_integer.true in
    let short = short_integer c.as_bytes.result.now (told.digits set) (told.some set) (told.few set) in
    set ∙ sym short ∙ ap (λ t. is_some (number_of t)) c.as_bytes.ensures.value
