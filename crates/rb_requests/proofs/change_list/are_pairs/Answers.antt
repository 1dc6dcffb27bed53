use Rattle.std.proofs.Common.{◌≡◌, ◌%◌, length, ◌∙◌, ap, arith}
use Rattle.std.specs.List.{list_all}
use Rattle.std.specs.Char.{is_ascii_hexdigit}
use Rattle.rb_requests.proofs.ChangesFound.{pairs}
use Rattle.rb_requests.proofs.change_list.are_pairs.Goals as goal

pub returns-then-digits-eq0 : goal.returns-then-digits-eq0
returns-then-digits-eq0 c =
    let even : length c.args.digits.now % 2 ≡ 0 = grind arith in
    c.are_digits.ensures ∙ ap (list_all is_ascii_hexdigit) c.as_bytes.ensures.value ∙ pairs c.args.digits.now even
