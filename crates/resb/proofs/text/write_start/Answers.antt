use Rattle.std.proofs.Common.{◌∙◌}
use Rattle.resb.proofs.text.write_start.Goals as goal

pub returns : goal.returns
returns g c = (c.args.text, c.as_ptr.ensures ∙ c.cast.ensures ∙ c.from_ref.ensures, c.requires)
