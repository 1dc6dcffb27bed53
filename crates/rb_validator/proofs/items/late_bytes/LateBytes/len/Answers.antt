use Rattle.std.proofs.Common.{length, sym, ap, ◌∙◌}
use Rattle.rb_validator.proofs.Upwards.{length_upwards}
use Rattle.rb_validator.proofs.items.late_bytes.LateBytes.len.Goals as goal

pub returns : goal.returns
returns c = sym (ap length (sym c.self.view_is) ∙ length_upwards c.self.inside.kept.items c.self.inside.len)
