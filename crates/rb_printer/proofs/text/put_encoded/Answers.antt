use Rattle.std.proofs.Common.{◌∙◌}
use Rattle.rb_printer.proofs.Puts.{encoded_put}
use Rattle.rb_printer.proofs.text.put_encoded.Goals as goal

pub returns : goal.returns
returns c = encoded_put c.extend_from_slice.result _ _ _ c.args.c (c.as_bytes.ensures.value ∙ c.encode_utf8.ensures.value) c.extend_from_slice.ensures.items
