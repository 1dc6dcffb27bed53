use Rattle.std.proofs.Common.{◌∙◌, ap, sym, not}
use Rattle.std.proofs.lemmas.Bool.{eq-eqb, false≢true}
use Rattle.json.proofs.Printed.Strings.{escape_byte_plain}
use Rattle.rb_json.proofs.spell.is_plain.Goals as goal

pub returns-then-byte-ne34 : goal.returns-then-byte-ne34
returns-then-byte-ne34 c =
    let b = c.args.byte in
    λ h. escape_byte_plain b c.if-byte-ne34.true.1 (λ e. false≢true (sym (ap not (eq-eqb b 92 e)) ∙ h)) c.if-byte-ne34.true.0
