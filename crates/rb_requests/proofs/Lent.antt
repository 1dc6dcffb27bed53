-- The texts that are borrowed from a line agree with the object that the line is.
use Rattle.std.proofs.Common.{◌≡◌, Option, Some, None, is_some, if◌then◌else◌, option_map, option_and_then, codes, ap, ◌∙◌}
use Rattle.serde_json.specs.Data.{Data, Members, object}
use Rattle.serde_json.specs.Find.{get_member, as_str}
use Rattle.hex.specs.Hex.{decode_of}
use Rattle.rb_engine.specs.declared.request.Payload.{Payload}
use Rattle.rb_engine.specs.declared.request.Payload.TheVariants.{Text}
use Rattle.rb_requests.specs.inner.Texts.{Holds, IsAt, IsMember}
use Rattle.rb_requests.specs.declared.member.Member.{Member}
use Rattle.rb_requests.specs.declared.member.Member.TheVariants as members
use Rattle.rb_requests.specs.declared.texts.Texts.{Texts}
use Rattle.rb_requests.specs.Asked.{decoded}
use Rattle.rb_requests.specs.inner.Line.{AreTextsOf, lent, text_in, payload_by}

pub text_of_member : (m : Member) (d : Data) → IsMember m d → as_str d ≡ text_in m
text_of_member (members.Text s) d e = ap as_str e
text_of_member (members.Flag b) d e = ap as_str e
text_of_member members.Other d e = e.0

pub held_text : (t : Option Member) (x : Option Data) → IsAt t x → option_and_then as_str x ≡ lent t
held_text None x e = ap (option_and_then as_str) e
held_text (Some m) x (d, e, h) = ap (option_and_then as_str) e ∙ text_of_member m d h

-- the payload, by what is there as text and as file
abbrev payload_with : Option Data → Option Data → Option Payload
payload_with x y =
    if is_some x then (if is_some y then None else option_map Text (option_and_then as_str x))
    else option_and_then (λ h. decoded (decode_of h)) (option_and_then as_str y)

pub held_payload : (t f : Option Member) (x y : Option Data) → IsAt t x → IsAt f y → payload_with x y ≡ payload_by t f
held_payload None f x y e h = ap (λ o. payload_with o y) e ∙ ap (option_and_then (λ digits. decoded (decode_of digits))) (held_text f y h)
held_payload (Some m) None x y (d, e, h) k =
    ap (λ o. payload_with o y) e ∙ ap (payload_with (Some d)) k ∙ ap (option_map Text) (text_of_member m d h)
held_payload (Some m) (Some f) x y (d, e, h) (d', e', h') = ap (λ o. payload_with o y) e ∙ ap (payload_with (Some d)) e'

pub texts_of_object : (texts : Texts) (found : Members) → Holds texts found → AreTextsOf texts (object found)
texts_of_object texts found h = record {
  op = held_text texts.op (get_member (codes "op") found) h.op;
  app = held_text texts.app (get_member (codes "app") found) h.app;
  locale = held_text texts.locale (get_member (codes "locale") found) h.locale;
  path = held_text texts.path (get_member (codes "path") found) h.path;
  payload = held_payload texts.text texts.file (get_member (codes "text") found) (get_member (codes "file") found) h.text h.file;
}
