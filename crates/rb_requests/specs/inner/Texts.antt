-- Defines an object's members at the names that count, by the members that serde_json reads.
use Rattle.std.specs.Prelude.{◌≡◌, List, ◌∷◌, Option, Some, None, codes}
use Rattle.json.specs.Token.{Token}
use Rattle.serde_json.specs.Data.{Data, Members, boolean, string}
use Rattle.serde_json.specs.Find.{get_member, as_bool, as_str}
use Rattle.rb_requests.specs.declared.member.Member.{Member}
use Rattle.rb_requests.specs.declared.member.Member.TheVariants.{Text, Flag, Other}
use Rattle.rb_requests.specs.declared.texts.Texts.{Texts}

-- a text, true or false, or some other value
abbrev pub IsMember : Member → Data → Type 0
IsMember (Text s) d = d ≡ string s.now
IsMember (Flag b) d = d ≡ boolean b
IsMember Other d = (as_str d ≡ None) × (as_bool d ≡ None)

-- the member at a name, or that there is none
abbrev pub IsAt : Option Member → Option Data → Type 0
IsAt None held = held ≡ None
IsAt (Some m) held = (d : Data) × (held ≡ Some d) × IsMember m d

-- `texts` are the members at the names that count
pub record Holds (texts : Texts) (found : Members) : Type 0 where
  pub op : IsAt texts.op (get_member (codes "op") found)
  pub app : IsAt texts.app (get_member (codes "app") found)
  pub locale : IsAt texts.locale (get_member (codes "locale") found)
  pub path : IsAt texts.path (get_member (codes "path") found)
  pub text : IsAt texts.text (get_member (codes "text") found)
  pub file : IsAt texts.file (get_member (codes "file") found)

-- no opening brace comes next
abbrev pub BeginsWithNoBrace : List Token → Type 0
BeginsWithNoBrace ts = (rest : List Token) → ts ≡ Token.begin_object ∷ rest → ⊥
