-- The members at the names that count, after another member was read.
use Rattle.std.proofs.Common.{◌≡◌, ◌∙◌, List, ℕ, Bool, true, false, cond, Option, Some, codes, sym, refl, subst, true≢false}
use Rattle.std.proofs.lemmas.Slice.Eq.{bytes_eq-Decides}
use Rattle.std.specs.Prelude.{bytes_eq}
use Rattle.serde_json.specs.Data.{Data, Members, put}
use Rattle.serde_json.specs.Find.{get_member}
use Rattle.serde_json.proofs.Views.{get_member-put, get_member-put_other}
use Rattle.rb_requests.specs.declared.member.Member.{Member}
use Rattle.rb_requests.specs.declared.texts.Texts.{Texts}
use Rattle.rb_requests.specs.inner.Texts.{Holds, IsAt, IsMember}

pub same_name : (key name : List ℕ) → bytes_eq key name ≡ true → key ≡ name
same_name key name h = (bytes_eq-Decides key name).0 h

other_name : (key name : List ℕ) → bytes_eq key name ≡ false → key ≡ name → ⊥
other_name key name h e = true≢false (sym ((bytes_eq-Decides key name).1 e) ∙ h)

-- at another name the member stays
pub stays : (name key : List ℕ) (found : Members) (d : Data) (held : Option Member) → bytes_eq key name ≡ false → IsAt held (get_member name found)
    → IsAt held (get_member name (put key d found))
stays name key found d held h at =
    subst (λ (o : Option Data). IsAt held o) (sym (get_member-put_other name key d found (λ e. other_name key name h (sym e)))) at

by_name : (b : Bool) (name key : List ℕ) (found : Members) (d : Data) (m : Member) (held : Option Member) → bytes_eq key name ≡ b → IsMember m d
    → IsAt held (get_member name found) → IsAt (cond b (Some m) held) (get_member name (put key d found))
by_name true name key found d m held h is at = rw (same_name key name h) (d, get_member-put name d found, is)
by_name false name key found d m held h is at = stays name key found d held h at

-- the members after one with a name that counts was read
abbrev placed : List ℕ → Member → Texts → Texts
placed key m texts = record {
  op = cond (bytes_eq key (codes "op")) (Some m) texts.op;
  app = cond (bytes_eq key (codes "app")) (Some m) texts.app;
  locale = cond (bytes_eq key (codes "locale")) (Some m) texts.locale;
  path = cond (bytes_eq key (codes "path")) (Some m) texts.path;
  text = cond (bytes_eq key (codes "text")) (Some m) texts.text;
  file = cond (bytes_eq key (codes "file")) (Some m) texts.file;
}

pub holds_placed : (key : List ℕ) (m : Member) (texts : Texts) (found : Members) (d : Data) → IsMember m d → Holds texts found
    → Holds (placed key m texts) (put key d found)
holds_placed key m texts found d is h = record {
  op = by_name (bytes_eq key (codes "op")) (codes "op") key found d m texts.op refl is h.op;
  app = by_name (bytes_eq key (codes "app")) (codes "app") key found d m texts.app refl is h.app;
  locale = by_name (bytes_eq key (codes "locale")) (codes "locale") key found d m texts.locale refl is h.locale;
  path = by_name (bytes_eq key (codes "path")) (codes "path") key found d m texts.path refl is h.path;
  text = by_name (bytes_eq key (codes "text")) (codes "text") key found d m texts.text refl is h.text;
  file = by_name (bytes_eq key (codes "file")) (codes "file") key found d m texts.file refl is h.file;
}

-- a key whose bytes are known
pub holds_named : (key name : List ℕ) (m : Member) (texts : Texts) → bytes_eq key name ≡ true → (found : Members) (d : Data) → IsMember m d → Holds texts found
    → Holds (placed name m texts) (put key d found)
holds_named key name m texts h found d is held =
    subst (λ (k : List ℕ). Holds (placed name m texts) (put k d found)) (sym (same_name key name h)) (holds_placed name m texts found d is held)
