-- The members of an extended request, as more are read.
use Rattle.std.proofs.Common.{◌≡◌, ◌∙◌, ℕ, Bool, true, List, Option, Some, None, option_and_then, if◌then◌else◌, ap, subst, sym, codes}
use Rattle.std.specs.Str.{bytes_eq}
use Rattle.serde_json.specs.Data.{Data, Members, put, object}
use Rattle.serde_json.specs.Find.{get_member, as_str}
use Rattle.serde_json.proofs.Views.{get_member-put_other}
use Rattle.rb_requests.specs.declared.change_list.Changes.{Changes}
use Rattle.rb_requests.specs.declared.member.Member.{Member}
use Rattle.rb_requests.specs.declared.extended_texts.ExtendedTexts.{ExtendedTexts}
use Rattle.rb_requests.specs.declared.texts.Texts.{Texts}
use Rattle.rb_requests.specs.inner.Texts.{Holds, IsAt}
use Rattle.rb_requests.specs.ExtendedAsked.{ReleaseChange, path_in, form_in}
use Rattle.rb_requests.specs.declared.member.Member.TheVariants as members
use Rattle.rb_requests.specs.inner.ChangesRead.{AreOf}
use Rattle.rb_requests.specs.inner.ExtendedForms.{changes_in}
use Rattle.rb_requests.specs.inner.ExtendedLines.{AreAllOf, AreHeld, form_by, path_by}
use Rattle.rb_requests.specs.inner.ExtendedRead.{AreAt, HoldsAll}
use Rattle.rb_requests.proofs.ChangesFound.{held_flag}
use Rattle.rb_requests.proofs.Lent.{text_of_member, texts_of_object}

module _ (k : List ℕ) (d : Data) (found : Members) where
  -- another member stays
  pub other_at : (t : Option Member) (name : List ℕ) → (name ≡ k → ⊥) → IsAt t (get_member name found) → IsAt t (get_member name (put k d found))
  other_at t name n h = subst (λ (o : Option Data). IsAt t o) (sym (get_member-put_other name k d found n)) h

  pub others_at : (t : Option Changes) (name : List ℕ) → (name ≡ k → ⊥) → AreAt t (get_member name found) → AreAt t (get_member name (put k d found))
  others_at t name n h = subst (λ (o : Option Data). AreAt t o) (sym (get_member-put_other name k d found n)) h

-- the texts stay as they are if changes are read
pub texts_stay : (texts : Texts) (d : Data) (found : Members) → Holds texts found → Holds texts (put (codes "changes") d found)
texts_stay texts d found h = record {
  op = other_at (codes "changes") d found texts.op (codes "op") (λ e. cc) h.op;
  app = other_at (codes "changes") d found texts.app (codes "app") (λ e. cc) h.app;
  locale = other_at (codes "changes") d found texts.locale (codes "locale") (λ e. cc) h.locale;
  path = other_at (codes "changes") d found texts.path (codes "path") (λ e. cc) h.path;
  text = other_at (codes "changes") d found texts.text (codes "text") (λ e. cc) h.text;
  file = other_at (codes "changes") d found texts.file (codes "file") (λ e. cc) h.file;
}

-- ---- what depends on the members

held_path : (t : Option Member) (x : Option Data) → IsAt t x → path_in x ≡ path_by t
held_path None x e = ap path_in e
held_path (Some m) x (d, e, h) = ap path_in e ∙ text_of_member m d h

abbrev form_of : Option (List ℕ) → Option Bool
form_of word = option_and_then (λ w. if bytes_eq w (codes "text") then Some true else None) word

held_form : (t : Option Member) (x : Option Data) → IsAt t x → form_in x ≡ form_by t
held_form None x e = ap form_in e
held_form (Some (members.Text s)) x (d, e, h) = ap form_in e ∙ ap (λ v. form_of (as_str v)) h
held_form (Some (members.Flag b)) x (d, e, h) = ap form_in e ∙ ap (λ v. form_of (as_str v)) h
held_form (Some members.Other) x (d, e, h) = ap form_in e ∙ ap form_of h.0

held_changes : (t : Option Changes) (x : Option Data) → AreAt t x → AreHeld t (option_and_then changes_in x)
held_changes None x e = ap (option_and_then changes_in) e
held_changes (Some changes) x (d, e, h) =
    subst (λ (o : Option (List ReleaseChange)). AreOf changes o) (sym (ap (option_and_then changes_in) e)) h

pub all_of : (asked : ExtendedTexts) (found : Members) → HoldsAll asked found → AreAllOf asked (object found)
all_of asked found h = record {
  texts = texts_of_object asked.texts found h.texts;
  path = held_path asked.texts.path _ h.texts.path;
  form = held_form asked.form _ h.form;
  sizes = held_flag asked.sizes _ h.sizes;
  changes = held_changes asked.changes _ h.changes;
}
