-- Defines the explicit parents that a tree gives: those in the table at `parentLocales` (the parent locales of UTS #35
-- (LDML) in ICU's `supplementalData`). Other entries of the tree don't matter. If an entry of the table is invalid, the
-- tree gives none, and the first invalid entry is the error.
use Rattle.std.specs.Prelude.{◌≡◌, ℕ, List, ◌∷◌, ◌++◌, Option, Some, None, codes, slice_get}
use Rattle.rb_tree.specs.Resource.{Resource}
use Rattle.rb_tree.specs.Parts.{child_of}
use Rattle.rb_locales.specs.Locale.{name}
use Rattle.rb_parents.specs.Trail.{ParentsOf}
use Rattle.rb_parents.specs.ParentMap.{Entries, Mentions, Names, IsNamed, entries_in, mentions, mentions_by, texts_in}
use Rattle.rb_parents.specs.declared.fault.ParentsFault.{ParentsFault}
use Rattle.rb_parents.specs.declared.fault.ParentsFault.TheVariants as fault

-- the key is a name, and the value has a valid shape
pub record IsEntry (e : List ℕ × Resource) : Type 0 where
  pub parent : List ℕ
  pub texts : List (List ℕ)
  pub parent_is : name e.0 ≡ Some parent
  pub texts_are : texts_in e.1 ≡ Some texts

-- all entries are valid, and the map is the one that they name
pub record GivesMap (es : Entries) (m : ParentsOf) : Type 0 where
  pub entries : (i : ℕ) (e : List ℕ × Resource) → slice_get es i ≡ Some e → IsEntry e
  pub named : IsNamed (mentions es) m

-- the error of a child that follows these mentions: it isn't a name, or one of them names it
abbrev pub ChildError : Mentions → Option (List ℕ) → ParentsFault → Type 0
ChildError ms None e = e ≡ fault.BadLocale
ChildError ms (Some child) e = (e ≡ fault.TwoParents) × ((i : ℕ) × (parent : List ℕ) × Names ms i child parent)

-- the first invalid child of an entry that follows these mentions: those before it are valid
pub record IsFirstBadChild (ms : Mentions) (key : List ℕ) (texts : List (List ℕ)) (e : ParentsFault) : Type 0 where
  pub before : List (List ℕ)
  pub text : List ℕ
  pub after : List (List ℕ)
  pub are : texts ≡ before ++ text ∷ after
  pub known : ParentsOf
  pub valid : IsNamed (ms ++ mentions_by key before) known
  pub error : ChildError (ms ++ mentions_by key before) (name text) e

-- the error of an entry that follows these mentions: its key isn't a name, its value has another shape, or a child is
-- invalid
abbrev pub EntryError : Mentions → List ℕ → Option (List ℕ) → Option (List (List ℕ)) → ParentsFault → Type 0
EntryError ms key None texts e = e ≡ fault.BadLocale
EntryError ms key (Some parent) None e = e ≡ fault.Shape
EntryError ms key (Some parent) (Some texts) e = IsFirstBadChild ms key texts e

-- the first invalid entry: those before it are valid
pub record IsFirstError (es : Entries) (e : ParentsFault) : Type 0 where
  pub before : Entries
  pub entry : List ℕ × Resource
  pub after : Entries
  pub are : es ≡ before ++ entry ∷ after
  pub known : ParentsOf
  pub valid : GivesMap before known
  pub error : EntryError (mentions before) entry.0 (name entry.0) (texts_in entry.1) e

-- the map that the table at `parentLocales` gives, and its error; the table must exist
abbrev pub TableGives : Option Entries → ParentsOf → Type 0
TableGives None m = ⊥
TableGives (Some es) m = GivesMap es m

abbrev pub TableRefuses : Option Entries → ParentsFault → Type 0
TableRefuses None e = e ≡ fault.Shape
TableRefuses (Some es) e = IsFirstError es e

abbrev pub parent_entries : Resource → Option Entries
parent_entries t = entries_in (child_of (codes "parentLocales") t)

abbrev pub GivesParents : Resource → ParentsOf → Type 0
GivesParents t m = TableGives (parent_entries t) m

abbrev pub RefusesParents : Resource → ParentsFault → Type 0
RefusesParents t e = TableRefuses (parent_entries t) e
