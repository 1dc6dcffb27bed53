-- For what is private. Defines the members of an extended request that were read, and what they ask.
use Rattle.std.specs.Prelude.{◌≡◌, codes, Option, Some, None}
use Rattle.serde_json.specs.Data.{Data, Members}
use Rattle.serde_json.specs.Find.{get_member}
use Rattle.rb_requests.specs.declared.change_list.Changes.{Changes}
use Rattle.rb_requests.specs.declared.extended_texts.ExtendedTexts.{ExtendedTexts}
use Rattle.rb_requests.specs.inner.Texts.{Holds, IsAt}
use Rattle.rb_requests.specs.inner.ChangesRead.{AreChanges}

-- the changes at a name, or that there is no member
abbrev pub AreAt : Option Changes → Option Data → Type 0
AreAt None held = held ≡ None
AreAt (Some changes) held = (d : Data) × (held ≡ Some d) × AreChanges changes d

-- `asked` has the members at the names that count
pub record HoldsAll (asked : ExtendedTexts) (found : Members) : Type 0 where
  pub texts : Holds asked.texts found
  pub form : IsAt asked.form (get_member (codes "as") found)
  pub sizes : IsAt asked.sizes (get_member (codes "sizes") found)
  pub changes : AreAt asked.changes (get_member (codes "changes") found)
