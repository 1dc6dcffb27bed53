-- For what is private. Defines the changes of a release that were read, beside the values that serde_json reads.
use Rattle.std.specs.Prelude.{◌≡◌, ◌++◌, ◌||◌, ℕ, Bool, true, false, List, [], ◌∷◌, take, codes, if◌then◌else◌}
use Rattle.std.specs.Prelude.{Option, Some, None, is_some, option_map, option_and_then}
use Rattle.serde_json.specs.Data.{Data, Items, Members}
use Rattle.serde_json.specs.Find.{get_member}
use Rattle.hex.specs.Hex.{decode_of}
use Rattle.rb_engine.specs.declared.request.Payload.TheVariants as payload
use Rattle.rb_requests.specs.Asked.{decoded}
use Rattle.rb_requests.specs.ExtendedAsked.{ReleaseChange, PutsAt, RemovesAt, release_change_in, all_changes}
use Rattle.rb_requests.specs.declared.member.Member.{Member}
use Rattle.rb_requests.specs.declared.member.Member.TheVariants as members
use Rattle.rb_requests.specs.declared.change_list.ChangePayload.{ChangePayload}
use Rattle.rb_requests.specs.declared.change_list.ChangePayload.TheVariants.{Text, File, Removal}
use Rattle.rb_requests.specs.declared.change_list.LineChange.{LineChange}
use Rattle.rb_requests.specs.declared.change_list.ChangeTexts.{ChangeTexts}
use Rattle.rb_requests.specs.declared.change_list.Changes.{Changes}
use Rattle.rb_requests.specs.declared.change_list.Changes.TheVariants.{All, Other}
use Rattle.rb_requests.specs.declared.change_list.ChangesSoFar.{ChangesSoFar}
use Rattle.rb_requests.specs.inner.ExtendedForms.{changes_in}
use Rattle.rb_requests.specs.inner.Line.{lent, payload_by}
use Rattle.rb_requests.specs.inner.Texts.{IsAt}

-- ---- a change

abbrev pub payload_seen : (locale : List ℕ) → ChangePayload → Option ReleaseChange
payload_seen locale (Text text) = Some (PutsAt locale (payload.Text text.now))
payload_seen locale (File digits) = option_map (PutsAt locale) (decoded (decode_of digits.now))
payload_seen locale Removal = Some (RemovesAt locale)

abbrev pub change_seen : LineChange → Option ReleaseChange
change_seen change = payload_seen change.locale.now change.payload

-- a change, or none if the value is none
abbrev pub IsChange : Option LineChange → Data → Type 0
IsChange change d = option_map change_seen change ≡ option_map Some (release_change_in d)

-- a flag that is false if it is missing
abbrev pub flag_by : Option Member → Option Bool
flag_by None = Some false
flag_by (Some (members.Text text)) = None
flag_by (Some (members.Flag flag)) = Some flag
flag_by (Some members.Other) = None

abbrev pub change_by : List ℕ → (text file : Option Member) → Bool → Option ReleaseChange
change_by locale text file true = if is_some text || is_some file then None else Some (RemovesAt locale)
change_by locale text file false = option_map (PutsAt locale) (payload_by text file)

-- the change that has these members
abbrev pub texts_seen : ChangeTexts → Option ReleaseChange
texts_seen texts =
    option_and_then (λ l. option_and_then (change_by l texts.text texts.file) (flag_by texts.remove)) (lent texts.locale)

-- `texts` are the members at the names that count
pub record HoldsChange (texts : ChangeTexts) (found : Members) : Type 0 where
  pub locale : IsAt texts.locale (get_member (codes "locale") found)
  pub text : IsAt texts.text (get_member (codes "text") found)
  pub file : IsAt texts.file (get_member (codes "file") found)
  pub remove : IsAt texts.remove (get_member (codes "remove") found)

-- ---- changes

abbrev pub changes_seen : List LineChange → Option (List ReleaseChange)
changes_seen [] = Some []
changes_seen (change ∷ rest) = option_and_then (λ c. option_map (λ cs. c ∷ cs) (changes_seen rest)) (change_seen change)

-- the first changes are stored, one more than a release may have
abbrev pub kept : {A : Type 0} → List A → List A
kept all = take 4097 all

-- the items up to here are these changes, whatever follows; or one of them is no change
abbrev pub AreSeen : Bool → List LineChange → (Items → Items) → Type 0
AreSeen true all before = (cs : List ReleaseChange) × (changes_seen all ≡ Some cs)
    × ((ds : Items) → all_changes (before ds) ≡ option_map (λ more. cs ++ more) (all_changes ds))
AreSeen false all before = (ds : Items) → all_changes (before ds) ≡ None

abbrev pub AreSoFar : ChangesSoFar → (Items → Items) → Type 0
AreSoFar so_far before =
    (all : List LineChange) × (so_far.changes.items ≡ kept all) × AreSeen so_far.are_changes all before

-- the changes that items are, or none if an item is no change
abbrev pub AreOf : Changes → Option (List ReleaseChange) → Type 0
AreOf (All changes) all = (cs : List ReleaseChange) × (all ≡ Some cs) × (changes_seen changes.items ≡ Some (kept cs))
AreOf Other all = all ≡ None

-- the changes that a value is
abbrev pub AreChanges : Changes → Data → Type 0
AreChanges changes d = AreOf changes (changes_in d)
