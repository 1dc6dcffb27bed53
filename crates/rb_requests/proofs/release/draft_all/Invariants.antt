use Rattle.std.proofs.Common.{◌≡◌, ◌≤◌, List, [], Some}
use Rattle.rb_packages.specs.Packages.{Files}
use Rattle.rb_packages.specs.Release.{IsDraftOf}
use Rattle.rb_requests.specs.ExtendedAsked.{ReleaseChange}
use Rattle.rb_requests.specs.inner.ChangesRead.{changes_seen}
use Rattle.rb_requests.proofs.Releasing.{SoFar}
use Rattle.rb_requests.proofs.release.draft_all.Given as goal

abbrev pub invariant-loop-i : goal.invariant-loop-i
invariant-loop-i l =
    (l.draft.app ≡ l.fn.draft.app) × (l.i ≤ 4096)
    × ((files : Files) (cs : List ReleaseChange) → changes_seen l.changes ≡ Some cs → l.fn.draft.edits ≡ [] → IsDraftOf files l.fn.draft
    → SoFar l.limits l.app files cs l.i l.draft)
