-- Shows what the next child of a layer adds to what was found.
use Rattle.std.proofs.Common.{◌≡◌, ℕ, List, false, Some, Result, Ok, Err, ap, sym, subst, ◌∙◌, slice_get}
use Rattle.std.proofs.Math.ListN.{set}
use Rattle.std.proofs.lemmas.Option.{same_Some}
use Rattle.std.specs.Prelude.{IfOk}
use Rattle.rb_tree.specs.Resource.{Resource}
use Rattle.rb_tree.specs.Parts.{children_of}
use Rattle.rb_tree.specs.declared.node.Node.{Ghosts}
use Rattle.rb_inherit.specs.declared.error.WalkError.{WalkError}
use Rattle.rb_inherit.specs.declared.found.Found.{Found}
use Rattle.rb_inherit.specs.declared.layer.Layer.{Layer}
use Rattle.rb_inherit.specs.declared.place.Level.{Level}
use Rattle.rb_inherit.specs.Merged.{Part}
use Rattle.rb_inherit.specs.inner.Earlier.{Adds, is_open_of, part_of}
use Rattle.rb_inherit.specs.inner.Merging.{AddsNext, Takes, stepped}
use Rattle.rb_inherit.proofs.Earliest.{closed_adds}

abbrev part : Resource → ℕ → Part
part t most = record { tree = t; most = most }

next_of : {N : Type 0} {G : Ghosts N} (tree : N → Resource) (used : ℕ) (before : Found N) (old mid : List (Layer N G)) (i : ℕ) (r : N × Level) (after : Found N)
    (new : List (Layer N G)) → Takes tree old i mid r → Adds tree used (part_of tree r.0 r.1) before mid after new → AddsNext tree used before old i after new
next_of {N} {G} tree used before old mid i r after new taken a = λ l t got child.
    let same : taken.layer ≡ l = same_Some taken.layer l (sym taken.at ∙ got) in
    let children : slice_get (children_of (tree l.table.node)) l.at ≡ Some (tree r.0) =
    subst (λ (m : Layer N G). slice_get (children_of (tree m.table.node)) m.at ≡ Some (tree r.0)) same taken.child in
    let is : tree r.0 ≡ t = same_Some (tree r.0) t (sym children ∙ child) in
    let level : r.1 ≡ l.level = taken.level ∙ ap (λ (m : Layer N G). m.level) same in
    let parts : part_of tree r.0 r.1 ≡ part t l.level.keys_most =
    ap (λ (u : Resource). part u r.1.keys_most) is ∙ ap (λ (m : Level). part t m.keys_most) level in
    let layers : mid ≡ set old i (stepped l) = taken.layers ∙ ap (λ (m : Layer N G). set old i (stepped m)) same in
    subst (λ (p : Part). Adds tree used p before (set old i (stepped l)) after new) parts
    (subst (λ (m : List (Layer N G)). Adds tree used (part_of tree r.0 r.1) before m after new) layers a)

pub next_adds : {N : Type 0} {G : Ghosts N} (tree : N → Resource) (used : ℕ) (before : Found N) (old mid : List (Layer N G)) (i : ℕ) (r : N × Level)
    (result : Result (Found N) WalkError) (new : List (Layer N G)) → Takes tree old i mid r
    → IfOk result (λ after. Adds tree used (part_of tree r.0 r.1) before mid after new) → IfOk result (λ after. AddsNext tree used before old i after new)
next_adds tree used before old mid i r (Ok after) new taken a = next_of tree used before old mid i r after new taken a
next_adds tree used before old mid i r (Err e) new taken a = tt

pub next_closed : {N : Type 0} {G : Ghosts N} (tree : N → Resource) (used : ℕ) (before : Found N) (old mid : List (Layer N G)) (i : ℕ) (r : N × Level)
    → Takes tree old i mid r → is_open_of before ≡ false → AddsNext tree used before old i before mid
next_closed tree used before old mid i r taken o =
    next_of tree used before old mid i r before mid taken (closed_adds tree used (part_of tree r.0 r.1) before mid o)
