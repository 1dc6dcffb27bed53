-- Defines how far a path leads in the bundle of a name, as a trace says it.
use Rattle.std.specs.Prelude.{◌≡◌, ◌<◌, ◌&&◌, ◌⊎◌, ℕ, List, length, slice_index, take}
use Rattle.std.specs.Prelude.{Bool, true, false, if◌then◌else◌}
use Rattle.rb_tree.specs.Resource.{Resource}
use Rattle.rb_tree.specs.Parts.{kind_of}
use Rattle.rb_tree.specs.Path.{is_path, segments}
use Rattle.rb_tree.specs.Walk.{Walked, ends, links, gone, walk, Stop, end, link, nowhere}
use Rattle.rb_tree.specs.Ending.{stop_at}
use Rattle.rb_fallback.specs.declared.watch.Visit.{Visit}
use Rattle.rb_fallback.specs.declared.watch.Visit.TheVariants as visit
use Rattle.rb_inspect.specs.declared.trace_steps.Reached.{Reached}
use Rattle.rb_inspect.specs.declared.trace_steps.Reached.TheVariants as reached

-- ---- whether a path leads somewhere
abbrev pub is_somewhere : Walked → Bool
is_somewhere (ends t) = true
is_somewhere (links us walked rest) = true
is_somewhere gone = false

abbrev pub leads : Resource → List ℕ → Bool
leads t path = is_path path && is_somewhere (walk t (segments path))

-- the first `r` bytes, up to a slash, lead somewhere
pub record IsFront (t : Resource) (path : List ℕ) (r : ℕ) : Type 0 where
  pub within : r < length path
  pub slash : slice_index path r ≡ 47
  pub leads : leads t (take r path) ≡ true

-- the longest front that leads somewhere, or the empty one
pub record IsReach (t : Resource) (path : List ℕ) (r : ℕ) : Type 0 where
  pub front : (r ≡ 0) ⊎ IsFront t path r
  pub longest : (k : ℕ) → r < k → IsFront t path k → ⊥

-- ---- what there is of a path
abbrev pub IsHas : Resource → List ℕ → Stop → Reached → Type 0
IsHas t path (end u) h = h ≡ reached.Item (kind_of u)
IsHas t path (link u cut) h = h ≡ reached.Link cut
IsHas t path nowhere h = (r : ℕ) × (h ≡ reached.Part r) × IsReach t path r

-- a name that is no stop has no bundle, or one that names another by `%%ALIAS`
abbrev pub IsReached : {N : Type 0} → (N → Resource) → Visit N → Bool → List ℕ → Reached → Type 0
IsReached tree visit.NoStop has_bundle path h = h ≡ (if has_bundle then reached.Alias else reached.NoBundle)
IsReached tree visit.Skipped has_bundle path h = h ≡ reached.Skipped
IsReached tree (visit.Walked root ending) has_bundle path h = IsHas (tree root) path (stop_at tree ending) h
