-- A search for an open alias, child by child.
use Rattle.std.proofs.Common.{◌≡◌, ◌∙◌, ◌<◌, ◌≤◌, ◌+◌, ◌⊎◌, inl, inr, ℕ, List, [], ◌∷◌, Some, length, take, sym, subst, arith}
use Rattle.std.specs.Prelude.{slice_get, sum_by}
use Rattle.std.proofs.lemmas.Option.{slice_get_within}
use borrow.Author.Count.{below_more}
use Rattle.rb_tree.specs.Parts.{children_of}
use Rattle.rb_tree.specs.Resource.{Resource}
use Rattle.resb.specs.Icu.{HasOpenAlias, IsClosed, IsOpenAlias, cost_of, looks}
use Rattle.resb.proofs.LooksBelow.{too_many}

-- the units before an index are no NUL
abbrev pub HasNoNul : List ℕ → ℕ → Type 0
HasNoNul us i = (k : ℕ) → k < i → slice_get us k ≡ Some 0 → ⊥

-- the children before an index have no open alias
abbrev pub AreClosed : Resource → ℕ → Type 0
AreClosed t i = (k : ℕ) (child : Resource) → k < i → Some child ≡ slice_get (children_of t) k → IsClosed child

pub all_closed : (t : Resource) (i : ℕ) → length (children_of t) ≤ i → AreClosed t i → (IsOpenAlias t → ⊥) → IsClosed t
all_closed t i past all here [] part p ends = here (subst IsOpenAlias p ends)
all_closed t i past all here (k ∷ is) part p ends =
    let within : k < length (children_of t) = slice_get_within (children_of t) k p.0 (sym p.1) in
    all k p.0 (omega arith) p.1 is part p.2 ends

-- one child more has none
pub closed_more : (t child : Resource) (i : ℕ) → Some child ≡ slice_get (children_of t) i → IsClosed child → AreClosed t i → AreClosed t (i + 1)
closed_more t child i e here before k u low is =
    below_more (λ (j : ℕ). (v : Resource) → Some v ≡ slice_get (children_of t) j → IsClosed v) i (λ j less v at. before j v less at)
    (λ v at. let both = e ∙ sym at in let same : child ≡ v = cc in subst IsClosed same here) k low u is

open_below : (t child : Resource) (i : ℕ) → Some child ≡ slice_get (children_of t) i → HasOpenAlias child → HasOpenAlias t
open_below t child i e h = record { path = i ∷ h.path; part = h.part; there = (child, e, h.there); ends = h.ends }

pub error_below : (t child : Resource) (i left limit n : ℕ) → Some child ≡ slice_get (children_of t) i
    → left + cost_of t + sum_by looks (take i (children_of t)) ≡ limit
    → ((n ≡ 77) × HasOpenAlias child) ⊎ ((n ≡ 78) × (left < looks child)) → ((n ≡ 77) × HasOpenAlias t) ⊎ ((n ≡ 78) × (limit < looks t))
error_below t child i left limit n e so (inl h) = inl (h.0, open_below t child i e h.1)
error_below t child i left limit n e so (inr h) = inr (h.0, too_many t child i left limit e h.1 so)
