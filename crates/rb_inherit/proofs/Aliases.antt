-- Aliases whose texts can't be read.
use Rattle.std.proofs.Common.{◌≡◌, ℕ, List, [], ◌∷◌, ◌∙◌, Bool, true, false, cond, codes, length, nat_lt, Option, Some, None, refl, ap}
use Rattle.std.specs.List.{list_all, slice_split}
use Rattle.std.specs.Str.{bytes_eq}
use Rattle.rb_tree.specs.Path.{is_slash}
use Rattle.rb_tree.specs.declared.node.Node.{Ghosts}
use Rattle.rb_fallback.specs.Alias.{Aim, aim, aims, is_plain, located, no_package, no_text, packaged, plain_aim, with_path}
use Rattle.rb_fallback.specs.declared.fault.LookError.{LookError}
use Rattle.rb_inherit.specs.declared.follow.Link.{Link}
use Rattle.rb_inherit.specs.declared.found.Found.{Found}
use Rattle.rb_inherit.specs.declared.layer.Layer.{Layer}
use Rattle.rb_inherit.specs.Merged.{fault_of}
use Rattle.rb_inherit.specs.inner.AtPath.{RefusesLink}
use Rattle.rb_inherit.specs.inner.Earlier.{Refuses, closed_of}
use Rattle.rb_inherit.proofs.Earliest.{error_closed}

-- ---- the valid locale makes no text unreadable
path_by : (b : Bool) (icu : Bool) (m n : List ℕ) (o : Option (List (List ℕ))) → fault_of (cond b (aims icu m o) no_text) ≡ fault_of (cond b (aims icu n o) no_text)
path_by true icu m n o = refl
path_by false icu m n o = refl

path_same : (icu : Bool) (m n : List ℕ) (ss : List (List ℕ)) → fault_of (with_path icu m ss) ≡ fault_of (with_path icu n ss)
path_same icu m n [] = refl
path_same icu m n ([] ∷ []) = refl
path_same icu m n ([] ∷ t ∷ ss) = path_by (list_all (λ p. nat_lt 0 (length p)) ([] ∷ t ∷ ss)) icu m n (Some ([] ∷ t ∷ ss))
path_same icu m n ((u ∷ us) ∷ ss) = path_by (list_all (λ p. nat_lt 0 (length p)) ((u ∷ us) ∷ ss)) icu m n (Some ((u ∷ us) ∷ ss))

package_by : (b : Bool) (x y z : Aim) → fault_of x ≡ fault_of y → fault_of (cond b x z) ≡ fault_of (cond b y z)
package_by true x y z e = e
package_by false x y z e = refl

package_same : (m n : List ℕ) (ss : List (List ℕ)) → fault_of (packaged m ss) ≡ fault_of (packaged n ss)
package_same m n [] = refl
package_same m n (s ∷ ss) =
    package_by (bytes_eq s (codes "LOCALE")) (with_path false m ss) (with_path false n ss) (cond (bytes_eq s (codes "ICUDATA")) (located true ss) no_package)
    (path_same false m n ss)

plain_same : (m n us : List ℕ) → fault_of (plain_aim m us) ≡ fault_of (plain_aim n us)
plain_same m n [] = refl
plain_same m n (u ∷ us) =
    package_by (is_slash u) (packaged m (slice_split is_slash us)) (packaged n (slice_split is_slash us)) (located false (slice_split is_slash (u ∷ us)))
    (package_same m n (slice_split is_slash us))

pub fault_same : (m n us : List ℕ) → fault_of (aim us m) ≡ fault_of (aim us n)
fault_same m n us = package_by (list_all is_plain us) (plain_aim m us) (plain_aim n us) no_text (plain_same m n us)

-- ---- what follows
pub refused_on : {N : Type 0} {G : Ghosts N} (o : Option LookError) (before : Found N) (old : List (Layer N G)) (f : Found N) (l : Option (Link N)) (mid : List (Layer N G))
    (a : Found N) (new : List (Layer N G)) → RefusesLink o before old f l mid → (l ≡ None → a ≡ closed_of f) → (l ≡ None → new ≡ mid) → Refuses o before old a new
refused_on None before old f l mid a new h c s = tt
refused_on (Some e) before old f l mid a new h c s = (c h.0 ∙ (ap closed_of h.1.0 ∙ error_closed before e), s h.0 ∙ h.1.1)
