-- Follows what the stops have one key deeper, on a path without aliases.
use Rattle.std.proofs.Common.{◌≡◌, ◌+◌, ◌-◌, ◌<◌, ◌++◌, ℕ, suc, List, [], ◌∷◌, Bool, true, false, Option, Some, None, length, map, nat_lt, refl, sym, ap, subst, ◌∙◌, append_assoc, append-nil, arith, length-append}
use Rattle.std.specs.List.{AllByRecursion, join_with_byte}
use Rattle.std.proofs.lemmas.Bool.{ltb-false, ltb-true}
use Rattle.rb_tree.specs.Parts.{kind_of}
use Rattle.rb_tree.specs.Resource.{Resource, alias}
use Rattle.rb_tree.specs.SourceTree.{SourceTree}
use Rattle.rb_tree.specs.Walk.{Walked, ends, links, gone, after, enter, onward, walk}
use Rattle.rb_tree.specs.declared.kind.Kind.TheVariants as kind
use Rattle.rb_tree.proofs.Walks.{enter_table, walk_on}
use Rattle.rb_parents.specs.Trail.{Bundles}
use Rattle.rb_fallback.specs.Search.{decide, unless_gone, walk_of}
use Rattle.rb_fallback.specs.declared.fault.LookError.{LookError}
use Rattle.rb_inherit.specs.Agreement.{AreSorted, IsNoLink, IsDirect, IsSorted}
use Rattle.rb_inherit.specs.Merged.{Part, alias_fault, at_key, at_path, ended, layered, parts_of}

-- ---- one key deeper
-- the children of items at a key
abbrev pub enters : List ℕ → List Part → List Part
enters k [] = []
enters k (p ∷ ps) = parts_of (enter k p.tree) p.most ++ enters k ps

pub enters_append : (k : List ℕ) (ps qs : List Part) → enters k (ps ++ qs) ≡ enters k ps ++ enters k qs
enters_append k [] qs = refl
enters_append k (p ∷ ps) qs =
    ap (λ (l : List Part). parts_of (enter k p.tree) p.most ++ l) (enters_append k ps qs)
    ∙ sym (append_assoc (parts_of (enter k p.tree) p.most) (enters k ps) (enters k qs))

ended_after : (most : ℕ) (s : List ℕ) (w : Walked) → ended most (after s w) ≡ ended most w
ended_after most s (ends t) = refl
ended_after most s (links us walked rest) = refl
ended_after most s gone = refl

link_after : (s : List ℕ) (w : Walked) → IsNoLink (after s w) → IsNoLink w
link_after s (ends t) h = tt
link_after s (links us walked rest) h = h
link_after s gone h = tt

link_before : (s : List ℕ) (w : Walked) → IsNoLink w → IsNoLink (after s w)
link_before s (ends t) h = tt
link_before s (links us walked rest) h = h
link_before s gone h = tt

no_alias : (t : Resource) (ss : List (List ℕ)) → IsNoLink (walk t ss) → kind_of t ≡ kind.Alias → ⊥
no_alias (alias us) ss h k = h
no_alias _ ss h k = cc

walk_here : (t : Resource) → (kind_of t ≡ kind.Alias → ⊥) → walk t [] ≡ ends t
walk_here (alias us) a = absurd (a refl)
walk_here _ a = refl

ended_here : (most : ℕ) (t : Resource) → ended most (walk t []) ≡ record { tree = t; most = most } ∷ []
ended_here most (alias us) = refl
ended_here most _ = refl

one_key : (most : ℕ) (t : Resource) (k : List ℕ) → IsNoLink (walk t []) → ended most (walk t (k ∷ [])) ≡ enters k (ended most (walk t []))
one_key most t k h =
    let a = no_alias t [] h in
    ap (ended most) (walk_on t k [] a) ∙ by (enter k t)
    ∙ (sym (append-nil (parts_of (enter k t) most)) ∙ ap (λ (w : Walked). enters k (ended most w)) (sym (walk_here t a)))
  where
    by : (o : Option Resource) → ended most (onward k (λ u. walk u []) o) ≡ parts_of o most
    by None = refl
    by (Some u) = ended_after most k (walk u []) ∙ ended_here most u

key_more : (most : ℕ) (t : Resource) (ss : List (List ℕ)) (k : List ℕ) → IsNoLink (walk t ss)
    → ended most (walk t (ss ++ k ∷ [])) ≡ enters k (ended most (walk t ss))
key_more most t [] k h = one_key most t k h
key_more most t (s ∷ ss) k h =
    let a = no_alias t (s ∷ ss) h in
    let is = walk_on t s ss a in
    ap (ended most) (walk_on t s (ss ++ k ∷ []) a) ∙ by (λ u n. key_more most u ss k n) (enter s t) (subst IsNoLink is h)
    ∙ ap (λ (w : Walked). enters k (ended most w)) (sym is)
  where
    by : ((u : Resource) → IsNoLink (walk u ss) → ended most (walk u (ss ++ k ∷ [])) ≡ enters k (ended most (walk u ss))) → (o : Option Resource)
        → IsNoLink (onward s (λ u. walk u ss) o) → ended most (onward s (λ u. walk u (ss ++ k ∷ [])) o) ≡ enters k (ended most (onward s (λ u. walk u ss) o))
    by more None n = refl
    by more (Some u) n =
        ended_after most s (walk u (ss ++ k ∷ []))
        ∙ more u (link_after s (walk u ss) n)
        ∙ ap (enters k) (sym (ended_after most s (walk u ss)))

-- a path without an alias has none before its end
link_front : (t : Resource) (ss ks : List (List ℕ)) → IsNoLink (walk t (ss ++ ks)) → IsNoLink (walk t ss)
link_front t [] ks h = subst IsNoLink (sym (walk_here t (no_alias t ks h))) tt
link_front t (s ∷ ss) ks h =
    let a = no_alias t (s ∷ (ss ++ ks)) h in
    subst IsNoLink (sym (walk_on t s ss a)) (by (λ u n. link_front u ss ks n) (enter s t) (subst IsNoLink (walk_on t s (ss ++ ks) a) h))
  where
    by : ((u : Resource) → IsNoLink (walk u (ss ++ ks)) → IsNoLink (walk u ss)) → (o : Option Resource) → IsNoLink (onward s (λ u. walk u (ss ++ ks)) o)
        → IsNoLink (onward s (λ u. walk u ss) o)
    by more None n = tt
    by more (Some u) n = link_before s (walk u ss) (more u (link_after s (walk u (ss ++ ks)) n))

-- ---- the stops
abbrev pub NoLinks : Bundles → List (List ℕ) → List (List ℕ) → Type 0
NoLinks bundles ns ss = AllByRecursion (λ m. IsNoLink (walk_of (bundles m) ss)) ns

pub link_front_in : (o : Option SourceTree) (ss ks : List (List ℕ)) → IsNoLink (walk_of o (ss ++ ks)) → IsNoLink (walk_of o ss)
link_front_in None ss ks n = tt
link_front_in (Some b) ss ks n = link_front b.tree ss ks n

pub links_front : (bundles : Bundles) (ns ss ks : List (List ℕ)) → NoLinks bundles ns (ss ++ ks) → NoLinks bundles ns ss
links_front bundles [] ss ks h = tt
links_front bundles (n ∷ ns) ss ks h = (link_front_in (bundles n) ss ks h.0, links_front bundles ns ss ks h.1)

pub deeper_in : (most : ℕ) (o : Option SourceTree) (ss : List (List ℕ)) (k : List ℕ) → IsNoLink (walk_of o ss)
    → ended most (walk_of o (ss ++ k ∷ [])) ≡ enters k (ended most (walk_of o ss))
deeper_in most None ss k h = refl
deeper_in most (Some b) ss k h = key_more most b.tree ss k h

pub deeper : (most : ℕ) (bundles : Bundles) (ns ss : List (List ℕ)) (k : List ℕ) → NoLinks bundles ns ss
    → at_path most bundles ns (ss ++ k ∷ []) ≡ enters k (at_path most bundles ns ss)
deeper most bundles [] ss k h = refl
deeper most bundles (n ∷ ns) ss k h =
    ap (λ (l : List Part). l ++ at_path most bundles ns (ss ++ k ∷ [])) (deeper_in most (bundles n) ss k h.0)
    ∙ (ap (λ (l : List Part). enters k (ended most (walk_of (bundles n) ss)) ++ l) (deeper most bundles ns ss k h.1)
    ∙ sym (enters_append k (ended most (walk_of (bundles n) ss)) (at_path most bundles ns ss)))

-- ---- an alias at the end of a path
over_no_alias : (t : Resource) (k : List ℕ) (ks : List (List ℕ)) → IsDirect (walk t (k ∷ ks)) → kind_of t ≡ kind.Alias → ⊥
over_no_alias (alias us) k ks h e = h
over_no_alias _ k ks h e = cc

over_after : (s : List ℕ) (w : Walked) → IsDirect (after s w) → IsDirect w
over_after s (ends t) h = tt
over_after s (links us walked []) h = h
over_after s (links us walked (r ∷ rest)) h = h
over_after s gone h = tt

over_front : (t : Resource) (ss : List (List ℕ)) (k : List ℕ) (ks : List (List ℕ)) → IsDirect (walk t (ss ++ k ∷ ks)) → IsNoLink (walk t ss)
over_front t [] k ks h = subst IsNoLink (sym (walk_here t (over_no_alias t k ks h))) tt
over_front t (s ∷ ss) k ks h =
    let a = over_no_alias t s (ss ++ k ∷ ks) h in
    subst IsNoLink (sym (walk_on t s ss a)) (by (λ u n. over_front u ss k ks n) (enter s t) (subst IsDirect (walk_on t s (ss ++ k ∷ ks) a) h))
  where
    by : ((u : Resource) → IsDirect (walk u (ss ++ k ∷ ks)) → IsNoLink (walk u ss)) → (o : Option Resource) → IsDirect (onward s (λ u. walk u (ss ++ k ∷ ks)) o)
        → IsNoLink (onward s (λ u. walk u ss) o)
    by more None n = tt
    by more (Some u) n = link_before s (walk u ss) (more u (over_after s (walk u (ss ++ k ∷ ks)) n))

over_front_in : (o : Option SourceTree) (ss : List (List ℕ)) (k : List ℕ) (ks : List (List ℕ)) → IsDirect (walk_of o (ss ++ k ∷ ks)) → IsNoLink (walk_of o ss)
over_front_in None ss k ks h = tt
over_front_in (Some b) ss k ks h = over_front b.tree ss k ks h

abbrev pub AreDirect : Bundles → List (List ℕ) → List (List ℕ) → Type 0
AreDirect bundles ns ss = AllByRecursion (λ m. IsDirect (walk_of (bundles m) ss)) ns

pub all_over : (bundles : Bundles) (ns ss : List (List ℕ)) (k : List ℕ) (ks : List (List ℕ)) → AreDirect bundles ns (ss ++ k ∷ ks) → NoLinks bundles ns ss
all_over bundles [] ss k ks h = tt
all_over bundles (n ∷ ns) ss k ks h = (over_front_in (bundles n) ss k ks h.0, all_over bundles ns ss k ks h.1)

-- the path one key deeper, and the keys after it
pub shifted : (ss : List (List ℕ)) (k : List ℕ) (ks : List (List ℕ)) → ss ++ k ∷ ks ≡ (ss ++ k ∷ []) ++ ks
shifted ss k ks = sym (append_assoc ss (k ∷ []) ks)

-- ---- what is there: no alias, with keys that ascend
pub record IsFine (most : ℕ) (p : Part) : Type 0 where
  pub no_alias : kind_of p.tree ≡ kind.Alias → ⊥
  pub room : p.most ≡ most
  pub sorted : IsSorted p.tree

abbrev pub AreFine : ℕ → List Part → Type 0
AreFine most ps = AllByRecursion (IsFine most) ps

ends_no_alias : (t u : Resource) (ss : List (List ℕ)) → IsNoLink (walk t ss) → walk t ss ≡ ends u → kind_of u ≡ kind.Alias → ⊥
ends_no_alias t u [] h e k =
    let is = walk_here t (no_alias t [] h) in
    let same : t ≡ u = let f = sym is ∙ e in cc in
    no_alias t [] h (ap kind_of same ∙ k)
ends_no_alias t u (s ∷ ss) h e k =
    let is = walk_on t s ss (no_alias t (s ∷ ss) h) in
    by (λ v n f. ends_no_alias v u ss n f k) (enter s t) (subst IsNoLink is h) (sym is ∙ e)
  where
    after_ends : (w : Walked) → after s w ≡ ends u → w ≡ ends u
    after_ends (ends t) f = f
    after_ends (links us walked rest) f = absurd cc
    after_ends gone f = absurd cc

    by : ((v : Resource) → IsNoLink (walk v ss) → walk v ss ≡ ends u → ⊥) → (o : Option Resource) → IsNoLink (onward s (λ v. walk v ss) o)
        → onward s (λ v. walk v ss) o ≡ ends u → ⊥
    by more None n f = cc
    by more (Some v) n f = more v (link_after s (walk v ss) n) (after_ends (walk v ss) f)

pub source_no_alias : (o : Option SourceTree) (u : Resource) (ss : List (List ℕ)) → IsNoLink (walk_of o ss) → walk_of o ss ≡ ends u → kind_of u ≡ kind.Alias → ⊥
source_no_alias None u ss h e k = cc
source_no_alias (Some b) u ss h e k = ends_no_alias b.tree u ss h e k

pub all_append : {A : Type 0} (P : A → Type 0) (xs ys : List A) → AllByRecursion P xs → AllByRecursion P ys → AllByRecursion P (xs ++ ys)
all_append P [] ys a b = b
all_append P (x ∷ xs) ys a b = (a.0, all_append P xs ys a.1 b)

pub all_first : {A : Type 0} (P : A → Type 0) (xs ys : List A) → AllByRecursion P (xs ++ ys) → AllByRecursion P xs
all_first P [] ys h = tt
all_first P (x ∷ xs) ys h = (h.0, all_first P xs ys h.1)

pub are_fine : (most : ℕ) (bundles : Bundles) (ns ss : List (List ℕ)) → AreSorted bundles → NoLinks bundles ns ss → AreFine most (at_path most bundles ns ss)
are_fine most bundles [] ss sorted h = tt
are_fine most bundles (n ∷ ns) ss sorted h =
    all_append (IsFine most) (ended most (walk_of (bundles n) ss)) (at_path most bundles ns ss) (by (walk_of (bundles n) ss) refl h.0) (are_fine most bundles ns ss sorted h.1)
  where
    by : (w : Walked) → walk_of (bundles n) ss ≡ w → IsNoLink w → AreFine most (ended most w)
    by (ends t) e u = (
      record {
        no_alias = source_no_alias (bundles n) t ss (subst IsNoLink (sym e) u) e;
        room = refl;
        sorted = sorted n ss t e;
      },
      tt,
    )
    by (links us walked rest) e u = absurd u
    by gone e u = tt

-- ---- the stop that decides
-- a walk that ends at an item: at no alias, or at one whose text can't be read
abbrev pub EndsAt : Walked → Resource → Type 0
EndsAt (ends u) t = (u ≡ t) × (kind_of t ≡ kind.Alias → ⊥)
EndsAt (links us walked []) t = (t ≡ alias us) × ((e : LookError) × (alias_fault t ≡ Some e))
EndsAt (links us walked (s ∷ rest)) t = ⊥
EndsAt gone t = ⊥

pub record First (bundles : Bundles) (ns ss : List (List ℕ)) (t : Resource) : Type 0 where
  pub stop : List ℕ
  pub walked : Walked
  pub is : decide bundles ns ss ≡ Some (record { stop = stop; walked = walked })
  pub ends : EndsAt walked t

-- no walk ends at an alias without saying so
source_ends : (o : Option SourceTree) (u : Resource) (ss : List (List ℕ)) → walk_of o ss ≡ ends u → kind_of u ≡ kind.Alias → ⊥
source_ends None u ss e k = cc
source_ends (Some b) u ss e k = ends_no_alias b.tree u ss (subst IsNoLink (sym e) tt) e k

pub first_is : (most : ℕ) (bundles : Bundles) (ns ss : List (List ℕ)) (p : Part) (ps : List Part) → AreDirect bundles ns ss → at_path most bundles ns ss ≡ p ∷ ps
    → First bundles ns ss p.tree
first_is most bundles [] ss p ps h e = absurd cc
first_is most bundles (n ∷ ns) ss p ps h e = by (λ f. first_is most bundles ns ss p ps h.1 f) (walk_of (bundles n) ss) refl h.0 e
  where
    by : (at_path most bundles ns ss ≡ p ∷ ps → First bundles ns ss p.tree) → (w : Walked) → walk_of (bundles n) ss ≡ w → IsDirect w
        → ended most w ++ at_path most bundles ns ss ≡ p ∷ ps → First bundles (n ∷ ns) ss p.tree
    by more (ends t) is u f =
        let same : record { tree = t; most = most } ≡ p = cc in
        let tree : t ≡ p.tree = ap (λ (q : Part). q.tree) same in
        record {
          stop = n;
          walked = ends t;
          is = ap (λ (w : Walked). unless_gone n w (decide bundles ns ss)) is;
          ends = (tree, λ k. source_ends (bundles n) t ss is (ap kind_of tree ∙ k));
        }
    by more (links us walked []) is u f =
        let same : record { tree = alias us; most = most } ≡ p = cc in
        let tree : alias us ≡ p.tree = ap (λ (q : Part). q.tree) same in
        record {
          stop = n;
          walked = links us walked [];
          is = ap (λ (w : Walked). unless_gone n w (decide bundles ns ss)) is;
          ends = (sym tree, (u.0, ap alias_fault (sym tree) ∙ u.1));
        }
    by more (links us walked (s ∷ rest)) is u f = absurd u
    by more gone is u f =
        let first = more f in
        record { stop = first.stop; walked = first.walked; is = ap (λ (w : Walked). unless_gone n w (decide bundles ns ss)) is ∙ first.is; ends = first.ends }

-- each part there has the same room
rooms_in : (most : ℕ) (w : Walked) → AllByRecursion (λ p. p.most ≡ most) (ended most w)
rooms_in most (ends t) = (refl, tt)
rooms_in most (links us walked rest) = (refl, tt)
rooms_in most gone = tt

pub rooms : (most : ℕ) (bundles : Bundles) (ns ss : List (List ℕ)) → AllByRecursion (λ p. p.most ≡ most) (at_path most bundles ns ss)
rooms most bundles [] ss = tt
rooms most bundles (n ∷ ns) ss =
    all_append (λ (p : Part). p.most ≡ most) (ended most (walk_of (bundles n) ss)) (at_path most bundles ns ss) (rooms_in most (walk_of (bundles n) ss)) (rooms most bundles ns ss)

over_link : (w : Walked) → IsNoLink w → IsDirect w
over_link (ends t) h = tt
over_link (links us walked rest) h = absurd h
over_link gone h = tt

pub links_over : (bundles : Bundles) (ns ss : List (List ℕ)) → NoLinks bundles ns ss → AreDirect bundles ns ss
links_over bundles [] ss h = tt
links_over bundles (n ∷ ns) ss h = (over_link (walk_of (bundles n) ss) h.0, links_over bundles ns ss h.1)

-- ---- tables and their layers
abbrev pub AreTables : List Part → Type 0
AreTables ps = AllByRecursion (λ p. kind_of p.tree ≡ kind.Table) ps

pub layers_enter : (k : List ℕ) (ps : List Part) → AreTables ps → at_key k (map layered ps) ≡ enters k ps
layers_enter k [] h = refl
layers_enter k (p ∷ ps) h =
    ap (λ (o : Option Resource). parts_of o p.most ++ at_key k (map layered ps)) (sym (enter_table k p.tree h.0))
    ∙ ap (λ (l : List Part). parts_of (enter k p.tree) p.most ++ l) (layers_enter k ps h.1)

-- ---- lengths
-- the bytes of keys, each after a slash
abbrev pub keys_len : List (List ℕ) → ℕ
keys_len [] = 0
keys_len (k ∷ ks) = suc (length k) + keys_len ks

pub joined_len : (ss : List (List ℕ)) → length (join_with_byte 47 ss) ≡ keys_len ss - 1
joined_len [] = refl
joined_len (s ∷ []) = omega arith
joined_len (s ∷ t ∷ ss) = omega (arith, length-append s (47 ∷ join_with_byte 47 (t ∷ ss)), joined_len (t ∷ ss))

pub keys_append : (ss ks : List (List ℕ)) → keys_len (ss ++ ks) ≡ keys_len ss + keys_len ks
keys_append [] ks = omega arith
keys_append (s ∷ ss) ks = omega (arith, keys_append ss ks)

pub same_test : (a b c d : ℕ) → (a < b → c < d) → (c < d → a < b) → nat_lt a b ≡ nat_lt c d
same_test a b c d f g = by (nat_lt a b) refl (nat_lt c d) refl
  where
    by : (x : Bool) → nat_lt a b ≡ x → (y : Bool) → nat_lt c d ≡ y → x ≡ y
    by true e true i = refl
    by true e false i = absurd (let l = f (ltb-true a b e) in let m = ltb-false c d i in omega arith)
    by false e true i = absurd (let l = g (ltb-true c d i) in let m = ltb-false a b e in omega arith)
    by false e false i = refl
