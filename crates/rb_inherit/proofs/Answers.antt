-- The answers of lookups, as trees follow them.
use Rattle.std.proofs.Common.{◌≡◌, ◌↔◌, ◌++◌, ◌∙◌, ℕ, List, [], Option, Some, None, Result, Ok, Err, ap, sym}
use Rattle.rb_json.specs.Stored.{Stores}
use Rattle.rb_tree.specs.Resource.{Resource}
use Rattle.rb_tree.specs.Path.{IsPath, segments}
use Rattle.rb_parents.specs.Trail.{Bundles, ParentsOf}
use Rattle.rb_fallback.specs.Answers.{hit_of}
use Rattle.rb_fallback.specs.Search.{look_up}
use Rattle.rb_fallback.specs.declared.found.Found.{Found}
use Rattle.rb_fallback.specs.declared.fault.LookError.{LookError}
use Rattle.rb_fallback.specs.declared.fault.LookError.TheVariants as look
use Rattle.serde_json.specs.Written.{compact_text}
use Rattle.rb_fallback.specs.Search.{Hit}
use Rattle.rb_json.specs.Value.{value_of}
use Rattle.rb_inherit.specs.Lookups.{Follows, FollowsLookup, IsLookup, IsTreeOf}
use Rattle.rb_inherit.specs.declared.error.TreeError.{TreeError}
use Rattle.rb_inherit.specs.declared.error.TreeError.TheVariants as tree_error
use Rattle.rb_inherit.specs.declared.error.WalkError.{WalkError}
use Rattle.rb_inherit.specs.declared.error.WalkError.TheVariants as walk
use Rattle.rb_inherit.specs.inner.Ended.{ended}

pub no_lookup : (w : WalkError) (e : LookError) → ended w ≡ tree_error.Look e → ⊥
no_lookup walk.TooManySteps e h = cc
no_lookup walk.TreeTooLarge e h = cc
no_lookup walk.Memory e h = cc

same_error : {A : Type 0} (a b : TreeError) → (let r : Result A TreeError = Err a in r ≡ Err b) → a ≡ b
same_error a b h = cc

ok_is_no_error : {A : Type 0} (x : A) (e : TreeError) → (let r : Result A TreeError = Ok x in r ≡ Err e) → ⊥
ok_is_no_error x e h = absurd cc

-- a tree that ends has not the error of a lookup
pub not_lookup : {A : Type 0} (w : WalkError) (t : TreeError) → t ≡ ended w → (l : LookError)
    → (let r : Result A TreeError = Err t in r ≡ Err (tree_error.Look l)) → ⊥
not_lookup w t e l h = no_lookup w l (sym e ∙ same_error t (tree_error.Look l) h)

-- an error is that of another result
pub follows_error : {X Y : Type 0} (own icu : Bundles) (parents : ParentsOf) (n path : List ℕ) (P : X → Hit → Type 0) (Q : Y → Hit → Type 0) (t : TreeError)
    → FollowsLookup own icu parents n path P (Err t) → FollowsLookup own icu parents n path Q (Err t)
follows_error {X} {Y} own icu parents n path P Q t (answer, (is, follows)) = (answer, (is, by answer follows))
  where
    by : (a : Result Hit LookError) → Follows P (Err t) a → Follows Q (Err t) a
    by (Ok hit) h = (tt, λ l e. h.1 l (ap Err (same_error t (tree_error.Look l) e)))
    by (Err e) h = ap Err (same_error t (tree_error.Look e) h)

pub error_is_lookup : {N : Type 0} (tree : N → Resource) (own icu : Bundles) (parents : ParentsOf) (n path : List ℕ) (e : LookError)
    → ((let r : Result (Found N) LookError = Err e in r ≡ Err look.BadPath) ↔ (IsPath path → ⊥))
    → (IsPath path → Err e ≡ look_up own icu parents n (segments path)) → IsLookup own icu parents n path (Err e)
error_is_lookup tree own icu parents n path e bad search = record {
  bad_path = (λ h. bad.0 cc, λ none. let h = bad.1 none in cc);
  search = search;
}

pub found_is_lookup : {N : Type 0} (tree : N → Resource) (own icu : Bundles) (parents : ParentsOf) (n path : List ℕ) (f : Found N)
    → ((let r : Result (Found N) LookError = Ok f in r ≡ Err look.BadPath) ↔ (IsPath path → ⊥))
    → (IsPath path → Ok (hit_of tree f) ≡ look_up own icu parents n (segments path)) → IsLookup own icu parents n path (Ok (hit_of tree f))
found_is_lookup tree own icu parents n path f bad search = record {
  bad_path = (λ h. absurd cc, λ none. let h = bad.1 none in cc);
  search = search;
}

-- a tree that is stored otherwise is the same tree
pub same_tree : (bundles : Bundles) (parents : ParentsOf) (n path : List ℕ) (A B : List ℕ → Type 0) (hit : Hit) → ((text : List ℕ) → A text → B text)
    → IsTreeOf bundles parents n path A hit → IsTreeOf bundles parents n path B hit
same_tree bundles parents n path A B hit f x = record {
  leaf = λ l. f (compact_text (value_of hit.tree)) (x.leaf l);
  other = λ o. let w = x.other o in record { value = w.value; takes = f (compact_text w.value) w.takes; is = w.is };
}

pub follows_on : {X Y : Type 0} (own icu : Bundles) (parents : ParentsOf) (n path : List ℕ) (P : X → Hit → Type 0) (Q : Y → Hit → Type 0) (x : X) (y : Y)
    → ((hit : Hit) → P x hit → Q y hit) → FollowsLookup own icu parents n path P (Ok x) → FollowsLookup own icu parents n path Q (Ok y)
follows_on {X} {Y} own icu parents n path P Q x y f (answer, (is, follows)) = (answer, (is, by answer follows))
  where
    by : (a : Result Hit LookError) → Follows P (Ok x) a → Follows Q (Ok y) a
    by (Ok hit) h = (f hit h.0, λ l e. ok_is_no_error y (tree_error.Look l) e)
    by (Err e) h = absurd cc

-- what an empty buffer stores is all of its text
pub stored_text : (old new : Option (List ℕ)) (text bytes : List ℕ) → old ≡ Some [] → new ≡ Some text → Stores old new bytes → text ≡ bytes
stored_text None new text bytes e f h = absurd cc
stored_text (Some start) None text bytes e f h = absurd cc
stored_text (Some start) (Some all) text bytes e f h =
    let empty : start ≡ [] = cc in
    let same : text ≡ all = cc in
    same ∙ (h ∙ ap (λ (l : List ℕ). l ++ bytes) empty)
