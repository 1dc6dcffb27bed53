-- A tree that names no other bundle.
use Rattle.std.proofs.Common.{◌≡◌, ◌⊎◌, ℕ, List, true, Option, None, Some, is_none, refl, ap, ◌∙◌, inl, inr}
use Rattle.std.proofs.lemmas.Bool.{and_parts}
use Rattle.rb_tree.specs.Resource.{Resource}
use Rattle.rb_tree.specs.Parts.{child_of}
use Rattle.rb_parents.specs.Trail.{alias_key, parent_key}
use Rattle.rb_packages.specs.inner.Names.{names_nothing}

none_is : {A : Type 0} (o : Option A) → is_none o ≡ true → o ≡ None
none_is None e = refl
none_is (Some a) e = cc

pub no_name : (t : Resource) (key : List ℕ) → names_nothing t ≡ true → (key ≡ alias_key) ⊎ (key ≡ parent_key) → child_of key t ≡ None
no_name t key h (inl e) = ap (λ k. child_of k t) e ∙ none_is _ (and_parts (is_none (child_of alias_key t)) (is_none (child_of parent_key t)) h).0
no_name t key h (inr e) = ap (λ k. child_of k t) e ∙ none_is _ (and_parts (is_none (child_of alias_key t)) (is_none (child_of parent_key t)) h).1
