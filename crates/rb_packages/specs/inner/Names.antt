-- Defines what is cached beside a bundle, for proofs only.
use Rattle.std.specs.Prelude.{◌≡◌, ◌&&◌, ℕ, List, Bool, IsTrue, is_none}
use Rattle.rb_tree.specs.Resource.{Resource}
use Rattle.rb_tree.specs.Parts.{child_of}
use Rattle.rb_format.specs.File.{source_tree_of, tree_of}
use Rattle.rb_parents.specs.Trail.{alias_key, parent_key}
use Rattle.rb_views.specs.Root.{IsRootPlace}

-- a tree has neither `%%ALIAS` nor `%%Parent`
abbrev pub names_nothing : Resource → Bool
names_nothing t = is_none (child_of alias_key t) && is_none (child_of parent_key t)

pub record IsStoredBundle (bytes : List ℕ) (header root_word : ℕ) (no_fallback lacks_names : Bool) : Type 0 where
  pub place : IsRootPlace bytes (record { header = header; word = root_word })
  pub flag : no_fallback ≡ (source_tree_of bytes).no_fallback
  pub plain : IsTrue lacks_names → IsTrue (names_nothing (tree_of bytes))
