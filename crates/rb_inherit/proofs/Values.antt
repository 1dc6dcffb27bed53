-- The values of places, as they are written.
use Rattle.std.proofs.Common.{◌≡◌, ◌++◌, ℕ, zero, suc, List, [], ◌∷◌, codes, refl, sym, subst}
use Rattle.serde_json.specs.Data.{Data, array, object}
use Rattle.serde_json.specs.View.{items_of}
use Rattle.serde_json.specs.Written.{compact_text}
use Rattle.rb_tree.specs.Parts.{children_of, kind_of}
use Rattle.rb_tree.specs.declared.kind.Kind.{Kind}
use Rattle.rb_tree.specs.declared.kind.Kind.TheVariants as kind
use Rattle.rb_fallback.specs.Words.{look_word}
use Rattle.rb_fallback.specs.declared.fault.LookError.{LookError}
use Rattle.rb_inherit.specs.Merged.{Here, IsItem, IsTree, IsValue, Layered, Part, error_data, fails, item, members_data, nothing, tables}
use Rattle.rb_inherit.specs.inner.Written.{IsLeafOf, WritesItems, WritesMembers}
use Rattle.rb_inherit.specs.Merged.{Writes}
use Rattle.rb_inherit.proofs.Texts.{items_taken, object_taken}

module _ {S : Type 0} (Takes : S → S → List ℕ → Type 0) (joined : (x y z : S) (a b : List ℕ) → Takes x y a → Takes y z b → Takes x z (a ++ b)) where
  pub array_value : (Is : ℕ → Here → Data → Type 0) (used : ℕ) (p : Part) (w x y z : S) → kind_of p.tree ≡ kind.Array → Takes w x (91 ∷ [])
      → WritesItems (Takes x y) Is used p.most (children_of p.tree) → Takes y z (93 ∷ []) → Writes (Takes w z) (IsValue Is used (item p))
  array_value Is used p w x y z k a i b = record {
    value = array (items_of i.items);
    takes = items_taken Takes joined w x y z i.items a i.takes b;
    is = subst (λ (q : Kind). IsItem Is used q p (array (items_of i.items))) (sym k) (i.items, (refl, i.are));
  }

  pub tables_value : (Is : ℕ → Here → Data → Type 0) (used : ℕ) (ls : List Layered) (w x y z : S) → Takes w x (123 ∷ [])
      → WritesMembers (Takes x y) Is used ls → Takes y z (125 ∷ []) → Writes (Takes w z) (IsValue Is used (tables ls))
  tables_value Is used ls w x y z a m b = record {
    value = object (members_data m.members);
    takes = object_taken Takes joined w x y z m.members a m.takes b;
    is = (m.members, (refl, m.are));
  }

deep_is : (levels used : ℕ) (h : Here) (d : Data) → levels ≡ zero → d ≡ error_data (codes "TooDeep") → IsTree levels used h d
unfolding IsTree
deep_is levels used h d e is = subst (λ (n : ℕ). IsTree n used h d) (sym e) is

tree_is : (levels below used : ℕ) (h : Here) (d : Data) → levels ≡ suc below → IsValue (IsTree below) used h d → IsTree levels used h d
unfolding IsTree
tree_is levels below used h d e is = subst (λ (n : ℕ). IsTree n used h d) (sym e) is

pub deep_value : (Takes : List ℕ → Type 0) (levels used : ℕ) (h : Here) → levels ≡ zero → Takes (compact_text (error_data (codes "TooDeep")))
    → Writes Takes (IsTree levels used h)
deep_value Takes levels used h e t = record { value = error_data (codes "TooDeep"); takes = t; is = deep_is levels used h (error_data (codes "TooDeep")) e refl }

pub level_value : (Takes : List ℕ → Type 0) (levels below used : ℕ) (h g : Here) → levels ≡ suc below → h ≡ g → Writes Takes (IsValue (IsTree below) used g)
    → Writes Takes (IsTree levels used h)
level_value Takes levels below used h g e same w = record {
  value = w.value;
  takes = w.takes;
  is = tree_is levels below used h w.value e (subst (λ (x : Here). IsValue (IsTree below) used x w.value) (sym same) w.is);
}

leaf_is : (Is : ℕ → Here → Data → Type 0) (used : ℕ) (k : Kind) (p : Part) (d : Data) → (k ≡ kind.Array → ⊥) → IsLeafOf k p.tree d → IsItem Is used k p d
leaf_is Is used kind.Array p d other is = absurd (other refl)
leaf_is Is used kind.Table p d other is = tt
leaf_is Is used kind.Alias p d other is = tt
leaf_is Is used _ p d other is = is

pub leaf_value : (Takes : List ℕ → Type 0) (levels below used : ℕ) (h : Here) (p : Part) → levels ≡ suc below → h ≡ item p → (kind_of p.tree ≡ kind.Array → ⊥)
    → Writes Takes (IsLeafOf (kind_of p.tree) p.tree) → Writes Takes (IsTree levels used h)
leaf_value Takes levels below used h p e same other w =
    level_value Takes levels below used h (item p) e same
    (record { value = w.value; takes = w.takes; is = leaf_is (IsTree below) used (kind_of p.tree) p w.value other w.is })

pub error_value : (Takes : List ℕ → Type 0) (levels below used : ℕ) (h : Here) (e : LookError) (code : List ℕ) → levels ≡ suc below → h ≡ fails e → code ≡ look_word e
    → Takes (compact_text (error_data code)) → Writes Takes (IsTree levels used h)
error_value Takes levels below used h e code l same c t =
    level_value Takes levels below used h (fails e) l same
    (record { value = error_data (look_word e); takes = subst (λ (x : List ℕ). Takes (compact_text (error_data x))) c t; is = refl })

pub missing_value : (Takes : List ℕ → Type 0) (levels below used : ℕ) (h : Here) → levels ≡ suc below → h ≡ nothing
    → Takes (compact_text (error_data (codes "Missing"))) → Writes Takes (IsTree levels used h)
missing_value Takes levels below used h l same t =
    level_value Takes levels below used h nothing l same (record { value = error_data (codes "Missing"); takes = t; is = refl })
